-- `nearest::orders::Orders::works` meets its contract. Assumes nothing.
use borrow.Author.Tests.{eqb-true}
use Rattle.nearest.proofs.Wholes.{works}
use Rattle.nearest.proofs.orders.Orders.works.Goals as goal

pub returns-then-self : goal.returns-then-self
returns-then-self c = λ t. works _ _ _ (c.args.self.now.certain c.if-self.true) (eqb-true _ _ t)
