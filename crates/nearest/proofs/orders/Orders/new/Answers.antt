-- `nearest::orders::Orders::new` meets its contract. Assumes nothing.
use mathlib.Core.List.{[]}
use Prim.Native.Nat.{ℕ}
use Rattle.sets.proofs.Making.{tab-made}
use Rattle.gathering.specs.Order.{order_of, order_in}
use Rattle.nearest.specs.Orders.{orders_of}
use borrow.Author.Rules.{rules}
use Rattle.nearest.proofs.orders.Orders.new.Goals as goal

pub invariant_of-result-clause-orderly : goal.invariant_of-result-clause-orderly
unfolding orders_of
invariant_of-result-clause-orderly c = tab-made _ (λ (v : ℕ). order_in (order_of c.args.near c.args.set v)) _ (λ v o f r. search rules) _ 20 (record { qubit = []; len = 0 }) c.from_fn.ensures.items
