-- `nearest::orders::Orders::over_column` meets its contract. Assumes nothing.
use Rattle.nearest.proofs.Sureness.{over-same}
use Rattle.nearest.proofs.orders.Orders.over_column.Goals as goal

pub returns-then-works : goal.returns-then-works
returns-then-works c = over-same _ _ _ _ _ _ (c.works.ensures c.if-works.true) c.size.ensures c.if-is_farther.true
