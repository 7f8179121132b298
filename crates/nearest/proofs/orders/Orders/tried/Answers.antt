-- `nearest::orders::Orders::tried` meets its contract. Assumes nothing.
use Rattle.nearest.proofs.Choosing.{tried-nearer, tried-farther}
use Rattle.nearest.proofs.orders.Orders.tried.Goals as goal

pub returns-then-n-b : goal.returns-then-n-b
returns-then-n-b c = tried-nearer _ _ _ _ _ _ _ c.requires.1 c.count-n.ensures c.if-n-b.true

pub returns : goal.returns
returns c = tried-farther _ _ _ _ _ _ _ c.requires.1 c.count-n.ensures c.if-n-b.false
