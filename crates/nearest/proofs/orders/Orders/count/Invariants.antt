use Prim.Native.Nat.{◌-◌}
use lib.ListN.{length}
use Rattle.gathering.specs.Order.{order_of}
use Rattle.gathering.specs.Gather.{gather_of}
use Rattle.nearest.proofs.Counting.{Counting}
use Rattle.nearest.proofs.Wholes.{Bounded}
use Rattle.nearest.proofs.orders.Orders.count.Given as goal

abbrev pub invariant-loop-u : goal.invariant-loop-u
invariant-loop-u l =
    (goal.iterator-loop-u).can_next l.u-iterator × (goal.iterator-loop-u).is_finite l.u-iterator
    × Counting l.self.near (order_of l.self.near l.self.set l.v) (length (order_of l.self.near l.self.set l.v) - 1 - length l.yielded) l.earlier l.left l.n (length (gather_of l.self.near l.self.set l.v l.x))
    × Bounded l.self.near (order_of l.self.near l.self.set l.v) (length (order_of l.self.near l.self.set l.v) - 1 - length l.yielded) l.earlier l.left l.n l.bound
