use Prim.Native.Nat.{◌-◌}
use Rattle.gathering.proofs.OrderCode.{Ordering}
use Rattle.gathering.proofs.gather.by_distance.Given as goal

abbrev pub invariant-loop-len : goal.invariant-loop-len
invariant-loop-len l = Ordering l.near l.set l.v l.qubit l.len l.done l.left

abbrev pub decreases-loop-len : goal.decreases-loop-len
decreases-loop-len l = 20 - l.len
