use Prim.Native.Nat.{◌≤◌, ◌-◌}
use Rattle.chip.proofs.Order.{Listing}
use Rattle.chip.proofs.couplers.in_order.Given as goal

abbrev pub invariant-loop-k : goal.invariant-loop-k
invariant-loop-k l = (l.k ≤ 400) × Listing l.near l.k l.records l.len

abbrev pub decreases-loop-k : goal.decreases-loop-k
decreases-loop-k l = 400 - l.k
