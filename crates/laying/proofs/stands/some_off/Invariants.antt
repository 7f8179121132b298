use Prim.Native.Nat.{◌-◌}
use Rattle.laying.proofs.Standing.{Seeking}
use Rattle.laying.proofs.stands.some_off.Given as goal

abbrev pub invariant-loop-i : goal.invariant-loop-i
invariant-loop-i l = Seeking l.set l.asked l.i

abbrev pub decreases-loop-i : goal.decreases-loop-i
decreases-loop-i l = 20 - l.i
