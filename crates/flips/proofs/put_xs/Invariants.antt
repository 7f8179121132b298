use Prim.Native.Nat.{◌-◌}
use Rattle.flips.proofs.Putting.{Put}
use Rattle.flips.proofs.put_xs.Given as goal

abbrev pub invariant-loop-q : goal.invariant-loop-q
invariant-loop-q l = Put l.set l.flip l.initial.out l.at l.q l.out l.next

abbrev pub decreases-loop-q : goal.decreases-loop-q
decreases-loop-q l = 20 - l.q
