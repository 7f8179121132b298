use Prim.Native.Nat.{◌-◌}
use Rattle.laying.proofs.Walking.{Walked}
use Rattle.laying.proofs.lay.lay_on.Given as goal

abbrev pub invariant-loop-q : goal.invariant-loop-q
invariant-loop-q l = Walked l.n l.near l.gates l.initial.out l.q l.out l.at

abbrev pub decreases-loop-q : goal.decreases-loop-q
decreases-loop-q l = l.n - l.q
