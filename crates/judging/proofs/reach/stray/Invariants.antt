use mathlib.Core.Path.{◌≡◌}
use Prim.Native.Nat.{◌-◌}
use Rattle.sets.specs.Search.{first_of}
use Rattle.judging.specs.Tests.{leaves_at}
use Rattle.judging.proofs.reach.stray.Given as goal

abbrev pub invariant-loop-i : goal.invariant-loop-i
invariant-loop-i l = first_of (leaves_at l.islands l.parity) (l.n - l.i) l.i ≡ first_of (leaves_at l.islands l.parity) l.n 0
