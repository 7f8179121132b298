use mathlib.Core.Path.{◌≡◌}
use mathlib.Core.Bool.{not}
use Prim.Native.Nat.{◌-◌, ◌≤◌, min}
use lib.Dec.{eqb}
use lib.ListN.{length, get_or}
use Rattle.sets.proofs.Tabling.{Marked}
use Rattle.steps.proofs.selection.live.Given as goal

abbrev pub invariant-loop-k : goal.invariant-loop-k
invariant-loop-k l = (l.k ≤ l.n) × (l.n ≡ min (length l.cols) 256) × (length l.z ≡ 256) × Marked (λ j. not (eqb (get_or l.cols j 0) 0)) l.k l.z

abbrev pub decreases-loop-k : goal.decreases-loop-k
decreases-loop-k l = l.n - l.k
