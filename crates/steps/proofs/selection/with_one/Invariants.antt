use mathlib.Core.Path.{◌≡◌}
use mathlib.Core.Bool.{false}
use Prim.Native.Nat.{◌-◌, ◌≤◌, min}
use lib.ListN.{length, get_or}
use Rattle.sets.proofs.Tabling.{Marked}
use Rattle.steps.specs.Selection.{one_at}
use Rattle.steps.proofs.selection.with_one.Given as goal

abbrev pub invariant-loop-k : goal.invariant-loop-k
invariant-loop-k l = (l.k ≤ l.n) × (l.n ≡ min (length l.cols) 256) × (length l.z ≡ 256) × Marked (λ j. one_at l.r (get_or l.sel j false) (get_or l.cols j 0)) l.k l.z

abbrev pub decreases-loop-k : goal.decreases-loop-k
decreases-loop-k l = l.n - l.k
