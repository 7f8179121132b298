-- The entry point: the columns of one qubit first, then the base step. Assumes nothing.
use mathlib.Core.Path.{◌≡◌, ap₂, ◌∙◌}
use mathlib.Core.Bool.{Bool}
use mathlib.Core.List.{List}
use Prim.Native.Nat.{ℕ}
use Rattle.sets.specs.Size.{size_of}
use Rattle.columns.specs.Pieces.{Memory, held, wrote}
use Rattle.columns.specs.Striking.{strike_off}
use Rattle.columns.proofs.Piecing.{wrote_on}
use Rattle.steps.specs.Selection.{live_of}
use Rattle.steps.specs.Steps.{base_step, steps_for}

pub entry-wrote : (near : List ℕ) (Q : ℕ) (ps angles out : List ℕ) (at : ℕ) {ys o : List ℕ} {a q : ℕ} {live : List Bool} {w : Memory} → held ys o a ≡ wrote out at (strike_off angles ps) → live ≡ live_of ys → q ≡ size_of Q
    → w ≡ wrote o a (base_step q near angles Q live ys) → w ≡ wrote out at (steps_for near Q ps angles)
unfolding steps_for
entry-wrote near Q ps angles out at {ys} {o} {a} e el eq h =
    wrote_on out at (strike_off angles ps) (λ xs. base_step (size_of Q) near angles Q (live_of xs) xs) e
    (h ∙ ap₂ (λ (i : ℕ) (u : List Bool). wrote o a (base_step i near angles Q u ys)) eq el)
