-- Lists of gates: the wires and the sums of a concatenation. Assumes nothing.
use mathlib.Core.Path.{◌≡◌, refl, ap, ◌∙◌}
use mathlib.Core.List.{List, [], ◌∷◌, ◌++◌}
use Prim.Native.Nat.{ℕ, ◌+◌, ◌^◌, ◌<◌}
use native.Mathlib.Omega.{arith}
use lib.ListN.{length, get_or}
use Rattle.sets.proofs.Comb.{length-units, get_or-units}
use Rattle.gates.specs.declared.gate.Gate.{Gate}
use Rattle.circuit.specs.Circuit.{step, run, start, final_of, gives, given}
use Rattle.circuit.proofs.Steps.{step-length}

pub run_none : (W : List ℕ) → run [] W ≡ W
unfolding run
run_none W = refl

pub run-cons : (g : Gate) (gs : List Gate) (W : List ℕ) → run (g ∷ gs) W ≡ run gs (step g W)
unfolding run
run-cons g gs W = refl

pub run-append : (g h : List Gate) (W : List ℕ) → run (g ++ h) W ≡ run h (run g W)
unfolding run
run-append [] h W = refl
run-append (x ∷ g) h W = run-append g h (step x W)

pub run-snoc : (gs : List Gate) (g : Gate) (W : List ℕ) → run (gs ++ g ∷ []) W ≡ step g (run gs W)
unfolding run
run-snoc gs g W = run-append gs (g ∷ []) W

pub run_length : (gs : List Gate) (W : List ℕ) → length (run gs W) ≡ length W
unfolding run
run_length [] W = refl
run_length (g ∷ gs) W = run_length gs (step g W) ∙ step-length g W

pub given-none : (p : ℕ) (W : List ℕ) → given p [] W ≡ 0
unfolding given
given-none p W = refl

pub given-cons : (p : ℕ) (g : Gate) (gs : List Gate) (W : List ℕ) → given p (g ∷ gs) W ≡ gives p g W + given p gs (step g W)
unfolding given
given-cons p g gs W = refl

-- the sums of a concatenation
pub given-append : (p : ℕ) (g h : List Gate) (W : List ℕ) → given p (g ++ h) W ≡ given p g W + given p h (run g W)
unfolding run given
given-append p [] h W = omega arith
given-append p (x ∷ g) h W = ap (λ (n : ℕ). gives p x W + n) (given-append p g h (step x W)) ∙ omega arith

pub given-snoc : (p : ℕ) (gs : List Gate) (g : Gate) (W : List ℕ) → given p (gs ++ g ∷ []) W ≡ given p gs W + gives p g (run gs W)
unfolding given
given-snoc p gs g W = given-append p gs (g ∷ []) W ∙ omega arith

-- ---- from the start

pub start-length : length start ≡ 20
unfolding start
start-length = length-units 20

pub final-is : (gs : List Gate) (i : ℕ) → final_of gs i ≡ get_or (run gs start) i 0
unfolding final_of
final-is gs i = refl

pub start-at : (i : ℕ) → i < 20 → get_or start i 0 ≡ 2 ^ i
unfolding start
start-at i h = get_or-units 20 i h
