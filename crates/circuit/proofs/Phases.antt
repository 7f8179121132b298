-- The common phase of a list of gates, and phases put together. Assumes nothing.
use mathlib.Core.Path.{◌≡◌, refl, ap, ◌∙◌}
use mathlib.Core.List.{List, [], ◌∷◌, ◌++◌}
use Prim.Native.Nat.{ℕ, ◌+◌, ◌%◌, ◌<◌}
use native.Mathlib.Omega.{arith}
use Rattle.gates.specs.declared.gate.Gate.{Gate}
use Rattle.circuit.specs.Flips.{flip_step, flip_run, no_flips}
use Rattle.circuit.specs.Phase.{shifts_on, shifted, phase_of, phases}

shifted-append : (g h : List Gate) (F : List ℕ) → shifted (g ++ h) F ≡ shifted g F + shifted h (flip_run g F)
unfolding shifted flip_run
shifted-append [] h F = omega arith
shifted-append (x ∷ g) h F = ap (λ (m : ℕ). shifts_on x F + m) (shifted-append g h (flip_step x F)) ∙ omega arith

pub phase-append : (g h : List Gate) → phase_of (g ++ h) ≡ (phase_of g + shifted h (flip_run g no_flips)) % 131072
unfolding phase_of
phase-append g h = ap (λ (m : ℕ). m % 131072) (shifted-append g h no_flips) ∙ omega arith

pub phase-snoc : (gs : List Gate) (g : Gate) → phase_of (gs ++ g ∷ []) ≡ (phase_of gs + shifts_on g (flip_run gs no_flips)) % 131072
unfolding shifted
phase-snoc gs g = phase-append gs (g ∷ []) ∙ omega arith

pub phase-small : (gs : List Gate) → phase_of gs < 131072
unfolding phase_of
phase-small gs = omega arith

pub phase-zero : phase_of [] ≡ 0
unfolding phase_of shifted
phase-zero = refl

-- ---- two together

pub phases-lt : (a b : ℕ) → phases a b < 131072
unfolding phases
phases-lt a b = omega arith

pub phases-none : (a : ℕ) → a < 131072 → phases 0 a ≡ a
unfolding phases
phases-none a h = omega arith

-- reduced once, reduced for good
pub phases-again : (a b : ℕ) → phases (phases a b) 0 ≡ phases a b
unfolding phases
phases-again a b = omega arith

pub phases-over : (a b c : ℕ) → phases (phases a b) c ≡ phases a (phases b c)
unfolding phases
phases-over a b c = omega arith
