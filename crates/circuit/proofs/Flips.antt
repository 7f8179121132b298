-- Flips of lists of gates; a flip is 0 or 1. Assumes nothing.
use mathlib.Core.Path.{◌≡◌, refl, ◌∙◌}
use mathlib.Core.List.{List, [], ◌∷◌, ◌++◌}
use Prim.Native.Nat.{ℕ, zero, suc, ◌<◌}
use native.Mathlib.Omega.{arith}
use native.Mathlib.Decide.{ℕ_discrete, dec_lt}
use lib.Bits.{xor_lt}
use lib.ListN.{length, get_or, set, replicate, length-set, length-replicate}
use lib.Seq.{set_out, get_or-set_same, get_or-set_other}
use Rattle.sets.specs.Columns.{cnot}
use Rattle.gates.specs.declared.gate.Gate.{Gate}
use Rattle.gates.specs.declared.gate.Gate.TheVariants.{Cnot, Rotation, X, Bad}
use Rattle.circuit.specs.Flips.{flip_step, flip_run, no_flips, flip_of}
use Rattle.circuit.proofs.Steps.{cnot-length}

pub flip-none : (F : List ℕ) → flip_run [] F ≡ F
unfolding flip_run
flip-none F = refl

pub flip-append : (g h : List Gate) (F : List ℕ) → flip_run (g ++ h) F ≡ flip_run h (flip_run g F)
unfolding flip_run
flip-append [] h F = refl
flip-append (x ∷ g) h F = flip-append g h (flip_step x F)

pub flip-snoc : (gs : List Gate) (g : Gate) (F : List ℕ) → flip_run (gs ++ g ∷ []) F ≡ flip_step g (flip_run gs F)
unfolding flip_run
flip-snoc gs g F = flip-append gs (g ∷ []) F

flip-step-length : (g : Gate) (F : List ℕ) → length (flip_step g F) ≡ length F
unfolding flip_step
flip-step-length (Cnot c t) F = cnot-length c t F
flip-step-length (Rotation q a) F = refl
flip-step-length (X q) F = length-set F q _
flip-step-length Bad F = refl

pub flip-length : (gs : List Gate) (F : List ℕ) → length (flip_run gs F) ≡ length F
unfolding flip_run
flip-length [] F = refl
flip-length (g ∷ gs) F = flip-length gs (flip_step g F) ∙ flip-step-length g F

pub none-length : length no_flips ≡ 20
unfolding no_flips
none-length = length-replicate {A = ℕ} 20 0

pub flip_is : (gs : List Gate) (i : ℕ) → flip_of gs i ≡ get_or (flip_run gs no_flips) i 0
unfolding flip_of
flip_is gs i = refl

-- ---- a flip is 0 or 1

pub record Flips (F : List ℕ) : Type 0 where
  pub small : (i : ℕ) → get_or F i 0 < 2

flips-set : (F : List ℕ) (t v : ℕ) → v < 2 → Flips F → Flips (set F t v)
flips-set F t v l f = record { small = λ i. go i (ℕ_discrete i t) (dec_lt t (length F)) }
  where
    go : (i : ℕ) → Dec (i ≡ t) → Dec (t < length F) → get_or (set F t v) i 0 < 2
    go i (yes e) (yes h) = rw e (rw (get_or-set_same F t v 0 h) l)
    go i (yes e) (no h) = rw (set_out F t v (omega arith)) (f.small i)
    go i (no d) h = rw (get_or-set_other F t i v 0 d) (f.small i)

flips-step : (g : Gate) (F : List ℕ) → Flips F → Flips (flip_step g F)
unfolding flip_step cnot
flips-step (Cnot c t) F f = flips-set F t _ (xor_lt 1 (get_or F c 0) (get_or F t 0) (f.small c) (f.small t)) f
flips-step (Rotation q a) F f = f
flips-step (X q) F f = flips-set F q _ (xor_lt 1 1 (get_or F q 0) (omega arith) (f.small q)) f
flips-step Bad F f = f

pub flips-run : (gs : List Gate) (F : List ℕ) → Flips F → Flips (flip_run gs F)
unfolding flip_run
flips-run [] F f = f
flips-run (g ∷ gs) F f = flips-run gs (flip_step g F) (flips-step g F f)

none-at : (n i : ℕ) → ◌≡◌ {A = ℕ} (get_or (replicate n 0) i 0) 0
none-at zero i = refl
none-at (suc n) zero = refl
none-at (suc n) (suc i) = none-at n i

pub none-flipped : (i : ℕ) → get_or no_flips i 0 ≡ 0
unfolding no_flips
none-flipped i = none-at 20 i

pub flips-none : Flips no_flips
flips-none = record { small = λ i. omega (arith, none-flipped i) }
