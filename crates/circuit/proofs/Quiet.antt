-- Lists of gates with no angle on a flipped wire, as they are laid: what they give is what they give without flips, and their common phase is 0. Assumes nothing.
use mathlib.Core.Path.{◌≡◌, refl, sym, ap, ap₂, ◌∙◌, subst}
use mathlib.Core.Bool.{Bool}
use mathlib.Core.List.{List, [], ◌∷◌, ◌++◌}
use Prim.Native.Nat.{ℕ, ◌+◌, ◌-◌, ◌*◌, ◌%◌}
use lib.Dec.{eqb}
use lib.Bits.{bit_xor, xor_zero_l}
use lib.ListN.{get_or, set}
use lib.Seq.{set-get_or}
use borrow.Author.Tests.{eq-eqb}
use Rattle.sets.specs.Pick.{pick}
use Rattle.sets.specs.Columns.{cnot}
use Rattle.gates.specs.declared.gate.Gate.{Gate}
use Rattle.gates.specs.declared.gate.Gate.TheVariants.{Cnot, Rotation, X, Bad}
use Rattle.sets.specs.Lists.{All}
use Rattle.circuit.specs.Circuit.{step, start, gives, given, takes, gives_on, given_on, sum_of}
use Rattle.circuit.specs.Flips.{flip_step, flip_run, no_flips}
use Rattle.circuit.specs.Phase.{shifts, shifts_on, shifted, phase_of}

-- from the flips F on
unfoldable pub Quiet : List Gate → List ℕ → Type 0
Quiet [] F = Unit {0}
Quiet (Cnot c t ∷ gs) F = Quiet gs (flip_step (Cnot c t) F)
Quiet (Rotation q a ∷ gs) F = (get_or F q 0 ≡ 0) × Quiet gs F
Quiet (X q ∷ gs) F = Quiet gs (flip_step (X q) F)
Quiet (Bad ∷ gs) F = Quiet gs F

pub quiet-append : (g h : List Gate) (F : List ℕ) → Quiet g F → Quiet h (flip_run g F) → Quiet (g ++ h) F
unfolding Quiet flip_run flip_step
quiet-append [] h F a b = b
quiet-append (Cnot c t ∷ g) h F a b = quiet-append g h (flip_step (Cnot c t) F) a b
quiet-append (Rotation q v ∷ g) h F a b = (a.0, quiet-append g h F a.1 b)
quiet-append (X q ∷ g) h F a b = quiet-append g h (flip_step (X q) F) a b
quiet-append (Bad ∷ g) h F a b = quiet-append g h F a b

-- they give what they give without flips
quiet-given : (p : ℕ) (gs : List Gate) (W F : List ℕ) → Quiet gs F → given_on p gs W F ≡ given p gs W
unfolding Quiet given given_on gives gives_on flip_step takes
quiet-given p [] W F h = refl
quiet-given p (Cnot c t ∷ gs) W F h = ap (λ (m : ℕ). 0 + m) (quiet-given p gs (step (Cnot c t) W) (flip_step (Cnot c t) F) h)
quiet-given p (Rotation q a ∷ gs) W F h =
    ap₂ (λ (x y : ℕ). x + y) (ap (λ (b : Bool). pick (eqb (get_or W q 0) p) (pick b a ((65536 - a % 65536) % 65536)) 0) (eq-eqb (get_or F q 0) 0 h.0))
    (quiet-given p gs (step (Rotation q a) W) F h.1)
quiet-given p (X q ∷ gs) W F h = ap (λ (m : ℕ). 0 + m) (quiet-given p gs (step (X q) W) (flip_step (X q) F) h)
quiet-given p (Bad ∷ gs) W F h = ap (λ (m : ℕ). 0 + m) (quiet-given p gs (step Bad W) F h)

-- and add nothing to the common phase
quiet-shifted : (gs : List Gate) (F : List ℕ) → Quiet gs F → shifted gs F ≡ 0
unfolding Quiet shifted shifts_on flip_step shifts
quiet-shifted [] F h = refl
quiet-shifted (Cnot c t ∷ gs) F h = ap (λ (m : ℕ). 0 + m) (quiet-shifted gs (flip_step (Cnot c t) F) h)
quiet-shifted (Rotation q a ∷ gs) F h =
    ap₂ (λ (x y : ℕ). x + y) (ap (λ (b : Bool). pick b 0 (2 * (a % 65536))) (eq-eqb (get_or F q 0) 0 h.0)) (quiet-shifted gs F h.1)
quiet-shifted (X q ∷ gs) F h = ap (λ (m : ℕ). 0 + m) (quiet-shifted gs (flip_step (X q) F) h)
quiet-shifted (Bad ∷ gs) F h = ap (λ (m : ℕ). 0 + m) (quiet-shifted gs F h)

pub sum_is : (p : ℕ) (gs : List Gate) → Quiet gs no_flips → sum_of p gs ≡ given p gs start % 65536
unfolding sum_of
sum_is p gs h = ap (λ (m : ℕ). m % 65536) (quiet-given p gs start no_flips h)

pub phase-none : (gs : List Gate) → Quiet gs no_flips → phase_of gs ≡ 0
unfolding phase_of
phase-none gs h = ap (λ (m : ℕ). m % 131072) (quiet-shifted gs no_flips h)

-- a CNOT whose control is not flipped changes no flip
cnot-calm : (c t : ℕ) (F : List ℕ) → get_or F c 0 ≡ 0 → flip_step (Cnot c t) F ≡ F
unfolding flip_step cnot
cnot-calm c t F z = ap (λ (v : ℕ). set F t (bit_xor v (get_or F t 0))) z ∙ ap (set F t) (xor_zero_l (get_or F t 0)) ∙ set-get_or F t 0

-- a gate that is no X and finds neither its control nor its qubit flipped
unfoldable pub Calm : List ℕ → Gate → Type 0
Calm F (Cnot c t) = get_or F c 0 ≡ 0
Calm F (Rotation q a) = get_or F q 0 ≡ 0
Calm F (X q) = ⊥
Calm F Bad = Unit {0}

-- such gates flip nothing, and no angle is on a flipped wire
module _ (F : List ℕ) where
  pub calm-flips : (gs : List Gate) → All (Calm F) gs → flip_run gs F ≡ F
  unfolding All Calm flip_run flip_step
  calm-flips [] a = refl
  calm-flips (Cnot c t ∷ gs) a = ap (flip_run gs) (cnot-calm c t F a.0) ∙ calm-flips gs a.1
  calm-flips (Rotation q v ∷ gs) a = calm-flips gs a.1
  calm-flips (X q ∷ gs) a = absurd a.0
  calm-flips (Bad ∷ gs) a = calm-flips gs a.1

  pub calm-quiet : (gs : List Gate) → All (Calm F) gs → Quiet gs F
  unfolding All Calm Quiet
  calm-quiet [] a = tt
  calm-quiet (Cnot c t ∷ gs) a = subst (Quiet gs) (sym (cnot-calm c t F a.0)) (calm-quiet gs a.1)
  calm-quiet (Rotation q v ∷ gs) a = (a.0, calm-quiet gs a.1)
  calm-quiet (X q ∷ gs) a = absurd a.0
  calm-quiet (Bad ∷ gs) a = calm-quiet gs a.1
