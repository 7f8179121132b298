-- One gate: what it does to the wires, to their number and to the angles. Assumes nothing.
use mathlib.Core.Path.{◌≡◌, refl, ap, ◌∙◌}
use mathlib.Core.Logic.{◌≢◌}
use mathlib.Core.List.{List}
use Prim.Native.Nat.{ℕ, ◌≤◌, ◌<◌}
use lib.ListN.{length, get_or, set, length-set, get_or-eq_default}
use lib.Seq.{set_out, set-get_or, get_or-set_same, get_or-set_other}
use lib.Bits.{bit_xor, xor_zero_l}
use borrow.Author.Tests.{eq-eqb, ne_eqb}
use Rattle.sets.specs.Columns.{cnot}
use Rattle.gates.specs.declared.gate.Gate.{Gate}
use Rattle.gates.specs.declared.gate.Gate.TheVariants.{Cnot, Rotation, X, Bad}
use Rattle.circuit.specs.Circuit.{step, gives}

-- ---- a CNOT

pub cnot-past-target : (c t : ℕ) (W : List ℕ) → length W ≤ t → cnot c t W ≡ W
unfolding cnot
cnot-past-target c t W h = set_out W t _ h

pub cnot-past-control : (c t : ℕ) (W : List ℕ) → length W ≤ c → cnot c t W ≡ W
unfolding cnot
cnot-past-control c t W h =
    ap (λ (v : ℕ). set W t (bit_xor v (get_or W t 0))) (get_or-eq_default W 0 h) ∙ ap (set W t) (xor_zero_l (get_or W t 0)) ∙ set-get_or W t 0

-- "makes its target's parity the exclusive or of the two"
pub cnot-target : (c t : ℕ) (W : List ℕ) → t < length W → get_or (cnot c t W) t 0 ≡ bit_xor (get_or W c 0) (get_or W t 0)
unfolding cnot
cnot-target c t W h = get_or-set_same W t _ 0 h

-- every other wire keeps its parity, the control too
pub cnot-other : (c t i : ℕ) (W : List ℕ) → i ≢ t → get_or (cnot c t W) i 0 ≡ get_or W i 0
unfolding cnot
cnot-other c t i W ne = get_or-set_other W t i _ 0 ne

pub cnot-length : (c t : ℕ) (W : List ℕ) → length (cnot c t W) ≡ length W
unfolding cnot
cnot-length c t W = length-set W t _

-- ---- a gate

pub step-cnot : (c t : ℕ) (W : List ℕ) → step (Cnot c t) W ≡ cnot c t W
unfolding step
step-cnot c t W = refl

pub step-rotation : (q a : ℕ) (W : List ℕ) → step (Rotation q a) W ≡ W
unfolding step
step-rotation q a W = refl

pub step-length : (g : Gate) (W : List ℕ) → length (step g W) ≡ length W
unfolding step
step-length (Cnot c t) W = cnot-length c t W
step-length (Rotation q a) W = refl
step-length (X q) W = refl
step-length Bad W = refl

-- ---- the angle that a gate gives

pub gives-cnot : (p c t : ℕ) (W : List ℕ) → gives p (Cnot c t) W ≡ 0
unfolding gives
gives-cnot p c t W = refl

pub gives-x : (p q : ℕ) (W : List ℕ) → gives p (X q) W ≡ 0
unfolding gives
gives-x p q W = refl

pub gives-bad : (p : ℕ) (W : List ℕ) → gives p Bad W ≡ 0
unfolding gives
gives-bad p W = refl

pub gives-borne : (p q a : ℕ) (W : List ℕ) → get_or W q 0 ≡ p → gives p (Rotation q a) W ≡ a
unfolding gives
gives-borne p q a W e = simp (eq-eqb (get_or W q 0) p e)

pub gives_other : (p q a : ℕ) (W : List ℕ) → get_or W q 0 ≢ p → gives p (Rotation q a) W ≡ 0
unfolding gives
gives_other p q a W ne = simp (ne_eqb (get_or W q 0) p ne)
