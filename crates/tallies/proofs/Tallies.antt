-- Counts and depth of lists of gates. Assumes nothing.
use mathlib.Core.Path.{◌≡◌, refl}
use mathlib.Core.Bool.{Bool, true, false, cond}
use Rattle.std.specs.List.{count_by}
use Rattle.std.proofs.lemmas.List.Recursion.{is_count_by}
use mathlib.Core.List.{List, [], ◌∷◌, ◌++◌}
use Prim.Native.Nat.{ℕ, ◌+◌, ◌-◌, ◌*◌, ◌≤◌}
use native.Mathlib.Nat.{mul-le-mul_left, mul-le-mul_right}
use native.Mathlib.Omega.{arith}
use lib.ListN.{length}
use Rattle.gates.specs.Limits.{most_qubits, most_parities}
use Rattle.gates.specs.declared.gate.Gate.{Gate}
use Rattle.gates.specs.declared.gate.Gate.TheVariants.{Cnot, Rotation, X, Bad}
use Rattle.gates.specs.Layout.{gate_of, gates_of}
use Rattle.tallies.specs.Tally.{tally, one_cnot, one_rotation, cnots_of, rotations_of, bound_of, largest}

-- ---- sums of weights

pub tally-append : (f : Gate → ℕ) (g h : List Gate) → tally f (g ++ h) ≡ tally f g + tally f h
unfolding tally
tally-append f [] h = omega arith
tally-append f (x ∷ g) h = omega (arith, tally-append f g h)

pub cnots-append : (g h : List Gate) → cnots_of (g ++ h) ≡ cnots_of g + cnots_of h
unfolding cnots_of
cnots-append g h = tally-append one_cnot g h

pub rotations-append : (g h : List Gate) → rotations_of (g ++ h) ≡ rotations_of g + rotations_of h
unfolding rotations_of
rotations-append g h = tally-append one_rotation g h

pub cnots-none : cnots_of [] ≡ 0
unfolding cnots_of tally
cnots-none = refl

pub cnots-cnot : (c t : ℕ) → cnots_of (Cnot c t ∷ []) ≡ 1
unfolding cnots_of tally
cnots-cnot c t = refl

pub cnots-rotation : (q a : ℕ) → cnots_of (Rotation q a ∷ []) ≡ 0
unfolding cnots_of tally
cnots-rotation q a = refl

pub rotations-none : rotations_of [] ≡ 0
unfolding rotations_of tally
rotations-none = refl

pub rotations-cnot : (c t : ℕ) → rotations_of (Cnot c t ∷ []) ≡ 0
unfolding rotations_of tally
rotations-cnot c t = refl

pub rotations-rotation : (q a : ℕ) → rotations_of (Rotation q a ∷ []) ≡ 1
unfolding rotations_of tally
rotations-rotation q a = refl

pub tally-bounded : (f : Gate → ℕ) → ((g : Gate) → f g ≤ 1) → (gs : List Gate) → tally f gs ≤ length gs
unfolding tally
tally-bounded f one [] = omega arith
tally-bounded f one (g ∷ gs) = omega (arith, one g, tally-bounded f one gs)

-- ---- counts by a test

abbrev pub is_cnot : Gate → Bool
is_cnot (Cnot c t) = true
is_cnot (Rotation q a) = false
is_cnot (X q) = false
is_cnot Bad = false

abbrev pub is_rotation : Gate → Bool
is_rotation (Cnot c t) = false
is_rotation (Rotation q a) = true
is_rotation (X q) = false
is_rotation Bad = false

counted : (f : Gate → ℕ) (p : Gate → Bool) → ((g : Gate) (m : ℕ) → f g + m ≡ cond (p g) (1 + m) m) → (n : ℕ) (xs : List ℕ) → tally f (gates_of n xs) ≡ count_by (λ x. p (gate_of n x)) xs
unfolding tally
counted f p h n = is_count_by (λ xs. tally f (gates_of n xs)) (λ x. p (gate_of n x)) refl (λ x xs. h (gate_of n x) (tally f (gates_of n xs)))

pub cnots-counted : (n : ℕ) (xs : List ℕ) → cnots_of (gates_of n xs) ≡ count_by (λ x. is_cnot (gate_of n x)) xs
unfolding cnots_of
cnots-counted = counted one_cnot is_cnot more
  where
    more : (g : Gate) (m : ℕ) → one_cnot g + m ≡ cond (is_cnot g) (1 + m) m
    more (Cnot c t) m = refl
    more (Rotation q a) m = omega arith
    more (X q) m = omega arith
    more Bad m = omega arith

pub rotations-counted : (n : ℕ) (xs : List ℕ) → rotations_of (gates_of n xs) ≡ count_by (λ x. is_rotation (gate_of n x)) xs
unfolding rotations_of
rotations-counted = counted one_rotation is_rotation more
  where
    more : (g : Gate) (m : ℕ) → one_rotation g + m ≡ cond (is_rotation g) (1 + m) m
    more (Cnot c t) m = omega arith
    more (Rotation q a) m = refl
    more (X q) m = omega arith
    more Bad m = omega arith

pub one-cnot : (g : Gate) → one_cnot g ≤ 1
one-cnot (Cnot c t) = omega arith
one-cnot (Rotation q a) = omega arith
one-cnot (X q) = omega arith
one-cnot Bad = omega arith

pub one-rotation : (g : Gate) → one_rotation g ≤ 1
one-rotation (Cnot c t) = omega arith
one-rotation (Rotation q a) = omega arith
one-rotation (X q) = omega arith
one-rotation Bad = omega arith

-- no count of a list of gates is larger than the list

pub cnots-most : (gs : List Gate) → cnots_of gs ≤ length gs
unfolding cnots_of
cnots-most gs = tally-bounded one_cnot one-cnot gs

pub rotations-most : (gs : List Gate) → rotations_of gs ≤ length gs
unfolding rotations_of
rotations-most gs = tally-bounded one_rotation one-rotation gs

-- ---- the bound

pub bound-none : (n t : ℕ) → n ≡ 0 → t ≡ bound_of n t
unfolding bound_of
bound-none n t e = rw e (omega arith)

pub product_le : (a b c d : ℕ) → a ≤ c → b ≤ d → a * b ≤ c * d
product_le a b c d h g = omega (arith, mul-le-mul_right b h, mul-le-mul_left c g)

-- B grows with n and t, so that no job's is larger than the largest
pub bound-most : (n t : ℕ) → n ≤ most_qubits → t ≤ most_parities → bound_of n t ≤ largest
unfolding bound_of
bound-most n t a b =
    omega (
      arith,
      product_le (2 * (n - 1)) t (2 * (most_qubits - 1)) most_parities (omega arith) b,
      product_le (2 * n) (n - 1) (2 * most_qubits) (most_qubits - 1) (omega arith) (omega arith),
    )

pub tally-none : (f : Gate → ℕ) → tally f [] ≡ 0
unfolding tally
tally-none f = refl
