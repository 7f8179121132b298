-- Layers of gates: how high they go, and the loops that put gates into them. Assumes nothing.
use mathlib.Core.Path.{◌≡◌, refl}
use mathlib.Core.List.{List, [], ◌∷◌}
use Prim.Native.Nat.{ℕ, zero, suc, ◌+◌, ◌≤◌, ◌<◌, max}
use native.Mathlib.Omega.{arith}
use native.Mathlib.Numerals.{add-one}
use lib.ListN.{length, get_or, set, drop, replicate, drop_of_length-le}
use lib.Seq.{drop-cons}
use Rattle.std.specs.List.{fold}
use Rattle.gates.specs.declared.gate.Gate.{Gate}
use Rattle.gates.specs.declared.gate.Gate.TheVariants.{Cnot, Rotation, X, Bad}
use Rattle.gates.specs.Layout.{gate_of, gates_of}
use Rattle.tallies.specs.Tally.{one_cnot, raised, layered, layers_from, highest}

-- ---- the highest layer

pub highest-at : (L : List ℕ) (k : ℕ) → get_or L k 0 ≤ highest L
unfolding highest
highest-at [] k = omega arith
highest-at (x ∷ xs) zero = omega arith
highest-at (x ∷ xs) (suc k) = omega (arith, highest-at xs k)

highest-set : (L : List ℕ) (k v : ℕ) → highest (set L k v) ≤ max (highest L) v
unfolding highest
highest-set [] k v = omega arith
highest-set (x ∷ xs) zero v = omega arith
highest-set (x ∷ xs) (suc k) v = omega (arith, highest-set xs k v)

highest-raised : (c t : ℕ) (L : List ℕ) → highest (raised c t L) ≤ suc (highest L)
unfolding raised
highest-raised c t L =
    let k : ℕ = suc (max (get_or L c 0) (get_or L t 0)) in
    omega (arith, highest-at L c, highest-at L t, highest-set L c k, highest-set (set L c k) t k)

-- a CNOT adds one layer at most, any other gate none
pub highest-layered : (g : Gate) (L : List ℕ) → highest (layered g L) ≤ one_cnot g + highest L
unfolding layered
highest-layered (Cnot c t) L = omega (arith, highest-raised c t L)
highest-layered (Rotation q a) L = omega arith
highest-layered (X q) L = omega arith
highest-layered Bad L = omega arith

pub highest-none : (n : ℕ) → highest (replicate n 0) ≡ 0
unfolding highest
highest-none zero = refl
highest-none (suc n) = omega (arith, highest-none n)

-- ---- the loops

pub layers-step : (n : ℕ) (xs : List ℕ) (i : ℕ) (L : List ℕ) → i < length xs
    → layers_from (gates_of n (drop i xs)) L ≡ layers_from (gates_of n (drop (i + 1) xs)) (layered (gate_of n (get_or xs i 0)) L)
unfolding layers_from
layers-step n xs i L h = rw (add-one, drop-cons xs i 0)

pub layers-end : (n : ℕ) (xs : List ℕ) (i : ℕ) (L : List ℕ) → length xs ≤ i → layers_from (gates_of n (drop i xs)) L ≡ L
unfolding layers_from
layers-end n xs i L h = rw (drop_of_length-le xs h)

pub highest-step : (L : List ℕ) (q : ℕ) → q < length L → highest (drop q L) ≡ max (get_or L q 0) (highest (drop (q + 1) L))
unfolding highest
highest-step L q h = rw (add-one, drop-cons L q 0)

pub highest-end : (L : List ℕ) (q : ℕ) → length L ≤ q → highest (drop q L) ≡ 0
unfolding highest
highest-end L q h = rw (drop_of_length-le L h)

-- a fold that keeps the later of two finds the highest
pub highest-folded : (L : List ℕ) (m : ℕ) → fold (λ a k. max k a) m L ≡ max m (highest L)
unfolding highest
highest-folded [] m = omega arith
highest-folded (x ∷ xs) m = omega (arith, highest-folded xs (max x m))
