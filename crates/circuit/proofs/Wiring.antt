-- The wires of good gates: their parities stay below 2^n, not empty and different; columns over them. Assumes nothing.
use mathlib.Core.Path.{◌≡◌, refl, sym, ap, ap₂, ◌∙◌, subst}
use mathlib.Core.Logic.{◌≢◌}
use mathlib.Core.List.{List, [], ◌∷◌}
use Prim.Native.Nat.{ℕ, zero, suc, ◌^◌, ◌≤◌, ◌<◌}
use native.Mathlib.Omega.{arith}
use native.Mathlib.Decide.{ℕ_discrete}
use lib.ListN.{length, get_or}
use lib.Pow.{pow_pos, pow-lt}
use lib.Bits.{bit_xor, xor_lt, xor_self}
use Rattle.sets.specs.Bit.{bit, when}
use Rattle.sets.specs.Columns.{turn, comb, cnot}
use Rattle.sets.proofs.Bits.{bit-pow-same, bit-pow-other, bit-xor, bit-of-zero}
use Rattle.sets.proofs.Comb.{comb-turn, comb-xor, comb-pow, comb-units, get_or-units}
use Rattle.sets.proofs.Turn.{turn_is, turn-zero, turn-back}
use Rattle.gates.specs.declared.gate.Gate.{Gate}
use Rattle.gates.specs.declared.gate.Gate.TheVariants.{Cnot, Rotation, X, Bad}
use Rattle.gates.specs.Layout.{Good}
use Rattle.circuit.specs.Circuit.{step, run, start}
use Rattle.sets.specs.Lists.{All}
use Rattle.circuit.proofs.Steps.{cnot-target, cnot-other, step-length}
use Rattle.circuit.proofs.Circuits.{start-length}

-- ---- below 2^n

pub record ParitiesBelow (n : ℕ) (W : List ℕ) : Type 0 where
  pub small : (i : ℕ) → i < n → get_or W i 0 < 2 ^ n

pub below_step : (n : ℕ) (g : Gate) (W : List ℕ) → n ≤ length W → Good n g → ParitiesBelow n W → ParitiesBelow n (step g W)
unfolding step Good
below_step n (Cnot c t) W l (hc, ht, ne) b = record { small = λ i h. at i h (ℕ_discrete i t) }
  where
    at : (i : ℕ) → i < n → Dec (i ≡ t) → get_or (cnot c t W) i 0 < 2 ^ n
    at i h (yes e) = rw e (rw (cnot-target c t W (omega arith)) (xor_lt n (get_or W c 0) (get_or W t 0) (b.small c hc) (b.small t ht)))
    at i h (no d) = rw (cnot-other c t i W d) (b.small i h)
below_step n (Rotation q a) W l h b = b
below_step n (X q) W l h b = b
below_step n Bad W l h b = absurd h

pub below-run : (n : ℕ) (gs : List Gate) (W : List ℕ) → n ≤ length W → All (Good n) gs → ParitiesBelow n W → ParitiesBelow n (run gs W)
unfolding run All
below-run n [] W l h b = b
below-run n (g ∷ gs) W l h b = below-run n gs (step g W) (subst (λ (k : ℕ). n ≤ k) (sym (step-length g W)) l) h.1 (below_step n g W l h.0 b)

pub below-start : (n : ℕ) → n ≤ 20 → ParitiesBelow n start
unfolding start
below-start n few = record { small = λ i h. rw (get_or-units 20 i (omega arith)) (pow-lt h) }

-- ---- no column over the wires is empty but the empty one: so they are not empty, and different

pub record Apart (W : List ℕ) : Type 0 where
  pub only_empty : (x : ℕ) → x < 2 ^ 20 → comb x W ≡ 0 → x ≡ 0

turn-lt : (x c t : ℕ) → c < 20 → x < 2 ^ 20 → turn c t x < 2 ^ 20
turn-lt x c t h l = rw (turn_is x c t (omega arith)) (go (bit x t))
  where
    go : (b : ℕ) → bit_xor x (when b (2 ^ c)) < 2 ^ 20
    go zero = xor_lt 20 x 0 l (pow_pos 20)
    go (suc b) = xor_lt 20 x (2 ^ c) l (pow-lt h)

-- Law 1, read the other way: what a column stands for after a CNOT
pub comb-cnot : (W : List ℕ) (x c t : ℕ) → c < 32 → c ≢ t → t < length W → comb x (cnot c t W) ≡ comb (turn c t x) W
comb-cnot W x c t few ne l = ap (λ (y : ℕ). comb y (cnot c t W)) (sym (turn-back x c t ne)) ∙ comb-turn W (turn c t x) c t few ne l

pub apart-step : (n : ℕ) (g : Gate) (W : List ℕ) → n ≤ 20 → length W ≡ 20 → Good n g → Apart W → Apart (step g W)
unfolding step Good
apart-step n (Cnot c t) W few l (hc, ht, ne) a = record {
  only_empty = λ x h e. turn-zero x c t ne (a.only_empty (turn c t x) (turn-lt x c t (omega arith) h) (sym (comb-cnot W x c t (omega arith) ne (omega arith)) ∙ e));
}
apart-step n (Rotation q b) W few l h a = a
apart-step n (X q) W few l h a = a
apart-step n Bad W few l h a = absurd h

pub apart-run : (n : ℕ) (gs : List Gate) (W : List ℕ) → n ≤ 20 → length W ≡ 20 → All (Good n) gs → Apart W → Apart (run gs W)
unfolding run All
apart-run n [] W few l h a = a
apart-run n (g ∷ gs) W few l h a = apart-run n gs (step g W) few (step-length g W ∙ l) h.1 (apart-step n g W few l h.0 a)

pub apart-start : Apart start
unfolding start
apart-start = record { only_empty = λ x h e. sym (comb-units 20 x h) ∙ e }

-- "non-empty and different"
pub apart-not-empty : (W : List ℕ) → Apart W → (i : ℕ) → i < 20 → get_or W i 0 ≢ 0
apart-not-empty W a i h e =
    let z : 2 ^ i ≡ 0 = a.only_empty (2 ^ i) (pow-lt h) (comb-pow W i ∙ e) in
    omega (arith, pow_pos i)

pub apart-different : (W : List ℕ) → Apart W → (i j : ℕ) → i < 20 → j < 20 → i ≢ j → get_or W i 0 ≢ get_or W j 0
apart-different W a i j hi hj ne e =
    let z : bit_xor (2 ^ i) (2 ^ j) ≡ 0 = a.only_empty (bit_xor (2 ^ i) (2 ^ j)) (xor_lt 20 (2 ^ i) (2 ^ j) (pow-lt hi) (pow-lt hj))
    (comb-xor W (2 ^ i) (2 ^ j) ∙ ap₂ bit_xor (comb-pow W i ∙ e) (comb-pow W j) ∙ xor_self (get_or W j 0)) in
    omega (arith, bit-xor (2 ^ i) (2 ^ j) i, bit-pow-same i, bit-pow-other j i (λ d. ne (sym d)), ap (λ (m : ℕ). bit m i) z, bit-of-zero i)

-- ---- for a list of good gates, from the start

module _ (n : ℕ) (gs : List Gate) (few : n ≤ 20) (good : All (Good n) gs) where
  apart : Apart (run gs start)
  apart = apart-run n gs start few start-length good apart-start

  pub parity-below : (i : ℕ) → i < n → get_or (run gs start) i 0 < 2 ^ n
  parity-below = (below-run n gs start (omega (arith, start-length)) good (below-start n few)).small

  pub parity-not-empty : (i : ℕ) → i < n → get_or (run gs start) i 0 ≢ 0
  parity-not-empty i h = apart-not-empty (run gs start) apart i (omega arith)

  pub parities-different : (i j : ℕ) → i < n → j < n → i ≢ j → get_or (run gs start) i 0 ≢ get_or (run gs start) j 0
  parities-different i j hi hj ne = apart-different (run gs start) apart i j (omega arith) (omega arith) ne

-- gates on n qubits leave the wires past them
pub wires-past : (n : ℕ) (gs : List Gate) (W : List ℕ) (i : ℕ) → n ≤ i → All (Good n) gs → get_or (run gs W) i 0 ≡ get_or W i 0
unfolding run step All Good
wires-past n [] W i l g = refl
wires-past n (Cnot c t ∷ gs) W i l g = wires-past n gs (cnot c t W) i l g.1 ∙ cnot-other c t i W (λ (e : i ≡ t). omega (arith, g.0.1))
wires-past n (Rotation q a ∷ gs) W i l g = wires-past n gs W i l g.1
wires-past n (X q ∷ gs) W i l g = wires-past n gs W i l g.1
wires-past n (Bad ∷ gs) W i l g = absurd g.0

-- a gate on n qubits is one on more
pub good-up : (n m : ℕ) (g : Gate) → n ≤ m → Good n g → Good m g
unfolding Good
good-up n m (Cnot c t) l h = (omega (arith, h.0), omega (arith, h.1), h.2)
good-up n m (Rotation q a) l h = (omega (arith, h.0), h.1)
good-up n m (X q) l h = omega (arith, h)
good-up n m Bad l h = h
