-- How many X gates are laid: on each wire one where it is asked to end flipped and none elsewhere, so never more than there are wires. Assumes nothing.
use mathlib.Core.Path.{◌≡◌, refl, sym, ap, ap₂, ◌∙◌}
use mathlib.Core.Logic.{◌≢◌, ◌⊎◌, inl, inr}
use mathlib.Core.Bool.{Bool, true, false}
use mathlib.Core.List.{List, [], ◌∷◌, ◌++◌, map, map-append}
use Prim.Native.Nat.{ℕ, zero, suc, ◌+◌, ◌^◌, ◌≤◌, ◌<◌}
use native.Mathlib.Nat.{lt_of_lt_of_le}
use native.Mathlib.Omega.{arith}
use native.Mathlib.Decide.{ℕ_discrete}
use lib.Dec.{eqb}
use lib.ListN.{get_or}
use lib.Count.{ones}
use lib.Pow.{pow_mono}
use borrow.Author.Tests.{eq-eqb, ne_eqb}
use Rattle.sets.specs.Pick.{pick}
use Rattle.sets.specs.Bit.{bit, In}
use Rattle.sets.specs.Size.{lowest_of}
use Rattle.sets.proofs.Bits.{bit-cases}
use Rattle.gates.specs.declared.gate.Gate.{Gate}
use Rattle.gates.specs.declared.gate.Gate.TheVariants.{Cnot, Rotation, X, Bad}
use Rattle.sets.specs.Lists.{All}
use Rattle.tallies.specs.Tally.{tally, one_x, xs_of}
use Rattle.tallies.proofs.Tallies.{tally-none, tally-append}
use Rattle.circuit.proofs.Flips.{Flips}
use Rattle.flips.specs.Xs.{asks_flip, flipped_to, xs_on}
use Rattle.flips.proofs.Xs.{asks-yes, asks-no, flipped-yes, flipped-no}
use Rattle.chip.specs.Inside.{Inside}
use Rattle.sets.specs.Tables.{sum_to}
use Rattle.laying.specs.Islands.{leads, laid_to}
use Rattle.laying.specs.Demands.{one_x_at, xs_at}
use Rattle.laying.proofs.Adding.{ones-bits}
use Rattle.laying.proofs.Parting.{Parts, on-led, led_on, leader-below, leader-leads}
use Rattle.laying.proofs.Counting.{over-le, over-one, tally-laid, qubits-counted}

-- gates on an island hold no X
inside-none : (f : Gate → ℕ) → ((c t : ℕ) → f (Cnot c t) ≡ 0) → ((q a : ℕ) → f (Rotation q a) ≡ 0) → (near : List ℕ) (Q : ℕ) (gs : List Gate) → All (Inside near Q) gs → tally f gs ≡ 0
unfolding All tally
inside-none f c r near Q [] a = refl
inside-none f c r near Q (Cnot u v ∷ gs) a = omega (arith, c u v, inside-none f c r near Q gs a.1)
inside-none f c r near Q (Rotation q x ∷ gs) a = omega (arith, r q x, inside-none f c r near Q gs a.1)
inside-none f c r near Q (X q ∷ gs) a = absurd a.0
inside-none f c r near Q (Bad ∷ gs) a = absurd a.0

-- ---- the X gates of one island

module _ (Q : ℕ) (F : List ℕ) where
  flipped-few : (k : ℕ) → tally one_x (map X (flipped_to Q F k)) ≤ sum_to k (bit Q)
  flipped-few zero = unfold flipped_to sum_to tally in omega arith
  flipped-few (suc k) = go (asks_flip Q F k) refl (flipped-few k)
    where
      go : (b : Bool) → asks_flip Q F k ≡ b → tally one_x (map X (flipped_to Q F k)) ≤ sum_to k (bit Q) → tally one_x (map X (flipped_to Q F (suc k))) ≤ sum_to (suc k) (bit Q)
      go true e h =
          rw (flipped-yes Q F k e, map-append X (flipped_to Q F k) (k ∷ []), tally-append one_x (map X (flipped_to Q F k)) (X k ∷ []))
          (unfold sum_to tally in omega (arith, h, (asks-yes Q F k e).0))
      go false e h = rw (flipped-no Q F k e) (unfold sum_to in omega (arith, h))

  pub xs-few : Q < 2 ^ 20 → tally one_x (xs_on Q F) ≤ ones Q
  unfolding xs_on
  xs-few low = omega (arith, flipped-few 20, ones-bits 20 Q low)

  -- one wire more
  more-at : (i k : ℕ) → tally (one_x_at i) (map X (flipped_to Q F (suc k))) ≡ tally (one_x_at i) (map X (flipped_to Q F k)) + pick (asks_flip Q F k) (pick (eqb k i) 1 0) 0
  more-at i k = go (asks_flip Q F k) refl
    where
      go : (b : Bool) → asks_flip Q F k ≡ b → tally (one_x_at i) (map X (flipped_to Q F (suc k))) ≡ tally (one_x_at i) (map X (flipped_to Q F k)) + pick b (pick (eqb k i) 1 0) 0
      go true e =
          ap (λ (qs : List ℕ). tally (one_x_at i) (map X qs)) (flipped-yes Q F k e) ∙ ap (tally (one_x_at i)) (map-append X (flipped_to Q F k) (k ∷ []))
          ∙ tally-append (one_x_at i) (map X (flipped_to Q F k)) (X k ∷ []) ∙ unfold tally one_x_at in omega arith
      go false e = ap (λ (qs : List ℕ). tally (one_x_at i) (map X qs)) (flipped-no Q F k e) ∙ omega arith

  none_other : (i k : ℕ) → k ≢ i → (b : Bool) → ◌≡◌ {A = ℕ} (pick b (pick (eqb k i) 1 0) 0) 0
  none_other i k d true = ap (λ (t : Bool). pick t 1 0) (ne_eqb k i d)
  none_other i k d false = refl

  before_at : (i k : ℕ) → k ≤ i → tally (one_x_at i) (map X (flipped_to Q F k)) ≡ 0
  before_at i zero l = unfold flipped_to in tally-none (one_x_at i)
  before_at i (suc k) l = more-at i k ∙ omega (arith, before_at i k (omega arith), none_other i k (λ (d : k ≡ i). omega arith) (asks_flip Q F k))

  behind-at : (i k : ℕ) → i < k → tally (one_x_at i) (map X (flipped_to Q F k)) ≡ pick (asks_flip Q F i) 1 0
  behind-at i zero l = absurd (omega arith)
  behind-at i (suc k) l = go (ℕ_discrete k i) (behind-at i k)
    where
      go : Dec (k ≡ i) → (i < k → tally (one_x_at i) (map X (flipped_to Q F k)) ≡ pick (asks_flip Q F i) 1 0) → tally (one_x_at i) (map X (flipped_to Q F (suc k))) ≡ pick (asks_flip Q F i) 1 0
      go (yes d) ih =
          more-at i k ∙ ap₂ (λ (a b : ℕ). a + pick (asks_flip Q F k) b 0) (before_at i k (omega arith)) (ap (λ (t : Bool). pick t 1 0) (eq-eqb k i d))
          ∙ ap (λ (j : ℕ). 0 + pick (asks_flip Q F j) 1 0) d ∙ omega arith
      go (no d) ih = more-at i k ∙ omega (arith, ih (omega arith), none_other i k d (asks_flip Q F k))

  -- on a wire of Q as many as its flip is, and none elsewhere
  module _ (flips : Flips F) (i : ℕ) (l : i < 20) where
    pub xs-at : In i Q → tally (one_x_at i) (xs_on Q F) ≡ get_or F i 0
    unfolding xs_on
    xs-at m = behind-at i 20 l ∙ go (asks_flip Q F i) refl
      where
        go : (b : Bool) → asks_flip Q F i ≡ b → pick b 1 0 ≡ get_or F i 0
        go true e = omega (arith, flips.small i, (asks-yes Q F i e).1)
        go false e = omega (arith, asks-no Q F i e m)

    pub xs-off : bit Q i ≡ 0 → tally (one_x_at i) (xs_on Q F) ≡ 0
    unfolding xs_on
    xs-off z = behind-at i 20 l ∙ go (asks_flip Q F i) refl
      where
        go : (b : Bool) → asks_flip Q F i ≡ b → ◌≡◌ {A = ℕ} (pick b 1 0) 0
        go true e = absurd (omega (arith, z, (asks-yes Q F i e).0))
        go false e = refl

-- ---- all islands: `plain q` are the gates of the island that q leads

module _ (n : ℕ) (isl : ℕ → ℕ) (few : n ≤ 20) (parts : Parts n isl) (plain : ℕ → List Gate) (F : List ℕ) (nears : ℕ → List ℕ)
    (inside : (q : ℕ) → q < n → All (Inside (nears q) (isl q)) (plain q)) where
  abbrev on : ℕ → List Gate
  on q = plain q ++ xs_on (isl q) F

  low : (q : ℕ) → q < n → isl q < 2 ^ 20
  low q l = lt_of_lt_of_le (parts.fits q l) (pow_mono {i = n} {j = 20} few)

  pub laid-xs : xs_of (laid_to isl on n) ≤ n
  unfolding xs_of
  laid-xs =
      omega (
        arith,
        tally-laid n isl few parts one_x on n,
        over-le n isl few parts (λ q. tally one_x (on q)) (λ q. ones (isl q)) (λ q l e. omega (arith, tally-append one_x (plain q) (xs_on (isl q) F), inside-none one_x (λ c t. refl) (λ r a. refl) (nears q) (isl q) (plain q) (inside q l), xs-few (isl q) F (low q l))),
        qubits-counted n isl few parts,
      )

  module _ (flips : Flips F) (i : ℕ) (h : i < n) where
    at : (q : ℕ) → q < n → tally (one_x_at i) (on q) ≡ tally (one_x_at i) (xs_on (isl q) F)
    unfolding one_x_at
    at q l = tally-append (one_x_at i) (plain q) (xs_on (isl q) F) ∙ omega (arith, inside-none (one_x_at i) (λ c t. refl) (λ r a. refl) (nears q) (isl q) (plain q) (inside q l))

    pub laid-xs-at : xs_at i (laid_to isl on n) ≡ get_or F i 0
    unfolding xs_at
    laid-xs-at =
        let j : ℕ = lowest_of (isl i) in
        tally-laid n isl few parts (one_x_at i) on n
        ∙ over-one n isl few parts (λ q. tally (one_x_at i) (on q)) j (leader-below n isl few parts i h) (leader-leads n isl few parts i h) (λ q l e d. at q l ∙ off q l e d (bit-cases (isl q) i))
        ∙ at j (leader-below n isl few parts i h) ∙ xs-at (isl j) F flips i (omega arith) (led_on n isl few parts j i h refl)
      where
        off : (q : ℕ) → q < n → leads isl q ≡ true → q ≢ lowest_of (isl i) → (bit (isl q) i ≡ 0) ⊎ (bit (isl q) i ≡ 1) → tally (one_x_at i) (xs_on (isl q) F) ≡ 0
        off q l e d (inl z) = xs-off (isl q) F flips i (omega arith) z
        off q l e d (inr m) = absurd (d (sym (on-led n isl few parts q i l e m)))
