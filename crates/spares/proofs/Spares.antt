-- The tests of connected sets, and what the crates above use: a spare member, a neighbour. Assumes nothing.
use mathlib.Core.Path.{◌≡◌, refl, sym, ap, ◌∙◌, subst}
use mathlib.Core.Logic.{◌≢◌}
use mathlib.Core.Bool.{Bool, true, false}
use mathlib.Core.List.{List}
use Prim.Native.Nat.{ℕ, ◌^◌, ◌≤◌, ◌<◌}
use native.Mathlib.Nat.{lt_of_lt_of_le}
use native.Mathlib.Omega.{arith}
use native.Mathlib.Decide.{ℕ_discrete}
use lib.Dec.{eqb}
use lib.Bits.{bit_xor, xor_lt}
use lib.Pow.{pow-lt, pow_mono}
use lib.Count.{ones, ones-le, count_trailing_zeros}
use borrow.Author.Tests.{eq-eqb, ne_eqb, eqb-true}
use Rattle.sets.specs.Pick.{both, either}
use Rattle.sets.specs.Bit.{bit, has, In}
use Rattle.sets.specs.Size.{lowest_of, only_of}
use Rattle.sets.proofs.Bits.{bit-of-zero}
use Rattle.sets.proofs.Members.{in-lt, sub-eq}
use Rattle.sets.proofs.Words.{has-true, in-has, lowest-in, only-lowest}
use Rattle.chip.specs.Graph.{Symm, Joined, closure}
use Rattle.spares.specs.Spare.{reach_of, connected_of, spare_of}
use Rattle.chip.proofs.Growth.{joined-shrink}
use Rattle.chip.proofs.Closure.{closure-in, closure-joined, joined-closure}

pub joined-empty : (near : List ℕ) → Joined near 0
unfolding Joined
joined-empty near a b ha hb = absurd (omega (arith, ha, bit-of-zero a))

none-lowest : only_of (lowest_of 0) ≡ 0
unfolding only_of lowest_of count_trailing_zeros
none-lowest = refl

-- what the code tests: r is what the search reaches in S from its lowest member, d the set of that alone; the empty set is reached from nothing
pub reached-connected : (near : List ℕ) (S d r : ℕ) → S < 2 ^ 32 → d ≡ only_of (lowest_of S) → r ≡ closure near S 20 d → eqb r S ≡ connected_of near S
unfolding connected_of reach_of
reached-connected near S d r low ed er = go (ℕ_discrete S 0)
  where
    go : Dec (S ≡ 0) → eqb r S ≡ either (eqb S 0) (eqb (closure near S 20 (2 ^ lowest_of S)) S)
    go (yes z) =
        let n : d ≡ 0 = ed ∙ ap (λ (k : ℕ). only_of (lowest_of k)) z ∙ none-lowest in
        let e : r ≡ S = er ∙ sub-eq (closure near S 20 d) S (closure-in near S 20 d (λ i h. absurd (omega (arith, ap (λ (k : ℕ). bit k i) n, bit-of-zero i)))) (λ i h. absurd (omega (arith, ap (λ (k : ℕ). bit k i) z, bit-of-zero i))) in
        eq-eqb r S e ∙ sym (ap (λ (b : Bool). either b (eqb (closure near S 20 (2 ^ lowest_of S)) S)) (eq-eqb S 0 z))
    go (no ne) =
        ap (λ (k : ℕ). eqb k S) (er ∙ ap (closure near S 20) (ed ∙ only-lowest S low ne))
        ∙ sym (ap (λ (b : Bool). either b (eqb (closure near S 20 (2 ^ lowest_of S)) S)) (ne_eqb S 0 ne))

-- S is a set of qubits below 20
module _ (near : List ℕ) (S : ℕ) (low : S < 2 ^ 20) where
  wide : S < 2 ^ 32
  wide = lt_of_lt_of_le low (pow_mono {i = 20} {j = 32} (omega arith))

  -- the test says what it is to say: joined by chains inside the set
  pub connected-joined : Symm near → connected_of near S ≡ true → Joined near S
  unfolding connected_of reach_of
  connected-joined sy e = go (ℕ_discrete S 0)
    where
      go : Dec (S ≡ 0) → Joined near S
      go (yes z) = subst (Joined near) (sym z) (joined-empty near)
      go (no ne) =
          closure-joined near S sy 20 (lowest_of S) (lowest-in S wide ne)
          (eqb-true (closure near S 20 (2 ^ lowest_of S)) S (sym (ap (λ (b : Bool). either b (eqb (closure near S 20 (2 ^ lowest_of S)) S)) (ne_eqb S 0 ne)) ∙ e))

  pub joined-connected : Joined near S → connected_of near S ≡ true
  unfolding connected_of reach_of
  joined-connected j = go (ℕ_discrete S 0)
    where
      go : Dec (S ≡ 0) → either (eqb S 0) (eqb (closure near S 20 (2 ^ lowest_of S)) S) ≡ true
      go (yes z) = rw (eq-eqb S 0 z)
      go (no ne) =
          rw (
            ne_eqb S 0 ne,
            eq-eqb (closure near S 20 (2 ^ lowest_of S)) S
                (joined-closure near S 20 (lowest_of S) (lowest-in S wide ne) (omega (arith, ones-le 20 S low)) j),
          )

  -- "removing a spare member leaves a connected set"
  pub spare-in : (q : ℕ) → spare_of near S q ≡ true → In q S
  unfolding spare_of
  spare-in q e = has-true S q (go (has S q) e)
    where
      go : (b : Bool) → both b (connected_of near (bit_xor S (2 ^ q))) ≡ true → b ≡ true
      go true h = refl
      go false h = h

  without-low : (q : ℕ) → In q S → bit_xor S (2 ^ q) < 2 ^ 20
  without-low q h = xor_lt 20 S (2 ^ q) low (pow-lt (in-lt 20 S q low h))

pub spare-joined : (near : List ℕ) (S : ℕ) → S < 2 ^ 20 → Symm near → (q : ℕ) → spare_of near S q ≡ true → Joined near (bit_xor S (2 ^ q))
spare-joined near S low sy q e =
    connected-joined near (bit_xor S (2 ^ q)) (without-low near S low q (spare-in near S low q e)) sy (unfold spare_of in go (has S q) e)
  where
    go : (b : Bool) → both b (connected_of near (bit_xor S (2 ^ q))) ≡ true → connected_of near (bit_xor S (2 ^ q)) ≡ true
    go true h = h
    go false h = absurd (let z : ◌≡◌ {A = ℕ} 0 1 = ap (λ (t : Bool). num t) h in omega arith)
      where
        num : Bool → ℕ
        num true = 1
        num false = 0

pub joined-spare : (near : List ℕ) (S : ℕ) → S < 2 ^ 20 → (q : ℕ) → In q S → Joined near (bit_xor S (2 ^ q)) → spare_of near S q ≡ true
unfolding spare_of
joined-spare near S low q h j = rw (in-has S q h, joined-connected near (bit_xor S (2 ^ q)) (without-low near S low q h) j)

-- "a connected set of at least two members has, for each member v, a spare member other than v"
pub spare-other : (near : List ℕ) (S : ℕ) → S < 2 ^ 20 → Symm near → Joined near S → (v : ℕ) → In v S → 2 ≤ ones S
    → (u : ℕ) × (u ≢ v) × (spare_of near S u ≡ true)
spare-other near S low sy j v h two =
    let r = joined-shrink near S v sy j h two in
    (r.0, r.1, joined-spare near S low r.0 r.2 r.3)
