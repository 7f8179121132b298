-- What the loop that puts the members in order keeps. Assumes nothing.
use mathlib.Core.Path.{◌≡◌, sym, ap, ap₂, ◌∙◌}
use mathlib.Core.Logic.{◌≢◌}
use mathlib.Core.List.{List, [], ◌∷◌}
use Prim.Native.Nat.{ℕ, suc, ◌+◌, ◌-◌, ◌^◌, ◌≤◌, ◌<◌}
use native.Mathlib.Omega.{arith}
use native.Mathlib.Numerals.{add-one}
use lib.Bits.{bit_xor}
use lib.Dec.{eqb}
use lib.ListN.{length, set, replicate, take, drop, length-set, length-replicate}
use lib.Seq.{sets, length-sets, sets-eq, take-append_seam}
use borrow.Author.Tests.{eq-eqb, ne_eqb}
use Rattle.sets.specs.Pick.{pick}
use Rattle.sets.specs.Size.{lowest_of, only_of}
use Rattle.sets.proofs.Words.{only-is, lowest-below}
use Rattle.gathering.specs.declared.gather.Order.{Order}
use Rattle.gathering.specs.Order.{layer_of, order_from, order_of, order_in, members_of}
use Rattle.gathering.proofs.OrderGrows.{order-zero, order-step, order-few}

-- len members stand in `qubit`, those of S; the rest is still to come
pub record Ordering (near : List ℕ) (Q v : ℕ) (qubit : List ℕ) (len S L : ℕ) : Type 0 where
  pub some : 1 ≤ len
  pub most : len ≤ 20
  pub size : length qubit ≡ 20
  pub holds : sets qubit len (order_from near Q (20 - len) S L) ≡ sets (replicate 20 0) 0 (order_of near Q v)
  pub count : len + length (order_from near Q (20 - len) S L) ≡ length (order_of near Q v)

module _ (near : List ℕ) (Q v : ℕ) where
  pub ordering-start : (d : ℕ) → d ≡ only_of v → Ordering near Q v (set (replicate 20 0) 0 v) 1 d 0
  unfolding order_of
  ordering-start d e =
      record {
        some = omega arith;
        most = omega arith;
        size = length-set (replicate 20 0) 0 v ∙ length-replicate {A = ℕ} 20 0;
        holds = ap (λ (m : ℕ). sets (set (replicate 20 0) 0 v) 1 (order_from near Q 19 m 0)) e;
        count = ap (λ (m : ℕ). 1 + length (order_from near Q 19 m 0)) e ∙ omega arith;
      }

  module _ (qubit : List ℕ) (len S L : ℕ) (o : Ordering near Q v qubit len S L) where
    finish : order_from near Q (20 - len) S L ≡ [] → (record { qubit = qubit; len = len }) ≡ order_in (order_of near Q v)
    unfolding order_in
    finish e =
        ap₂ (λ (q : List ℕ) (n : ℕ). record { qubit = q; len = n })
        (sym (ap (sets qubit len) e) ∙ o.holds)
        (omega (arith, o.count, ap length e))

    more : len < 20 → order_from near Q (20 - len) S L ≡ order_from near Q (suc (20 - (len + 1))) S L
    more l = ap (λ (f : ℕ). order_from near Q f S L) (omega arith)

    pub ordering-stop : (m : ℕ) → len < 20 → m ≡ layer_of near Q S L → m ≡ 0 → (record { qubit = qubit; len = len }) ≡ order_in (order_of near Q v)
    ordering-stop m l e z =
        finish (more l ∙ order-step near Q (20 - (len + 1)) S L ∙ rw (eq-eqb (layer_of near Q S L) 0 (sym e ∙ z)))

    pub ordering-full : 20 ≤ len → (record { qubit = qubit; len = len }) ≡ order_in (order_of near Q v)
    ordering-full l = finish (ap (λ (f : ℕ). order_from near Q f S L) (omega arith) ∙ order-zero near Q S L)

    pub ordering-next : (m u d e : ℕ) → len < 20 → m ≡ layer_of near Q S L → m ≢ 0 → m < 4294967296 → u ≡ lowest_of m → d ≡ only_of u → e ≡ only_of u
        → Ordering near Q v (set qubit len u) (len + 1) (bit_xor S d) (bit_xor m e)
    ordering-next m u d e l em ne fits eu ed ee =
        record {
          some = omega arith;
          most = omega arith;
          size = length-set qubit len u ∙ o.size;
          holds = ap (λ (k : ℕ). sets (set qubit len u) k (order_from near Q (20 - (len + 1)) (bit_xor S d) (bit_xor m e))) (add-one len) ∙ sym (ap (sets qubit len) list) ∙ o.holds;
          count = omega (arith, o.count, ap length list);
        }
      where
        small : u < 32
        small = omega (arith, lowest-below 32 m (omega arith) fits ne)

        list : order_from near Q (20 - len) S L ≡ u ∷ order_from near Q (20 - (len + 1)) (bit_xor S d) (bit_xor m e)
        list =
            more l ∙ order-step near Q (20 - (len + 1)) S L
            ∙ ap (λ (w : ℕ). pick (eqb w 0) [] (lowest_of w ∷ order_from near Q (20 - (len + 1)) (bit_xor S (2 ^ lowest_of w)) (bit_xor w (2 ^ lowest_of w)))) (sym em)
            ∙ rw (ne_eqb m 0 ne, ← eu, ← only-is u small, ← ed)
            (ap (λ (w : ℕ). u ∷ order_from near Q (20 - (len + 1)) (bit_xor S d) (bit_xor m w)) (ed ∙ sym ee))

-- ---- read back

-- what is stored in front of an array is its front
pub front-is : {A : Type 0} (l vs : List A) → length vs ≤ length l → take (length vs) (sets l 0 vs) ≡ vs
front-is l vs h = ap (take (length vs)) (sets-eq vs l 0 (omega arith)) ∙ take-append_seam vs (drop (0 + length vs) l)

pub order-size : (near : List ℕ) (Q v : ℕ) (o : Order) → o ≡ order_in (order_of near Q v) → length o.qubit ≡ 20
unfolding order_in
order-size near Q v o e = ap (λ (o : Order). length o.qubit) e ∙ length-sets (replicate 20 0) 0 (order_of near Q v) ∙ length-replicate {A = ℕ} 20 0

pub members-are : (near : List ℕ) (Q v : ℕ) (o : Order) → o ≡ order_in (order_of near Q v) → members_of o ≡ order_of near Q v
unfolding order_in
members-are near Q v o e =
    ap (λ (o : Order). members_of o) e
    ∙ front-is (replicate 20 0) (order_of near Q v) (omega (arith, order-few near Q v, length-replicate {A = ℕ} 20 0))
