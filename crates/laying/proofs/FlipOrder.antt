-- The X gates of an island stand by ascending qubit. Assumes nothing.
use mathlib.Core.Path.{◌≡◌, refl, ap, ◌∙◌}
use mathlib.Core.Bool.{Bool, true, false}
use mathlib.Core.List.{List, [], ◌∷◌, ◌++◌}
use Prim.Native.Nat.{ℕ, zero, suc, ◌<◌}
use native.Mathlib.Omega.{arith}
use native.Mathlib.Decide.{dec_lt}
use lib.ListN.{length, get_or, length-append, get_or-append}
use lib.Seq.{get_or-append_seam}
use Rattle.meaning.specs.Borne.{Ascending}
use Rattle.flips.specs.Xs.{asks_flip, flipped_to}
use Rattle.flips.proofs.Xs.{flipped-yes, flipped-no}

-- numbers that ascend and are below k
record Rising (k : ℕ) (qs : List ℕ) : Type 0 where
  ascends : Ascending qs
  below : (i : ℕ) → i < length qs → get_or qs i 0 < k

rising_none : Rising 0 []
unfolding Ascending
rising_none = record { ascends = λ i j l (m : j < 0). absurd (omega arith); below = λ i (l : i < 0). absurd (omega arith) }

module _ (k : ℕ) (qs : List ℕ) (r : Rising k qs) where
  rising-same : Rising (suc k) qs
  rising-same = record { ascends = r.ascends; below = λ i l. omega (arith, r.below i l) }

  rising-more : Rising (suc k) (qs ++ k ∷ [])
  unfolding Ascending
  rising-more = record { ascends = up; below = λ i l. low i l (dec_lt i (length qs)) }
    where
      inner : (i : ℕ) → i < length qs → get_or (qs ++ k ∷ []) i 0 ≡ get_or qs i 0
      inner i l = get_or-append qs (k ∷ []) 0 i l

      last : (i : ℕ) → (i < length qs → ⊥) → i < length (qs ++ k ∷ []) → get_or (qs ++ k ∷ []) i 0 ≡ k
      last i out l =
          let e : i ≡ length qs = omega (arith, l, out, length-append qs (k ∷ [])) in
          ap (λ (j : ℕ). get_or (qs ++ k ∷ []) j 0) e ∙ get_or-append_seam qs k [] 0

      low : (i : ℕ) → i < length (qs ++ k ∷ []) → Dec (i < length qs) → get_or (qs ++ k ∷ []) i 0 < suc k
      low i l (yes h) = omega (arith, inner i h, r.below i h)
      low i l (no h) = omega (arith, last i h l)

      up : Ascending (qs ++ k ∷ [])
      up i j l m = go (dec_lt j (length qs))
        where
          go : Dec (j < length qs) → get_or (qs ++ k ∷ []) i 0 < get_or (qs ++ k ∷ []) j 0
          go (yes h) = omega (arith, inner i (omega arith), inner j h, r.ascends i j l h)
          go (no h) = omega (arith, inner i (omega (arith, m, length-append qs (k ∷ []))), last j h m, r.below i (omega (arith, m, length-append qs (k ∷ []))))

module _ (Q : ℕ) (F : List ℕ) where
  flipped-rises : (k : ℕ) → Rising k (flipped_to Q F k)
  flipped-rises zero = unfold flipped_to in rising_none
  flipped-rises (suc k) = go (asks_flip Q F k) refl (flipped-rises k)
    where
      go : (b : Bool) → asks_flip Q F k ≡ b → Rising k (flipped_to Q F k) → Rising (suc k) (flipped_to Q F (suc k))
      go true e r = rw (flipped-yes Q F k e) (rising-more k (flipped_to Q F k) r)
      go false e r = rw (flipped-no Q F k e) (rising-same k (flipped_to Q F k) r)

  pub flipped-ascending : (k : ℕ) → Ascending (flipped_to Q F k)
  flipped-ascending k = (flipped-rises k).ascends
