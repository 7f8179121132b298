-- A list cut at some of its items: the first piece, the rest behind the first such item, and what holds of every piece. Assumes nothing.
use mathlib.Core.Path.{◌≡◌, refl, sym, ap, ◌∙◌}
use mathlib.Core.Bool.{Bool, true, false, cond}
use mathlib.Core.List.{List, [], ◌∷◌}
use Prim.Native.Nat.{ℕ, suc, ◌+◌, ◌≤◌, ◌<◌}
use native.Mathlib.Omega.{arith}
use lib.Dec.{ltb}
use lib.ListN.{length, get_or, take, drop}
use borrow.Author.Tests.{ltb-false}
use Rattle.std.specs.Prelude.{Some, None}
use Rattle.std.specs.Option.{unwrap_or}
use Rattle.std.specs.List.{position, position_or_len}
use Rattle.std.proofs.lemmas.List.Recursion.{is_position_or_len}
use Rattle.sets.specs.Pick.{pick}
use Rattle.sets.specs.Lists.{All, those}
use Rattle.sets.proofs.Lists.{all-always}
use Rattle.stretches.specs.Cut.{first_at, ahead, cut_at}

module _ {A : Type 0} (h : A → Bool) where
  pub first-le : (xs : List A) → first_at h xs ≤ length xs
  unfolding first_at
  first-le [] = omega arith
  first-le (x ∷ xs) = go (h x) (first-le xs)
    where
      go : (b : Bool) → first_at h xs ≤ length xs → pick b 0 (suc (first_at h xs)) ≤ suc (length xs)
      go true l = omega arith
      go false l = omega arith

  -- the first such item is one
  pub first-is : (d : A) (xs : List A) → first_at h xs < length xs → h (get_or xs (first_at h xs) d) ≡ true
  unfolding first_at
  first-is d [] l = absurd (omega arith)
  first-is d (x ∷ xs) l = go (h x) (first-is d xs) refl l
    where
      go : (b : Bool) → (first_at h xs < length xs → h (get_or xs (first_at h xs) d) ≡ true) → h x ≡ b → pick b 0 (suc (first_at h xs)) < suc (length xs) → h (get_or (x ∷ xs) (pick b 0 (suc (first_at h xs))) d) ≡ true
      go true r e l = e
      go false r e l = r (omega arith)

  -- `position` finds it
  pub found-first : (xs : List A) → unwrap_or (position h xs) (length xs) ≡ first_at h xs
  found-first xs = ap (λ (m : ℕ). unwrap_or (cond (ltb m (length xs)) (Some m) None) (length xs)) same ∙ go (ltb (first_at h xs) (length xs)) refl
    where
      step : (b : Bool) (m : ℕ) → pick b 0 (suc m) ≡ cond b 0 (1 + m)
      step true m = refl
      step false m = omega arith

      same : position_or_len h xs ≡ first_at h xs
      same = unfold first_at in sym (is_position_or_len (first_at h) h refl (λ x ys. step (h x) (first_at h ys)) xs)

      go : (b : Bool) → ltb (first_at h xs) (length xs) ≡ b → unwrap_or (cond b (Some (first_at h xs)) None) (length xs) ≡ first_at h xs
      go true e = refl
      go false e = omega (arith, ltb-false (first_at h xs) (length xs) e, first-le xs)

  -- ---- no such item

  pub cut-last : (xs : List A) → first_at h xs ≡ length xs → cut_at h xs ≡ xs ∷ []
  unfolding first_at cut_at ahead
  cut-last [] e = refl
  cut-last (x ∷ xs) e = go (h x) (cut-last xs) e
    where
      go : (b : Bool) → (first_at h xs ≡ length xs → cut_at h xs ≡ xs ∷ []) → pick b 0 (suc (first_at h xs)) ≡ suc (length xs) → pick b ([] ∷ cut_at h xs) (ahead x (cut_at h xs)) ≡ (x ∷ xs) ∷ []
      go true r e = absurd (omega arith)
      go false r e = ap (ahead x) (r (omega arith))

  pub those-last : (xs : List A) → first_at h xs ≡ length xs → those h xs ≡ []
  unfolding first_at those
  those-last [] e = refl
  those-last (x ∷ xs) e = go (h x) (those-last xs) e
    where
      go : (b : Bool) → (first_at h xs ≡ length xs → those h xs ≡ []) → pick b 0 (suc (first_at h xs)) ≡ suc (length xs) → pick b (x ∷ those h xs) (those h xs) ≡ []
      go true r e = absurd (omega arith)
      go false r e = r (omega arith)

  -- ---- one at the place f

  pub cut-more : (xs : List A) (f : ℕ) → f ≡ first_at h xs → f < length xs → cut_at h xs ≡ take f xs ∷ cut_at h (drop (suc f) xs)
  unfolding first_at cut_at ahead
  cut-more [] f e l = absurd (omega arith)
  cut-more (x ∷ xs) f e l = go (h x) (cut-more xs) f e l
    where
      go : (b : Bool) → ((g : ℕ) → g ≡ first_at h xs → g < length xs → cut_at h xs ≡ take g xs ∷ cut_at h (drop (suc g) xs))
          → (f : ℕ) → f ≡ pick b 0 (suc (first_at h xs)) → f < suc (length xs)
          → pick b ([] ∷ cut_at h xs) (ahead x (cut_at h xs)) ≡ take f (x ∷ xs) ∷ cut_at h (drop (suc f) (x ∷ xs))
      go true r f e l = sym (ap (λ (k : ℕ). take k (x ∷ xs) ∷ cut_at h (drop (suc k) (x ∷ xs))) e)
      go false r f e l = ap (ahead x) (r (first_at h xs) refl (omega arith)) ∙ sym (ap (λ (k : ℕ). take k (x ∷ xs) ∷ cut_at h (drop (suc k) (x ∷ xs))) e)

  pub those-more : (d : A) (xs : List A) (f : ℕ) → f ≡ first_at h xs → f < length xs → those h xs ≡ get_or xs f d ∷ those h (drop (suc f) xs)
  unfolding first_at those
  those-more d [] f e l = absurd (omega arith)
  those-more d (x ∷ xs) f e l = go (h x) (those-more d xs) f e l
    where
      go : (b : Bool) → ((g : ℕ) → g ≡ first_at h xs → g < length xs → those h xs ≡ get_or xs g d ∷ those h (drop (suc g) xs))
          → (f : ℕ) → f ≡ pick b 0 (suc (first_at h xs)) → f < suc (length xs)
          → pick b (x ∷ those h xs) (those h xs) ≡ get_or (x ∷ xs) f d ∷ those h (drop (suc f) (x ∷ xs))
      go true r f e l = sym (ap (λ (k : ℕ). get_or (x ∷ xs) k d ∷ those h (drop (suc k) (x ∷ xs))) e)
      go false r f e l = r (first_at h xs) refl (omega arith) ∙ sym (ap (λ (k : ℕ). get_or (x ∷ xs) k d ∷ those h (drop (suc k) (x ∷ xs))) e)

-- ---- what holds of every piece

module _ {A : Type 0} (P : A → Type 0) (h : A → Bool) where
  ahead-all : (x : A) (ss : List (List A)) → P x → All (All P) ss → All (All P) (ahead x ss)
  unfolding All ahead
  ahead-all x [] p a = ((p, tt), tt)
  ahead-all x (s ∷ ss) p a = ((p, a.0), a.1)

  -- what holds of every item that is no cut holds of every item of every piece
  pub cut_all : (xs : List A) → All (λ x. h x ≡ false → P x) xs → All (All P) (cut_at h xs)
  unfolding All cut_at
  cut_all [] a = (tt, tt)
  cut_all (x ∷ xs) a = go (h x) refl (cut_all xs a.1)
    where
      go : (b : Bool) → h x ≡ b → All (All P) (cut_at h xs) → All (All P) (pick b ([] ∷ cut_at h xs) (ahead x (cut_at h xs)))
      go true e r = (tt, r)
      go false e r = ahead-all x (cut_at h xs) (a.0 e) r

-- no piece has a cut in it
pub cut-false : {A : Type 0} (h : A → Bool) (xs : List A) → All (All (λ (x : A). h x ≡ false)) (cut_at h xs)
cut-false h xs = cut_all (λ x. h x ≡ false) h xs (all-always (λ x. h x ≡ false → h x ≡ false) (λ x e. e) xs)

-- no piece is longer than the list
pub cut_short : {A : Type 0} (h : A → Bool) (xs : List A) (m : ℕ) → length xs < m → All (λ (s : List A). length s < m) (cut_at h xs)
unfolding All cut_at ahead
cut_short h [] m l = (l, tt)
cut_short h (x ∷ xs) m l = go (h x) (cut_at h xs) (cut_short h xs (length (x ∷ xs)) (omega arith)) (cut_short h xs m (omega arith))
  where
    go : (b : Bool) (ss : List (List _)) → All (λ s. length s < suc (length xs)) ss → All (λ s. length s < m) ss → All (λ s. length s < m) (pick b ([] ∷ ss) (ahead x ss))
    go true ss a b = (omega arith, b)
    go false [] a b = (omega arith, tt)
    go false (s ∷ ss) a b = (omega (arith, a.0), b.1)

-- nor are there more pieces than items and one
pub cut-few : {A : Type 0} (h : A → Bool) (xs : List A) → length (cut_at h xs) ≤ length xs + 1
unfolding cut_at ahead
cut-few h [] = omega arith
cut-few h (x ∷ xs) = go (h x) (cut_at h xs) (cut-few h xs)
  where
    go : (b : Bool) (ss : List (List _)) → length ss ≤ length xs + 1 → length (pick b ([] ∷ ss) (ahead x ss)) ≤ suc (length xs) + 1
    go true ss l = omega (arith, l)
    go false [] l = omega arith
    go false (s ∷ ss) l = omega (arith, l)
