-- Cut and woven: what is woven of pieces and cuts is cut into the same again, and a list that is cut is woven into itself. Assumes nothing.
use mathlib.Core.Path.{◌≡◌, refl, ap, ap₂, ◌∙◌}
use mathlib.Core.Bool.{Bool, true, false}
use mathlib.Core.List.{List, [], ◌∷◌, ◌++◌}
use Prim.Native.Nat.{suc}
use native.Mathlib.Omega.{arith}
use lib.ListN.{length}
use Rattle.sets.specs.Pick.{pick}
use Rattle.sets.specs.Lists.{those, All}
use Rattle.sets.proofs.Lists.{those-taken, those-append, those-no}
use Rattle.stretches.specs.Cut.{ahead, cut_at, weave}

module _ {A : Type 0} (h : A → Bool) where
  -- one piece more than cuts
  pub cut-size : (xs : List A) → length (cut_at h xs) ≡ suc (length (those h xs))
  unfolding cut_at those ahead
  cut-size [] = refl
  cut-size (x ∷ xs) = go (h x) (cut_at h xs) (cut-size xs)
    where
      go : (b : Bool) (ss : List (List A)) → length ss ≡ suc (length (those h xs)) → length (pick b ([] ∷ ss) (ahead x ss)) ≡ suc (length (pick b (x ∷ those h xs) (those h xs)))
      go true ss e = omega (arith, e)
      go false [] e = absurd (omega (arith, e))
      go false (s ∷ ss) e = e

  -- an item in front of the first piece stands in front of all
  weave-ahead : (x : A) (ss : List (List A)) (hs : List A) → length ss ≡ suc (length hs) → weave (ahead x ss) hs ≡ x ∷ weave ss hs
  unfolding ahead weave
  weave-ahead x [] hs e = absurd (omega (arith, e))
  weave-ahead x (s ∷ ss) [] e = refl
  weave-ahead x (s ∷ ss) (y ∷ hs) e = refl

  -- the pieces and the cuts of a list, woven, are the list
  pub weave-cut : (xs : List A) → weave (cut_at h xs) (those h xs) ≡ xs
  unfolding cut_at those weave
  weave-cut [] = refl
  weave-cut (x ∷ xs) = go (h x) (weave-cut xs)
    where
      go : (b : Bool) → weave (cut_at h xs) (those h xs) ≡ xs → weave (pick b ([] ∷ cut_at h xs) (ahead x (cut_at h xs))) (pick b (x ∷ those h xs) (those h xs)) ≡ x ∷ xs
      go true e = ap (λ (l : List A). x ∷ l) e
      go false e = weave-ahead x (cut_at h xs) (those h xs) (cut-size xs) ∙ ap (λ (l : List A). x ∷ l) e

  -- ---- a piece, and what follows it

  -- a piece has no cut in it
  abbrev Uncut : List A → Type 0
  Uncut s = All (λ x. h x ≡ false) s

  cut-behind : (s : List A) → Uncut s → (x : A) → h x ≡ true → (xs : List A) → cut_at h (s ++ x ∷ xs) ≡ s ∷ cut_at h xs
  unfolding cut_at All ahead
  cut-behind [] a x e xs = ap (λ (b : Bool). pick b ([] ∷ cut_at h xs) (ahead x (cut_at h xs))) e
  cut-behind (y ∷ s) a x e xs =
      ap (λ (b : Bool). pick b ([] ∷ cut_at h (s ++ x ∷ xs)) (ahead y (cut_at h (s ++ x ∷ xs)))) a.0 ∙ ap (ahead y) (cut-behind s a.1 x e xs)

  cut-whole : (s : List A) → Uncut s → cut_at h s ≡ s ∷ []
  unfolding cut_at All ahead
  cut-whole [] a = refl
  cut-whole (y ∷ s) a = ap (λ (b : Bool). pick b ([] ∷ cut_at h s) (ahead y (cut_at h s))) a.0 ∙ ap (ahead y) (cut-whole s a.1)

  those-behind : (s : List A) → Uncut s → (x : A) → h x ≡ true → (xs : List A) → those h (s ++ x ∷ xs) ≡ x ∷ those h xs
  those-behind s a x e xs = those-append h s (x ∷ xs) ∙ ap₂ ◌++◌ (those-no h s a) (those-taken h x xs e)

  -- ---- pieces without a cut, woven with one cut fewer, are cut into the same

  pub cut-weave : (ss : List (List A)) (hs : List A) → length ss ≡ suc (length hs) → All (All (λ x. h x ≡ false)) ss → All (λ x. h x ≡ true) hs → cut_at h (weave ss hs) ≡ ss
  unfolding weave All
  cut-weave [] hs l a b = absurd (omega (arith, l))
  cut-weave (s ∷ []) [] l a b = cut-whole s a.0
  cut-weave (s ∷ t ∷ ss) [] l a b = absurd (omega (arith, l))
  cut-weave (s ∷ ss) (x ∷ hs) l a b = cut-behind s a.0 x b.0 (weave ss hs) ∙ ap (λ (r : List (List A)). s ∷ r) (cut-weave ss hs (omega (arith, l)) a.1 b.1)

  pub those-weave : (ss : List (List A)) (hs : List A) → length ss ≡ suc (length hs) → All (All (λ x. h x ≡ false)) ss → All (λ x. h x ≡ true) hs → those h (weave ss hs) ≡ hs
  unfolding weave All
  those-weave [] hs l a b = absurd (omega (arith, l))
  those-weave (s ∷ []) [] l a b = those-no h s a.0
  those-weave (s ∷ t ∷ ss) [] l a b = absurd (omega (arith, l))
  those-weave (s ∷ ss) (x ∷ hs) l a b = those-behind s a.0 x b.0 (weave ss hs) ∙ ap (λ (r : List A). x ∷ r) (those-weave ss hs (omega (arith, l)) a.1 b.1)
