-- Laws of a search: `first_of` and `some_of`. Assumes nothing.
use mathlib.Core.Path.{◌≡◌, refl, sym, ap, ◌∙◌, subst}
use mathlib.Core.Bool.{Bool, true, false, not, cond}
use mathlib.Core.List.{List, [], ◌∷◌}
use Prim.Native.Nat.{ℕ, zero, suc, ◌+◌, ◌-◌, ◌≤◌, ◌<◌}
use native.Mathlib.Numerals.{add-one}
use native.Mathlib.Omega.{arith}
use lib.Dec.{ltb}
use lib.ListN.{length, get_or}
use borrow.Author.Tests.{lt-ltb, le-ltb, ltb-true, ltb-false}
use Rattle.std.proofs.Common.{Option, Some, None, MatchOption}
use Rattle.std.specs.List.{position_or_len}
use Rattle.sets.specs.Pick.{pick}
use Rattle.sets.specs.Search.{first_of, some_of, found_of}
use Rattle.sets.proofs.Deciding.{never}

pub sub-suc : (n r : ℕ) → r < n → n - r ≡ suc (n - (r + 1))
sub-suc n r h = omega arith

pub sub-none : (n r : ℕ) → n ≤ r → n - r ≡ 0
sub-none n r h = omega arith

-- the turn of a loop at which the property holds, a turn at which it does not, and the loop's end
pub first-here : (f : ℕ → Bool) (n r : ℕ) → r < n → f r ≡ true → first_of f (n - r) r ≡ r
unfolding first_of
first-here f n r h e = rw (sub-suc n r h, e)

pub first_next : (f : ℕ → Bool) (n r : ℕ) → r < n → f r ≡ false → first_of f (n - r) r ≡ first_of f (n - (r + 1)) (r + 1)
unfolding first_of
first_next f n r h e = rw (sub-suc n r h, e)

pub first-end : (f : ℕ → Bool) (n r : ℕ) → n ≤ r → first_of f (n - r) r ≡ r
unfolding first_of
first-end f n r h = rw (sub-none n r h)

-- what the number found is: the property holds at it and at no number passed
module _ (f : ℕ → Bool) where
  pub first-le : (d r : ℕ) → first_of f d r ≤ r + d
  unfolding first_of
  first-le zero r = omega arith
  first-le (suc d) r = go (f r) (first-le d (r + 1))
    where
      go : (b : Bool) → first_of f d (r + 1) ≤ r + 1 + d → pick b r (first_of f d (r + 1)) ≤ r + suc d
      go true h = omega arith
      go false h = omega arith

  pub first-true : (d r : ℕ) → first_of f d r < r + d → f (first_of f d r) ≡ true
  unfolding first_of
  first-true zero r h = absurd (omega arith)
  first-true (suc d) r h = go (f r) refl h (first-true d (r + 1))
    where
      go : (b : Bool) → f r ≡ b → pick b r (first_of f d (r + 1)) < r + suc d
          → (first_of f d (r + 1) < r + 1 + d → f (first_of f d (r + 1)) ≡ true) → f (pick b r (first_of f d (r + 1))) ≡ true
      go true e h rest = e
      go false e h rest = rest (omega arith)

  pub first-before : (d r k : ℕ) → r ≤ k → k < first_of f d r → f k ≡ false
  unfolding first_of
  first-before zero r k g h = absurd (omega arith)
  first-before (suc d) r k g h = go (f r) refl h (first-before d (r + 1) k)
    where
      go : (b : Bool) → f r ≡ b → k < pick b r (first_of f d (r + 1)) → (r + 1 ≤ k → k < first_of f d (r + 1) → f k ≡ false) → f k ≡ false
      go true e h rest = absurd (omega arith)
      go false e h rest = at (ltb r k) refl
        where
          at : (t : Bool) → ltb r k ≡ t → f k ≡ false
          at true u = let v : r < k = ltb-true r k u in rest (omega arith) h
          at false u = let v : k ≤ r = ltb-false r k u in let w : r ≡ k = omega arith in subst (λ (x : ℕ). f x ≡ false) w e

-- a search from 0 that found a number below n, or none
pub some-yes : (f : ℕ → Bool) (n m : ℕ) → m < n → first_of f n 0 ≡ m → some_of f n ≡ true
unfolding some_of
some-yes f n m h e = lt-ltb (first_of f n 0) n (omega arith)

pub some-no : (f : ℕ → Bool) (n m : ℕ) → n ≤ m → first_of f n 0 ≡ m → some_of f n ≡ false
unfolding some_of
some-no f n m h e = le-ltb (first_of f n 0) n (omega arith)

-- the only number that is found
pub first-is : (f : ℕ → Bool) (d k : ℕ) → k ≤ d → (k < d → f k ≡ true) → ((j : ℕ) → j < k → f j ≡ false) → first_of f d 0 ≡ k
first-is f d k le hit miss = go (ltb m k) (ltb k m) refl refl
  where
    m : ℕ
    m = first_of f d 0

    go : (b c : Bool) → ltb m k ≡ b → ltb k m ≡ c → m ≡ k
    go true c p q = let h : m < k = ltb-true m k p in absurd (never (first-true f d 0 (omega arith)) (miss m h))
    go false true p q =
        let h : k < m = ltb-true k m q in
        absurd (never (hit (omega (arith, first-le f d 0))) (first-before f d 0 k (omega arith) h))
    go false false p q = omega (arith, ltb-false m k p, ltb-false k m q)

-- a search begins with all its numbers to try
pub first-all : (f : ℕ → Bool) (n : ℕ) → first_of f (n - 0) 0 ≡ first_of f n 0
first-all f n = ap (λ (d : ℕ). first_of f d 0) (omega arith)

-- a search that found m, or nothing
pub found-here : (f : ℕ → Bool) (n m : ℕ) → m < n → first_of f n 0 ≡ m → Some m ≡ found_of f n
unfolding found_of
found-here f n m h e = rw (e, lt-ltb m n h)

pub found-none : (f : ℕ → Bool) (n m : ℕ) → n ≤ m → first_of f n 0 ≡ m → None ≡ found_of f n
unfolding found_of
found-none f n m h e = rw (e, le-ltb m n h)

-- what it found
pub found-first : (f : ℕ → Bool) (n : ℕ) {m : ℕ} → found_of f n ≡ Some m → (first_of f n 0 ≡ m) × (m < n)
unfolding found_of
found-first f n {m} e = go (ltb (first_of f n 0) n) refl e
  where
    go : (b : Bool) → ltb (first_of f n 0) n ≡ b → pick b (Some (first_of f n 0)) None ≡ Some m → (first_of f n 0 ≡ m) × (m < n)
    go true q e = let o : first_of f n 0 ≡ m = cc in (o, omega (arith, ltb-true (first_of f n 0) n q, o))
    go false q e = let z : ◌≡◌ {A = ℕ} 0 1 = cc in absurd (omega arith)

pub found-not : (f : ℕ → Bool) (n : ℕ) → found_of f n ≡ None → n ≤ first_of f n 0
unfolding found_of
found-not f n e = go (ltb (first_of f n 0) n) refl e
  where
    go : (b : Bool) → ltb (first_of f n 0) n ≡ b → pick b (Some (first_of f n 0)) None ≡ None → n ≤ first_of f n 0
    go true q e = let z : ◌≡◌ {A = ℕ} 0 1 = cc in absurd (omega arith)
    go false q e = ltb-false (first_of f n 0) n q

-- ---- a search along a list

first-shift : (f : ℕ → Bool) (d r : ℕ) → first_of f d (r + 1) ≡ 1 + first_of (λ k. f (suc k)) d r
unfolding first_of
first-shift f zero r = omega arith
first-shift f (suc d) r = ap (λ (b : Bool). pick b (r + 1) (first_of f d (r + 1 + 1))) (ap f (add-one r)) ∙ go (f (suc r)) (first-shift f d (r + 1))
  where
    go : (b : Bool) → first_of f d (r + 1 + 1) ≡ 1 + first_of (λ k. f (suc k)) d (r + 1) → pick b (r + 1) (first_of f d (r + 1 + 1)) ≡ 1 + pick b r (first_of (λ k. f (suc k)) d (r + 1))
    go true e = omega arith
    go false e = e

pub first-position : {A : Type 0} (p : A → Bool) (d : A) (xs : List A) (f : ℕ → Bool) → ((k : ℕ) → k < length xs → p (get_or xs k d) ≡ f k) → position_or_len p xs ≡ first_of f (length xs) 0
unfolding first_of
first-position p d [] f same = refl
first-position p d (x ∷ xs) f same =
    ap (λ (b : Bool). cond (not b) (1 + position_or_len p xs) 0) (same 0 (omega arith))
    ∙ go (f 0) (first-position p d xs (λ k. f (suc k)) (λ k l. same (suc k) (omega arith)))
  where
    go : (b : Bool) → position_or_len p xs ≡ first_of (λ k. f (suc k)) (length xs) 0
        → cond (not b) (1 + position_or_len p xs) 0 ≡ pick b 0 (first_of f (length xs) (0 + 1))
    go true e = refl
    go false e = ap (λ (n : ℕ). 1 + n) e ∙ sym (first-shift f (length xs) 0)

-- what `position` answers is what a search over the places finds
pub found-position : {A : Type 0} (p : A → Bool) (d : A) (xs : List A) (f : ℕ → Bool) (r : Option ℕ) → ((k : ℕ) → k < length xs → p (get_or xs k d) ≡ f k)
    → r ≡ cond (ltb (position_or_len p xs) (length xs)) (Some (position_or_len p xs)) None
    → MatchOption r (length xs ≤ first_of f (length xs) 0) (λ q. (q < length xs) × (q ≡ first_of f (length xs) 0))
found-position p d xs f r same e =
    subst (λ (o : Option ℕ). MatchOption o (length xs ≤ m) (λ q. (q < length xs) × (q ≡ m)))
    (sym (e ∙ ap (λ (n : ℕ). cond (ltb n (length xs)) (Some n) None) (first-position p d xs f same))) (go (ltb m (length xs)) refl)
  where
    m : ℕ
    m = first_of f (length xs) 0

    go : (b : Bool) → ltb m (length xs) ≡ b → MatchOption (cond b (Some m) None) (length xs ≤ m) (λ q. (q < length xs) × (q ≡ m))
    go true h = (ltb-true m (length xs) h, refl)
    go false h = ltb-false m (length xs) h
