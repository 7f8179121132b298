-- Lists whose members all have a property, and the members that pass a test. Assumes nothing.
use mathlib.Core.Path.{◌≡◌, refl, sym, ap, ap₂, ◌∙◌}
use mathlib.Core.Bool.{Bool, true, false}
use mathlib.Core.List.{List, [], ◌∷◌, ◌++◌, map}
use Prim.Native.Nat.{ℕ, zero, suc, ◌+◌, ◌≤◌, ◌<◌}
use native.Mathlib.Omega.{arith}
use lib.ListN.{length, get_or}
use Rattle.sets.specs.Pick.{pick, both}
use Rattle.sets.specs.Lists.{All, those}
use Rattle.sets.specs.Tables.{one}

pub all_none : {A : Type 0} (P : A → Type 0) → All P []
unfolding All
all_none P = tt

pub all_one : {A : Type 0} (P : A → Type 0) (x : A) → P x → All P (x ∷ [])
unfolding All
all_one P x p = (p, tt)

pub all_head : {A : Type 0} (P : A → Type 0) (x : A) (xs : List A) → All P (x ∷ xs) → P x
unfolding All
all_head P x xs a = a.0

pub all_tail : {A : Type 0} (P : A → Type 0) (x : A) (xs : List A) → All P (x ∷ xs) → All P xs
unfolding All
all_tail P x xs a = a.1

pub all_append : {A : Type 0} (P : A → Type 0) (xs ys : List A) → All P xs → All P ys → All P (xs ++ ys)
unfolding All
all_append P [] ys a b = b
all_append P (x ∷ xs) ys a b = (a.0, all_append P xs ys a.1 b)

pub all-always : {A : Type 0} (P : A → Type 0) → ((x : A) → P x) → (xs : List A) → All P xs
unfolding All
all-always P f [] = tt
all-always P f (x ∷ xs) = (f x, all-always P f xs)

pub all_map : {A : Type 0} (P Q : A → Type 0) → ((x : A) → P x → Q x) → (xs : List A) → All P xs → All Q xs
unfolding All
all_map P Q f [] a = tt
all_map P Q f (x ∷ xs) a = (f x a.0, all_map P Q f xs a.1)

pub all_both : {A : Type 0} (P Q R : A → Type 0) → ((x : A) → P x → Q x → R x) → (xs : List A) → All P xs → All Q xs → All R xs
unfolding All
all_both P Q R f [] a b = tt
all_both P Q R f (x ∷ xs) a b = (f x a.0 b.0, all_both P Q R f xs a.1 b.1)

-- what becomes of the members
pub all-mapped : {A B : Type 0} (P : A → Type 0) (Q : B → Type 0) (f : A → B) → ((x : A) → P x → Q (f x)) → (xs : List A) → All P xs → All Q (map f xs)
unfolding All
all-mapped P Q f g [] a = tt
all-mapped P Q f g (x ∷ xs) a = (g x a.0, all-mapped P Q f g xs a.1)

-- by the places of a list of numbers
pub all-places : (P : ℕ → Type 0) (xs : List ℕ) → ((k : ℕ) → k < length xs → P (get_or xs k 0)) → All P xs
unfolding All
all-places P [] f = tt
all-places P (x ∷ xs) f = (f 0 (omega arith), all-places P xs (λ k l. f (suc k) (omega arith)))

pub all-place : (P : ℕ → Type 0) (xs : List ℕ) → All P xs → (k : ℕ) → k < length xs → P (get_or xs k 0)
unfolding All
all-place P [] a k l = absurd (omega arith)
all-place P (x ∷ xs) a zero l = a.0
all-place P (x ∷ xs) a (suc k) l = all-place P xs a.1 k (omega arith)

-- those that pass a test do
pub those-pass : {A : Type 0} (h : A → Bool) (xs : List A) → All (λ (x : A). h x ≡ true) (those h xs)
unfolding those All
those-pass h [] = tt
those-pass h (x ∷ xs) = go (h x) refl (those-pass h xs)
  where
    go : (b : Bool) → h x ≡ b → All (λ x. h x ≡ true) (those h xs) → All (λ x. h x ≡ true) (pick b (x ∷ those h xs) (those h xs))
    go true e r = (e, r)
    go false e r = r

module _ {A : Type 0} (h : A → Bool) where
  pub those-none : those h [] ≡ []
  unfolding those
  those-none = refl

  pub those-taken : (x : A) (xs : List A) → h x ≡ true → those h (x ∷ xs) ≡ x ∷ those h xs
  unfolding those
  those-taken x xs e = ap (λ (b : Bool). pick b (x ∷ those h xs) (those h xs)) e

  pub those-left : (x : A) (xs : List A) → h x ≡ false → those h (x ∷ xs) ≡ those h xs
  unfolding those
  those-left x xs e = ap (λ (b : Bool). pick b (x ∷ those h xs) (those h xs)) e

  pub those-few : (xs : List A) → length (those h xs) ≤ length xs
  unfolding those
  those-few [] = omega arith
  those-few (x ∷ xs) = go (h x) (those-few xs)
    where
      go : (b : Bool) → length (those h xs) ≤ length xs → length (pick b (x ∷ those h xs) (those h xs)) ≤ suc (length xs)
      go true l = omega arith
      go false l = omega arith

  pub those-length : (x : A) (xs : List A) → length (those h (x ∷ xs)) ≡ one (h x) + length (those h xs)
  unfolding those
  those-length x xs = go (h x)
    where
      go : (b : Bool) → length (pick b (x ∷ those h xs) (those h xs)) ≡ one b + length (those h xs)
      go true = omega arith
      go false = omega arith

  pub those-append : (xs ys : List A) → those h (xs ++ ys) ≡ those h xs ++ those h ys
  unfolding those
  those-append [] ys = refl
  those-append (x ∷ xs) ys = go (h x) (those-append xs ys)
    where
      go : (b : Bool) → those h (xs ++ ys) ≡ those h xs ++ those h ys → pick b (x ∷ those h (xs ++ ys)) (those h (xs ++ ys)) ≡ pick b (x ∷ those h xs) (those h xs) ++ those h ys
      go true e = ap (λ (l : List A). x ∷ l) e
      go false e = e

  -- all of them
  pub those-every : (xs : List A) → All (λ x. h x ≡ true) xs → those h xs ≡ xs
  unfolding All
  those-every [] a = those-none
  those-every (x ∷ xs) a = those-taken x xs a.0 ∙ ap (λ (l : List A). x ∷ l) (those-every xs a.1)

  -- or none
  pub those-no : (xs : List A) → All (λ x. h x ≡ false) xs → those h xs ≡ []
  unfolding All
  those-no [] a = those-none
  those-no (x ∷ xs) a = those-left x xs a.0 ∙ those-no xs a.1

-- two tests one after the other are one
pub those-twice : {A : Type 0} (g h k : A → Bool) → ((x : A) → k x ≡ both (h x) (g x)) → (xs : List A) → those k xs ≡ those g (those h xs)
those-twice g h k e [] = those-none k ∙ sym (ap (those g) (those-none h) ∙ those-none g)
those-twice g h k e (x ∷ xs) = go (h x) (g x) refl refl (those-twice g h k e xs)
  where
    go : (a b : Bool) → h x ≡ a → g x ≡ b → those k xs ≡ those g (those h xs) → those k (x ∷ xs) ≡ those g (those h (x ∷ xs))
    go true true p q ih =
        those-taken k x xs (e x ∙ ap₂ both p q) ∙ ap (λ (l : List _). x ∷ l) ih ∙ sym (ap (those g) (those-taken h x xs p) ∙ those-taken g x (those h xs) q)
    go true false p q ih =
        those-left k x xs (e x ∙ ap₂ both p q) ∙ ih ∙ sym (ap (those g) (those-taken h x xs p) ∙ those-left g x (those h xs) q)
    go false b p q ih = those-left k x xs (e x ∙ ap₂ both p q) ∙ ih ∙ sym (ap (those g) (those-left h x xs p))

-- two functions that agree on every member give one list
pub map-all : {A B : Type 0} (f g : A → B) (xs : List A) → All (λ x. f x ≡ g x) xs → map f xs ≡ map g xs
unfolding All
map-all f g [] a = refl
map-all f g (x ∷ xs) a = ap₂ (λ y ys. y ∷ ys) a.0 (map-all f g xs a.1)
