-- Members at the same places of two lists, in a relation. Assumes nothing.
use mathlib.Core.Path.{◌≡◌, refl, ap₂}
use mathlib.Core.List.{List, [], ◌∷◌, map}
use Prim.Native.Nat.{ℕ}
use native.Mathlib.Omega.{arith}
use Rattle.sets.specs.Lists.{All}
use Rattle.stretches.specs.Cut.{Pairs}

-- members that have properties too
pub pairs-both : {A B : Type 0} (P : A → Type 0) (Q : B → Type 0) (R S : A → B → Type 0) → ((x : A) (y : B) → P x → Q y → R x y → S x y)
    → (xs : List A) (ys : List B) → All P xs → All Q ys → Pairs R xs ys → Pairs S xs ys
unfolding All Pairs
pairs-both P Q R S f [] [] a b r = tt
pairs-both P Q R S f [] (y ∷ ys) a b r = absurd r
pairs-both P Q R S f (x ∷ xs) [] a b r = absurd r
pairs-both P Q R S f (x ∷ xs) (y ∷ ys) a b r = (f x y a.0 b.0 r.0, pairs-both P Q R S f xs ys a.1 b.1 r.1)

-- what becomes of the members
pub pairs-mapped : {A B C D : Type 0} (f : A → C) (g : B → D) (R : C → D → Type 0) (xs : List A) (ys : List B) → Pairs (λ x y. R (f x) (g y)) xs ys → Pairs R (map f xs) (map g ys)
unfolding Pairs
pairs-mapped f g R [] [] r = tt
pairs-mapped f g R [] (y ∷ ys) r = absurd r
pairs-mapped f g R (x ∷ xs) [] r = absurd r
pairs-mapped f g R (x ∷ xs) (y ∷ ys) r = (r.0, pairs-mapped f g R xs ys r.1)

-- each member and what becomes of it
pub pairs-self : {A B : Type 0} (P : A → Type 0) (f : A → B) (R : A → B → Type 0) → ((x : A) → P x → R x (f x)) → (xs : List A) → All P xs → Pairs R xs (map f xs)
unfolding All Pairs
pairs-self P f R g [] a = tt
pairs-self P f R g (x ∷ xs) a = (g x a.0, pairs-self P f R g xs a.1)

-- ---- equal members

pub pairs-equal : {A : Type 0} (xs ys : List A) → Pairs (λ x y. x ≡ y) xs ys → xs ≡ ys
unfolding Pairs
pairs-equal [] [] r = refl
pairs-equal [] (y ∷ ys) r = absurd r
pairs-equal (x ∷ xs) [] r = absurd r
pairs-equal {A} (x ∷ xs) (y ∷ ys) r = ap₂ (λ (a : A) (l : List A). a ∷ l) r.0 (pairs-equal xs ys r.1)

pub equal-pairs : {A B C : Type 0} (f : A → C) (g : B → C) (xs : List A) (ys : List B) → map f xs ≡ map g ys → Pairs (λ x y. f x ≡ g y) xs ys
unfolding Pairs
equal-pairs f g [] [] e = tt
equal-pairs f g [] (y ∷ ys) e = let z : ◌≡◌ {A = ℕ} 0 1 = cc in omega arith
equal-pairs f g (x ∷ xs) [] e = let z : ◌≡◌ {A = ℕ} 0 1 = cc in omega arith
equal-pairs f g (x ∷ xs) (y ∷ ys) e = (cc, equal-pairs f g xs ys (cc))
