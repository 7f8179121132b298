-- Ascending lists: putting a number in, taking those that pass a test, and when two are the same. Assumes nothing.
use mathlib.Core.Path.{◌≡◌, refl, sym, ap, ap₂, ◌∙◌, subst}
use mathlib.Core.Logic.{◌⊎◌, inl, inr, ⊎_elim}
use mathlib.Core.Bool.{Bool, true, false}
use mathlib.Core.List.{List, [], ◌∷◌}
use Prim.Native.Nat.{ℕ, zero, suc, ◌≤◌, ◌<◌, suc-le-suc}
use native.Mathlib.Nat.{le_of_suc-le-suc, not-suc-le-zero, zero-lt-suc}
use native.Mathlib.Omega.{arith}
use lib.Dec.{ltb}
use lib.ListN.{length, get_or}
use borrow.Author.Tests.{lt-ltb, le-ltb, eq-eqb, ne_eqb, ltb-true, ltb-false}
use Rattle.meaning.specs.Borne.{insert, Ascending, Among}
use Rattle.sets.specs.Lists.{those}
use Rattle.sets.proofs.Lists.{those-none, those-taken, those-left}
use Rattle.sets.proofs.Deciding.{never}
use Rattle.table.specs.Table.{put_in}

-- each number is at least m, and greater than the one before it
unfoldable pub Up : ℕ → List ℕ → Type 0
Up m [] = Unit {0}
Up m (x ∷ xs) = (m ≤ x) × Up (suc x) xs

pub up_none : (m : ℕ) → Up m []
unfolding Up
up_none m = tt

pub up-weaken : (m k : ℕ) (xs : List ℕ) → m ≤ k → Up k xs → Up m xs
unfolding Up
up-weaken m k [] h u = tt
up-weaken m k (x ∷ xs) h u = (omega (arith, h, u.0), u.1)

pub up-among : (m p : ℕ) (xs : List ℕ) → Up m xs → Among p xs → m ≤ p
unfolding Up Among
up-among m p (x ∷ xs) u (inl e) = omega (arith, u.0)
up-among m p (x ∷ xs) u (inr h) = omega (arith, u.0, up-among (suc x) p xs u.1 h)
up-among m p [] u h = elim h [ ]

pub up_at : (m : ℕ) (xs : List ℕ) → Up m xs → (j : ℕ) → j < length xs → m ≤ get_or xs j 0
unfolding Up
up_at m [] u j h = absurd (not-suc-le-zero h)
up_at m (x ∷ xs) u zero h = u.0
up_at m (x ∷ xs) u (suc j) h = omega (arith, u.0, up_at (suc x) xs u.1 j (le_of_suc-le-suc h))

pub up-ascending : (m : ℕ) (xs : List ℕ) → Up m xs → Ascending xs
unfolding Up Ascending
up-ascending m [] u i j h l = absurd (not-suc-le-zero l)
up-ascending m (x ∷ xs) u zero zero h l = absurd (not-suc-le-zero h)
up-ascending m (x ∷ xs) u zero (suc j) h l = up_at (suc x) xs u.1 j (le_of_suc-le-suc l)
up-ascending m (x ∷ xs) u (suc i) zero h l = absurd (not-suc-le-zero h)
up-ascending m (x ∷ xs) u (suc i) (suc j) h l = up-ascending (suc x) xs u.1 i j (le_of_suc-le-suc h) (le_of_suc-le-suc l)

-- ---- members

pub among-at : (xs : List ℕ) (k : ℕ) → k < length xs → Among (get_or xs k 0) xs
unfolding Among
among-at [] k h = absurd (not-suc-le-zero h)
among-at (x ∷ xs) zero h = inl refl
among-at (x ∷ xs) (suc k) h = inr (among-at xs k (le_of_suc-le-suc h))

pub at-among : (p : ℕ) (xs : List ℕ) → Among p xs → (k : ℕ) × (k < length xs) × (get_or xs k 0 ≡ p)
unfolding Among
at-among p (x ∷ xs) (inl e) = (0, zero-lt-suc (length xs), e)
at-among p (x ∷ xs) (inr h) = let r = at-among p xs h in (suc r.0, suc-le-suc r.1, r.2)
at-among p [] h = elim h [ ]

-- two ascending lists of the same numbers are the same
pub ascending-same : (m : ℕ) (xs ys : List ℕ) → Up m xs → Up m ys → ((p : ℕ) → Among p xs → Among p ys) → ((p : ℕ) → Among p ys → Among p xs) → xs ≡ ys
unfolding Up Among
ascending-same m [] [] u v f g = refl
ascending-same m [] (y ∷ ys) u v f g = absurd (g y (inl refl))
ascending-same m (x ∷ xs) [] u v f g = absurd (f x (inl refl))
ascending-same m (x ∷ xs) (y ∷ ys) u v f g =
    let e : x ≡ y = heads (f x (inl refl)) (g y (inl refl)) in
    ap₂ (λ (a : ℕ) (as' : List ℕ). a ∷ as') e
    (ascending-same (suc x) xs ys u.1 (subst (λ (k : ℕ). Up (suc k) ys) (sym e) v.1)
    (λ p h. other p (f p (inr h)) (up-among (suc x) p xs u.1 h) e) (λ p h. back p (g p (inr h)) (up-among (suc y) p ys v.1 h) e))
  where
    heads : (y ≡ x) ⊎ Among x ys → (x ≡ y) ⊎ Among y xs → x ≡ y
    heads (inl e) b = sym e
    heads (inr h) (inl e) = e
    heads (inr h) (inr k) = absurd (omega (arith, up-among (suc y) x ys v.1 h, up-among (suc x) y xs u.1 k))

    other : (p : ℕ) → (y ≡ p) ⊎ Among p ys → suc x ≤ p → x ≡ y → Among p ys
    other p (inl d) l e = absurd (omega arith)
    other p (inr h) l e = h

    back : (p : ℕ) → (x ≡ p) ⊎ Among p xs → suc y ≤ p → x ≡ y → Among p xs
    back p (inl d) l e = absurd (omega arith)
    back p (inr h) l e = h

-- ---- a number put in

-- by the order of two numbers
by_order : (a b : ℕ) → (a < b) ⊎ ((a ≡ b) ⊎ (b < a))
by_order a b = go (ltb a b) (ltb b a) refl refl
  where
    go : (s t : Bool) → ltb a b ≡ s → ltb b a ≡ t → (a < b) ⊎ ((a ≡ b) ⊎ (b < a))
    go true t p q = inl (ltb-true a b p)
    go false true p q = inr (inr (ltb-true b a q))
    go false false p q = inr (inl (omega (arith, ltb-false a b p, ltb-false b a q)))

module _ (p x : ℕ) (xs : List ℕ) where
  insert-past : x < p → insert p (x ∷ xs) ≡ x ∷ insert p xs
  unfolding insert
  insert-past h = simp (lt-ltb x p h)

  insert-there : x ≡ p → insert p (x ∷ xs) ≡ x ∷ xs
  unfolding insert
  insert-there e = simp (le-ltb x p (omega arith), eq-eqb x p e)

  insert-before : p < x → insert p (x ∷ xs) ≡ p ∷ x ∷ xs
  unfolding insert
  insert-before h = simp (le-ltb x p (omega arith), ne_eqb x p (λ (e : x ≡ p). omega arith))

pub up-insert : (m p : ℕ) (xs : List ℕ) → Up m xs → m ≤ p → Up m (insert p xs)
unfolding Up
up-insert m p [] u h = unfold Up insert in (h, tt)
up-insert m p (x ∷ xs) u h = go (by_order x p) (up-insert (suc x) p xs)
  where
    go : (x < p) ⊎ ((x ≡ p) ⊎ (p < x)) → (Up (suc x) xs → suc x ≤ p → Up (suc x) (insert p xs)) → Up m (insert p (x ∷ xs))
    go (inl l) ih = rw (insert-past p x xs l) (u.0, ih u.1 l)
    go (inr (inl e)) ih = rw (insert-there p x xs e) u
    go (inr (inr l)) ih = rw (insert-before p x xs l) (h, (l, u.1))

pub insert-has : (p : ℕ) (xs : List ℕ) → Among p (insert p xs)
unfolding Among
insert-has p [] = unfold Among insert in inl refl
insert-has p (x ∷ xs) = go (by_order x p) (insert-has p xs)
  where
    go : (x < p) ⊎ ((x ≡ p) ⊎ (p < x)) → Among p (insert p xs) → Among p (insert p (x ∷ xs))
    go (inl l) ih = rw (insert-past p x xs l) (inr ih)
    go (inr (inl e)) ih = rw (insert-there p x xs e) (inl e)
    go (inr (inr l)) ih = rw (insert-before p x xs l) (inl refl)

pub insert-keeps : (p r : ℕ) (xs : List ℕ) → Among r xs → Among r (insert p xs)
unfolding Among
insert-keeps p r [] h = absurd (unfold Among in h)
insert-keeps p r (x ∷ xs) h = go (by_order x p) (unfold Among in h) (insert-keeps p r xs)
  where
    go : (x < p) ⊎ ((x ≡ p) ⊎ (p < x)) → (x ≡ r) ⊎ Among r xs → (Among r xs → Among r (insert p xs)) → Among r (insert p (x ∷ xs))
    go (inl l) (inl e) ih = rw (insert-past p x xs l) (inl e)
    go (inl l) (inr k) ih = rw (insert-past p x xs l) (inr (ih k))
    go (inr (inl e)) k ih = rw (insert-there p x xs e) k
    go (inr (inr l)) k ih = rw (insert-before p x xs l) (inr k)

pub insert-back : (p r : ℕ) (xs : List ℕ) → Among r (insert p xs) → (p ≡ r) ⊎ Among r xs
unfolding Among
insert-back p r [] h = unfold Among insert in h
insert-back p r (x ∷ xs) h = go (by_order x p) h (insert-back p r xs)
  where
    go : (x < p) ⊎ ((x ≡ p) ⊎ (p < x)) → Among r (insert p (x ∷ xs)) → (Among r (insert p xs) → (p ≡ r) ⊎ Among r xs) → (p ≡ r) ⊎ Among r (x ∷ xs)
    go (inl l) k ih = ⊎_elim (λ e. inr (inl e)) (λ j. ⊎_elim (λ e. inl e) (λ i. inr (inr i)) (ih j)) (subst (Among r) (insert-past p x xs l) k)
    go (inr (inl e)) k ih = inr (subst (Among r) (insert-there p x xs e) k)
    go (inr (inr l)) k ih = ⊎_elim (λ e. inl e) (λ j. inr j) (subst (Among r) (insert-before p x xs l) k)

-- k numbers are below p: where the next is p, nothing changes; where it is greater or there is none, p is put in at k
pub insert-held : (p k : ℕ) (xs : List ℕ) → ((i : ℕ) → i < k → get_or xs i 0 < p) → k < length xs → get_or xs k 0 ≡ p → insert p xs ≡ xs
insert-held p k [] low l e = absurd (not-suc-le-zero l)
insert-held p zero (x ∷ xs) low l e = insert-there p x xs e
insert-held p (suc k) (x ∷ xs) low l e =
    insert-past p x xs (low 0 (zero-lt-suc k)) ∙ ap (λ (ys : List ℕ). x ∷ ys) (insert-held p k xs (λ i h. low (suc i) (suc-le-suc h)) (le_of_suc-le-suc l) e)

pub insert-new : (p k : ℕ) (xs : List ℕ) → ((i : ℕ) → i < k → get_or xs i 0 < p) → k ≤ length xs → (k < length xs → p < get_or xs k 0) → insert p xs ≡ put_in k p xs
insert-new p zero [] low l high = unfold insert put_in in refl
insert-new p (suc k) [] low l high = absurd (not-suc-le-zero l)
insert-new p zero (x ∷ xs) low l high = insert-before p x xs (high (zero-lt-suc (length xs))) ∙ unfold put_in in refl
insert-new p (suc k) (x ∷ xs) low l high =
    insert-past p x xs (low 0 (zero-lt-suc k))
    ∙ ap (λ (ys : List ℕ). x ∷ ys) (insert-new p k xs (λ i h. low (suc i) (suc-le-suc h)) (le_of_suc-le-suc l) (λ h. high (suc-le-suc h)))
    ∙ unfold put_in in refl

-- ---- those that pass a test

module _ (h : ℕ → Bool) where
  pub up-those : (m : ℕ) (xs : List ℕ) → Up m xs → Up m (those h xs)
  unfolding Up
  up-those m [] u = rw (those-none h) (up_none m)
  up-those m (x ∷ xs) u = go (h x) refl (up-those (suc x) xs u.1)
    where
      go : (b : Bool) → h x ≡ b → Up (suc x) (those h xs) → Up m (those h (x ∷ xs))
      go true e v = rw (those-taken h x xs e) (u.0, v)
      go false e v = rw (those-left h x xs e) (up-weaken m (suc x) (those h xs) (omega (arith, u.0)) v)

  pub those-has : (p : ℕ) (xs : List ℕ) → Among p xs → h p ≡ true → Among p (those h xs)
  unfolding Among
  those-has p [] k t = absurd k
  those-has p (x ∷ xs) k t = go (h x) refl k (λ j. those-has p xs j t)
    where
      go : (b : Bool) → h x ≡ b → (x ≡ p) ⊎ Among p xs → (Among p xs → Among p (those h xs)) → Among p (those h (x ∷ xs))
      go true e (inl d) ih = rw (those-taken h x xs e) (inl d)
      go true e (inr j) ih = rw (those-taken h x xs e) (inr (ih j))
      go false e (inl d) ih = absurd (never (ap h d ∙ t) e)
      go false e (inr j) ih = rw (those-left h x xs e) (ih j)

  pub those-back : (p : ℕ) (xs : List ℕ) → Among p (those h xs) → Among p xs × (h p ≡ true)
  unfolding Among
  those-back p [] k = absurd (subst (Among p) (those-none h) k)
  those-back p (x ∷ xs) k = go (h x) refl (those-back p xs)
    where
      go : (b : Bool) → h x ≡ b → (Among p (those h xs) → Among p xs × (h p ≡ true)) → Among p (x ∷ xs) × (h p ≡ true)
      go true e ih =
          ⊎_elim (λ d. (inl d, sym (ap h d) ∙ e)) (λ j. let r = ih j in (inr r.0, r.1)) (subst (Among p) (those-taken h x xs e) k)
      go false e ih = let r = ih (subst (Among p) (those-left h x xs e) k) in (inr r.0, r.1)

-- ---- the same facts for crates above, where the definitions are shut

pub among_none : (p : ℕ) → Among p [] → ⊥
unfolding Among
among_none p h = h

pub among_first : (p x : ℕ) (xs : List ℕ) → x ≡ p → Among p (x ∷ xs)
unfolding Among
among_first p x xs e = inl e

pub among-rest : (p x : ℕ) (xs : List ℕ) → Among p xs → Among p (x ∷ xs)
unfolding Among
among-rest p x xs h = inr h

pub among_cases : (p x : ℕ) (xs : List ℕ) → Among p (x ∷ xs) → (x ≡ p) ⊎ Among p xs
unfolding Among
among_cases p x xs h = h

pub up-tail : (m x : ℕ) (xs : List ℕ) → Up m (x ∷ xs) → Up (suc x) xs
unfolding Up
up-tail m x xs u = u.1

-- no number stands twice
pub up-once : (m : ℕ) (xs : List ℕ) → Up m xs → (i j : ℕ) → i < length xs → j < length xs → get_or xs i 0 ≡ get_or xs j 0 → i ≡ j
unfolding Up
up-once m [] u i j hi hj e = absurd (not-suc-le-zero hi)
up-once m (x ∷ xs) u zero zero hi hj e = refl
up-once m (x ∷ xs) u zero (suc j) hi hj e = absurd (omega (arith, up_at (suc x) xs u.1 j (le_of_suc-le-suc hj)))
up-once m (x ∷ xs) u (suc i) zero hi hj e = absurd (omega (arith, up_at (suc x) xs u.1 i (le_of_suc-le-suc hi)))
up-once m (x ∷ xs) u (suc i) (suc j) hi hj e = ap suc (up-once (suc x) xs u.1 i j (le_of_suc-le-suc hi) (le_of_suc-le-suc hj) e)
