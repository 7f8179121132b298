-- Selected columns split on a row: who is in which part, and how many. Assumes nothing.
use mathlib.Core.Path.{◌≡◌, refl, sym, ap, ◌∙◌}
use mathlib.Core.Logic.{◌≢◌, ◌⊎◌, inl, inr}
use mathlib.Core.Bool.{Bool, true, false, not}
use mathlib.Core.List.{List}
use Prim.Native.Nat.{ℕ, ◌+◌, ◌≤◌, ◌<◌}
use native.Mathlib.Omega.{arith}
use native.Mathlib.Decide.{ℕ_discrete, dec_lt}
use lib.Dec.{eqb}
use lib.ListN.{length, get_or, get_or-eq_default}
use borrow.Author.Tests.{ne_eqb, eqb-false}
use Rattle.sets.specs.Bit.{bit, has, In}
use Rattle.sets.proofs.Bits.{bit-cases}
use Rattle.sets.proofs.Words.{has-true, has-false, in-has, out-has}
use Rattle.sets.specs.Tables.{tab, one}
use Rattle.sets.proofs.Tabling.{tab-at, tab-length, sum-add-le, sum_less, sum-some}
use Rattle.steps.specs.Selection.{count_of, zero_at, one_at, zeros_of, ones_of, live_of, row_of}
use Rattle.sets.proofs.Deciding.{never, both_true}

pub never_true : (b : Bool) → (b ≡ true → ⊥) → b ≡ false
never_true true h = absurd (h refl)
never_true false h = refl

not_yes : (b : Bool) → not b ≡ true → b ≡ false
not_yes true e = absurd (never refl (sym e))
not_yes false e = refl

one-pos : (b : Bool) → one b ≢ 0 → b ≡ true
one-pos true h = refl
one-pos false h = absurd (h refl)

-- a place of a table is below its length
tab-true : (n : ℕ) (f : ℕ → Bool) (k : ℕ) → get_or (tab n f) k false ≡ true → (k < n) × (f k ≡ true)
tab-true n f k e = go (dec_lt k n)
  where
    go : Dec (k < n) → (k < n) × (f k ≡ true)
    go (yes l) = (l, sym (tab-at n f k false l) ∙ e)
    go (no l) = absurd (never e (get_or-eq_default (tab n f) false (omega (arith, tab-length n f))))

module _ (r : ℕ) (sel : List Bool) (xs : List ℕ) (k : ℕ) where
  pub in-zeros : get_or (zeros_of r sel xs) k false ≡ true → (k < 256) × (get_or sel k false ≡ true) × (get_or xs k 0 ≢ 0) × (bit (get_or xs k 0) r ≡ 0)
  unfolding zeros_of zero_at
  in-zeros e =
      let t = tab-true 256 (λ k. zero_at r (get_or sel k false) (get_or xs k 0)) k e in
      let a = both_true _ _ t.1 in
      let b = both_true _ _ a.1 in
      (t.0, a.0, eqb-false (get_or xs k 0) 0 (not_yes _ b.0), has-false (get_or xs k 0) r (not_yes _ b.1))

  pub zeros-in : k < 256 → get_or sel k false ≡ true → get_or xs k 0 ≢ 0 → bit (get_or xs k 0) r ≡ 0 → get_or (zeros_of r sel xs) k false ≡ true
  unfolding zeros_of zero_at
  zeros-in l e n z = tab-at 256 (λ k. zero_at r (get_or sel k false) (get_or xs k 0)) k false l ∙ rw (e, ne_eqb (get_or xs k 0) 0 n, out-has (get_or xs k 0) r z)

  pub in_ones : get_or (ones_of r sel xs) k false ≡ true → (k < 256) × (get_or sel k false ≡ true) × In r (get_or xs k 0)
  unfolding ones_of one_at
  in_ones e =
      let t = tab-true 256 (λ k. one_at r (get_or sel k false) (get_or xs k 0)) k e in
      let a = both_true _ _ t.1 in
      (t.0, a.0, has-true (get_or xs k 0) r a.1)

  pub ones_in : k < 256 → get_or sel k false ≡ true → In r (get_or xs k 0) → get_or (ones_of r sel xs) k false ≡ true
  unfolding ones_of one_at
  ones_in l e h = tab-at 256 (λ k. one_at r (get_or sel k false) (get_or xs k 0)) k false l ∙ rw (e, in-has (get_or xs k 0) r h)

  pub zeros-out : (get_or sel k false ≡ false) ⊎ ((get_or xs k 0 ≡ 0) ⊎ In r (get_or xs k 0)) → get_or (zeros_of r sel xs) k false ≡ false
  zeros-out w = never_true _ (λ e. go (in-zeros e) w)
    where
      go : (k < 256) × (get_or sel k false ≡ true) × (get_or xs k 0 ≢ 0) × (bit (get_or xs k 0) r ≡ 0) → (get_or sel k false ≡ false) ⊎ ((get_or xs k 0 ≡ 0) ⊎ In r (get_or xs k 0)) → ⊥
      go t (inl s) = never t.1 s
      go t (inr (inl z)) = t.2 z
      go t (inr (inr h)) = omega (arith, t.3, h)

  pub ones-out : (get_or sel k false ≡ false) ⊎ (bit (get_or xs k 0) r ≡ 0) → get_or (ones_of r sel xs) k false ≡ false
  ones-out w = never_true _ (λ e. go (in_ones e) w)
    where
      go : (k < 256) × (get_or sel k false ≡ true) × In r (get_or xs k 0) → (get_or sel k false ≡ false) ⊎ (bit (get_or xs k 0) r ≡ 0) → ⊥
      go t (inl s) = never t.1 s
      go t (inr h) = omega (arith, t.2, h)

  -- a selected column is struck off, or in one of the parts
  pub split-cases : k < 256 → get_or sel k false ≡ true → (get_or xs k 0 ≡ 0) ⊎ ((get_or (zeros_of r sel xs) k false ≡ true) ⊎ (get_or (ones_of r sel xs) k false ≡ true))
  split-cases l e = go (ℕ_discrete (get_or xs k 0) 0) (bit-cases (get_or xs k 0) r)
    where
      go : Dec (get_or xs k 0 ≡ 0) → (bit (get_or xs k 0) r ≡ 0) ⊎ (bit (get_or xs k 0) r ≡ 1) → (get_or xs k 0 ≡ 0) ⊎ ((get_or (zeros_of r sel xs) k false ≡ true) ⊎ (get_or (ones_of r sel xs) k false ≡ true))
      go (yes z) b = inl z
      go (no n) (inl b) = inr (inl (zeros-in l e n b))
      go (no n) (inr b) = inr (inr (ones_in l e b))

pub live_in : (xs : List ℕ) (k : ℕ) → get_or (live_of xs) k false ≡ true → (k < 256) × (get_or xs k 0 ≢ 0)
unfolding live_of
live_in xs k e =
    let t = tab-true 256 (λ k. not (eqb (get_or xs k 0) 0)) k e in
    (t.0, eqb-false (get_or xs k 0) 0 (not_yes _ t.1))

pub live_out : (xs : List ℕ) (k : ℕ) → length xs ≤ 256 → get_or (live_of xs) k false ≡ false → get_or xs k 0 ≡ 0
unfolding live_of
live_out xs k len e = go (dec_lt k 256) (ℕ_discrete (get_or xs k 0) 0)
  where
    go : Dec (k < 256) → Dec (get_or xs k 0 ≡ 0) → get_or xs k 0 ≡ 0
    go a (yes z) = z
    go (yes l) (no n) = absurd (never (tab-at 256 (λ k. not (eqb (get_or xs k 0) 0)) k false l ∙ rw (ne_eqb (get_or xs k 0) 0 n)) e)
    go (no l) (no n) = get_or-eq_default xs 0 (omega arith)

-- ---- how many

pub count-some : (sel : List Bool) → (count_of sel ≡ 0 → ⊥) → (k : ℕ) × (k < 256) × (get_or sel k false ≡ true)
unfolding count_of
count-some sel h = let s = sum-some 256 (λ k. one (get_or sel k false)) h in (s.0, s.1, one-pos (get_or sel s.0 false) s.2)

pub count_none : (sel : List Bool) → count_of sel ≡ 0 → (k : ℕ) → k < 256 → get_or sel k false ≡ false
unfolding count_of
count_none sel h k l = never_true (get_or sel k false) (λ e.
    let less = sum_less 256 (λ j. 0) (λ j. one (get_or sel j false)) k l (omega (arith, ap one e)) (λ j m. omega arith) in omega (arith, h, less))

pub row-some : (sel : List Bool) (xs : List ℕ) (q : ℕ) → (row_of sel xs q ≡ 0 → ⊥) → (k : ℕ) × (k < 256) × (get_or sel k false ≡ true) × In q (get_or xs k 0)
unfolding row_of one_at
row-some sel xs q h =
    let s = sum-some 256 (λ k. one (one_at q (get_or sel k false) (get_or xs k 0))) h in
    let b = both_true _ _ (one-pos (one_at q (get_or sel s.0 false) (get_or xs s.0 0)) s.2) in
    (s.0, s.1, b.0, has-true (get_or xs s.0 0) q b.1)

pub row-none : (sel : List Bool) (xs : List ℕ) (q : ℕ) → row_of sel xs q ≡ 0 → (k : ℕ) → k < 256 → get_or sel k false ≡ true → bit (get_or xs k 0) q ≡ 0
unfolding row_of one_at
row-none sel xs q h k l e = has-false (get_or xs k 0) q (never_true (has (get_or xs k 0) q) (λ t.
    let on : one_at q (get_or sel k false) (get_or xs k 0) ≡ true = rw (e, t) in
    let less = sum_less 256 (λ j. 0) (λ j. one (one_at q (get_or sel j false) (get_or xs j 0))) k l (omega (arith, ap one on)) (λ j m. omega arith) in omega (arith, h, less)))

part-le : (a b c : Bool) → (a ≡ true → c ≡ true) → (b ≡ true → c ≡ true) → (a ≡ true → b ≡ true → ⊥) → one a + one b ≤ one c
part-le true true c f g h = absurd (h refl refl)
part-le true false c f g h = omega (arith, ap one (f refl))
part-le false true c f g h = omega (arith, ap one (g refl))
part-le false false c f g h = omega arith

whole_le : (a c : Bool) → (a ≡ true → c ≡ true) → one a ≤ one c
whole_le true c f = omega (arith, ap one (f refl))
whole_le false c f = omega arith

pub split-count : (r : ℕ) (sel : List Bool) (xs : List ℕ) → count_of (zeros_of r sel xs) + count_of (ones_of r sel xs) ≤ count_of sel
unfolding count_of
split-count r sel xs =
    sum-add-le 256 (λ k. one (get_or (zeros_of r sel xs) k false)) (λ k. one (get_or (ones_of r sel xs) k false)) (λ k. one (get_or sel k false))
    (λ k l. part-le (get_or (zeros_of r sel xs) k false) (get_or (ones_of r sel xs) k false) (get_or sel k false)
    (λ e. (in-zeros r sel xs k e).1) (λ e. (in_ones r sel xs k e).1) (λ e f. omega (arith, (in-zeros r sel xs k e).3, (in_ones r sel xs k f).2)))

-- one selected column without r: fewer columns with r
pub ones-fewer : (r : ℕ) (sel : List Bool) (xs : List ℕ) (k : ℕ) → k < 256 → get_or sel k false ≡ true → bit (get_or xs k 0) r ≡ 0 → count_of (ones_of r sel xs) < count_of sel
unfolding count_of
ones-fewer r sel xs k l e z =
    sum_less 256 (λ j. one (get_or (ones_of r sel xs) j false)) (λ j. one (get_or sel j false)) k l
    (omega (arith, ap one (ones-out r sel xs k (inr z)), ap one e))
    (λ j m. whole_le (get_or (ones_of r sel xs) j false) (get_or sel j false) (λ t. (in_ones r sel xs j t).1))
