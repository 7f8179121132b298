-- The tests of one column, and counts of columns, as the loops go. Assumes nothing.
use mathlib.Core.Path.{◌≡◌, refl, sym, ap, ap₂, ◌∙◌}
use mathlib.Core.Bool.{Bool, true, false}
use mathlib.Core.List.{List}
use Prim.Native.Nat.{ℕ, ◌+◌, ◌≤◌, ◌<◌, min}
use native.Mathlib.Omega.{arith}
use native.Mathlib.Decide.{dec_lt}
use lib.ListN.{length, get_or, replicate, length-replicate, get_or-replicate, get_or-eq_default}
use Rattle.sets.specs.Pick.{both}
use Rattle.sets.specs.Bit.{has}
use Rattle.sets.proofs.Deciding.{both-no}
use Rattle.sets.proofs.Bits.{bit-of-zero}
use Rattle.sets.proofs.Words.{out-has}
use Rattle.sets.specs.Tables.{tab, sum_to, one}
use Rattle.sets.proofs.Tabling.{Filled, filled-all, Marked, marked_all, tab-length, tab-at, tab-ext, sum-zero, sum-next, sum-front, sum_ones, one-le}
use Rattle.steps.specs.Selection.{count_of, zero_at, one_at, row_of, Few, tallied_of}
use Rattle.steps.specs.Choice.{more_of, equal_of}

-- what is struck off has no ones
pub one-struck : (r : ℕ) (s : Bool) → one_at r s 0 ≡ false
unfolding one_at
one-struck r s = ap (both s) (out-has 0 r (bit-of-zero r)) ∙ both-no s false refl

-- nor zeros
pub zero-struck : (r : ℕ) (s : Bool) → zero_at r s 0 ≡ false
unfolding zero_at
zero-struck r true = refl
zero-struck r false = refl

-- marks up to the columns' end are all marks, where what is struck off has none
pub marked-all : (f : Bool → ℕ → Bool) → ((s : Bool) → f s 0 ≡ false) → (sel : List Bool) (xs : List ℕ) (n k : ℕ) → n ≡ min (length xs) 256 → n ≤ k → (z : List Bool) → length z ≡ 256
    → Marked (λ j. f (get_or sel j false) (get_or xs j 0)) k z → z ≡ tab 256 (λ j. f (get_or sel j false) (get_or xs j 0))
marked-all f h sel xs n k en l z e m =
    marked_all (λ j. f (get_or sel j false) (get_or xs j 0)) 256 k z e m
    (λ j a b. ap (f (get_or sel j false)) (get_or-eq_default xs 0 {n = j} (omega (arith, en, l))) ∙ h (get_or sel j false))

pub one-at-le : (r : ℕ) (s : Bool) (x : ℕ) → one (one_at r s x) ≤ one s
unfolding one_at
one-at-le r true x = one-le (has x r)
one-at-le r false x = omega arith

-- ---- counting

-- the columns selected of the first k, and the ones of row q among them
unfoldable pub counted : List Bool → ℕ → ℕ
counted sel k = sum_to k (λ j. one (get_or sel j false))

unfoldable pub row_to : ℕ → List Bool → List ℕ → ℕ → ℕ
row_to q sel xs k = sum_to k (λ j. one (one_at q (get_or sel j false) (get_or xs j 0)))

module _ (sel : List Bool) where
  pub counted_none : 0 ≡ counted sel 0
  unfolding counted
  counted_none = sym (sum-zero (λ j. one (get_or sel j false)))

  pub counted_next : (k n m : ℕ) (b : Bool) → b ≡ get_or sel k false → n ≡ counted sel k → m ≡ n + one b → m ≡ counted sel (k + 1)
  unfolding counted
  counted_next k n m b e h g =
      g ∙ ap (λ (t : Bool). n + one t) e ∙ ap (λ (i : ℕ). i + one (get_or sel k false)) h ∙ sym (sum-next k (λ j. one (get_or sel j false)))

  pub counted-small : (k n : ℕ) → n ≡ counted sel k → n ≤ k
  unfolding counted
  counted-small k n e = omega (arith, e, sum_ones k (λ j. one (get_or sel j false)) (λ j l. one-le (get_or sel j false)))

  pub counted-all : (k n : ℕ) → k ≡ 256 → n ≡ counted sel k → n ≡ count_of sel
  unfolding counted count_of
  counted-all k n h e = e ∙ ap (λ (i : ℕ). sum_to i (λ j. one (get_or sel j false))) h

  pub count_most : count_of sel ≤ 256
  unfolding count_of
  count_most = sum_ones 256 (λ k. one (get_or sel k false)) (λ k l. one-le (get_or sel k false))

module _ (q : ℕ) (sel : List Bool) (xs : List ℕ) where
  pub row-none : 0 ≡ row_to q sel xs 0
  unfolding row_to
  row-none = sym (sum-zero (λ j. one (one_at q (get_or sel j false) (get_or xs j 0))))

  pub row_next : (k n m x : ℕ) (b : Bool) → b ≡ one_at q (get_or sel k false) x → x ≡ get_or xs k 0 → n ≡ row_to q sel xs k → m ≡ n + one b → m ≡ row_to q sel xs (k + 1)
  unfolding row_to
  row_next k n m x b e ex h g =
      g ∙ ap (λ (t : Bool). n + one t) (e ∙ ap (one_at q (get_or sel k false)) ex) ∙ ap (λ (i : ℕ). i + one (one_at q (get_or sel k false) (get_or xs k 0))) h
      ∙ sym (sum-next k (λ j. one (one_at q (get_or sel j false) (get_or xs j 0))))

  pub row_small : (k n : ℕ) → n ≡ row_to q sel xs k → n ≤ k
  unfolding row_to
  row_small k n e = omega (arith, e, sum_ones k (λ j. one (one_at q (get_or sel j false) (get_or xs j 0))) (λ j l. one-le (one_at q (get_or sel j false) (get_or xs j 0))))

  pub row-all : (k m : ℕ) → k ≡ 256 → m ≡ row_to q sel xs k → m ≡ row_of sel xs q
  unfolding row_to row_of
  row-all k m e h = h ∙ ap (λ (i : ℕ). sum_to i (λ j. one (one_at q (get_or sel j false) (get_or xs j 0)))) e

  pub row-front : (n k m : ℕ) → n ≡ min (length xs) 256 → n ≤ k → k ≤ n → m ≡ row_to q sel xs k → m ≡ row_of sel xs q
  unfolding row_to row_of
  row-front n k m en h l e =
      e
      ∙ sym (sum-front 256 k (λ j. one (one_at q (get_or sel j false) (get_or xs j 0))) (omega (arith, en))
      (λ j a b. ap one (ap (one_at q (get_or sel j false)) (get_or-eq_default xs 0 {n = j} (omega (arith, en, h))) ∙ one-struck q (get_or sel j false))))

-- ---- the ones of all rows

module _ (sel : List Bool) (xs : List ℕ) where
  -- z has the ones of each row among the first k columns
  pub record RowsCounted (k : ℕ) (z : List ℕ) : Type 0 where
    pub wide : length z ≡ 20
    pub ones : Filled 0 (λ q. row_to q sel xs k) 20 z

  pub rows_none : RowsCounted 0 (replicate 20 0)
  rows_none = record { wide = length-replicate {A = ℕ} 20 0; ones = λ q l. get_or-replicate 20 q 0 0 l ∙ row-none q sel xs }

  pub rows_few : (k : ℕ) (z : List ℕ) → k ≤ 256 → RowsCounted k z → Few z
  rows_few k z l r q = go (dec_lt q 20)
    where
      go : Dec (q < 20) → get_or z q 0 ≤ 256
      go (yes h) = omega (arith, row_small q sel xs k (get_or z q 0) (r.ones q h))
      go (no h) = omega (arith, get_or-eq_default z 0 {n = q} (omega (arith, r.wide)))

  pub rows-tallied : (k x : ℕ) (z z' : List ℕ) → get_or sel k false ≡ true → x ≡ get_or xs k 0 → z' ≡ tallied_of x z → RowsCounted k z → RowsCounted (k + 1) z'
  unfolding tallied_of one_at
  rows-tallied k x z z' e ex ez r = record {
    wide = ap length ez ∙ tab-length 20 (λ q. get_or z q 0 + one (has x q));
    ones = λ q l.
        row_next q sel xs k (get_or z q 0) (get_or z' q 0) x (has x q) (sym (ap (λ (s : Bool). both s (has x q)) e)) ex (r.ones q l)
        (ap (λ (y : List ℕ). get_or y q 0) ez ∙ tab-at 20 (λ q. get_or z q 0 + one (has x q)) q 0 l);
  }

  pub rows-passed : (k : ℕ) (z : List ℕ) → get_or sel k false ≡ false → RowsCounted k z → RowsCounted (k + 1) z
  unfolding one_at
  rows-passed k z e r = record {
    wide = r.wide;
    ones = λ q l. row_next q sel xs k (get_or z q 0) (get_or z q 0) (get_or xs k 0) false (sym (ap (λ (s : Bool). both s (has (get_or xs k 0) q)) e)) refl (r.ones q l) (omega arith);
  }

  pub rows_all : (k : ℕ) (z : List ℕ) → k ≡ 256 → RowsCounted k z → z ≡ tab 20 (row_of sel xs)
  rows_all k z e r = filled-all 0 (row_of sel xs) 20 20 z r.wide (omega arith) (λ q b. row-all q sel xs k (get_or z q 0) e (r.ones q b))

-- ---- equal entries

-- from the ones of all rows to their equal entries
pub equal-all : (sel : List Bool) (xs : List ℕ) (n : ℕ) (os : List ℕ) → n ≡ count_of sel → os ≡ tab 20 (row_of sel xs) → tab 20 (λ q. more_of n (get_or os q 0)) ≡ tab 20 (equal_of sel xs)
unfolding equal_of
equal-all sel xs n os en eo =
    tab-ext 20 (λ q. more_of n (get_or os q 0)) (λ q. more_of (count_of sel) (row_of sel xs q)) (λ q l. ap₂ more_of en (ap (λ (z : List ℕ). get_or z q 0) eo ∙ tab-at 20 (row_of sel xs) q 0 l))

pub count-few : (k : ℕ) (sel : List Bool) → k ≡ count_of sel → k ≤ 256
count-few k sel e = omega (arith, e, count_most sel)
