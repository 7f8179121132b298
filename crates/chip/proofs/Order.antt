-- The couplers in order: each is one of the chip with the lower end first, all are there, ascending, and 190 places suffice. Assumes nothing.
use mathlib.Core.Path.{◌≡◌, refl, sym, ap, ap₂, ◌∙◌, subst}
use mathlib.Core.Bool.{Bool, true, false}
use mathlib.Core.List.{List, [], ◌∷◌, ◌++◌}
use Prim.Native.Nat.{ℕ, zero, suc, ◌+◌, ◌-◌, ◌*◌, ◌/◌, ◌%◌, ◌≤◌, ◌<◌}
use native.Mathlib.Nat.{add-suc, zero-add}
use native.Mathlib.Omega.{arith}
use native.Mathlib.Numerals.{add-one}
use lib.Dec.{ltb}
use lib.ListN.{length, get_or, set, take, drop, replicate, length-set, length-replicate}
use lib.Seq.{sets, sets-eq, take-append_seam}
use borrow.Author.Tests.{lt-ltb, ltb-true, ltb-false}
use Rattle.sets.specs.Pick.{pick, both}
use Rattle.sets.specs.Bit.{bit, has}
use Rattle.sets.proofs.Words.{has-true, in-has}
use Rattle.gates.specs.Layout.{packed}
use Rattle.chip.specs.declared.couplers.Ordered.{Ordered}
use Rattle.chip.specs.Graph.{Near}
use Rattle.chip.specs.Ordered.{pair_of, pair_at, ordered_from, ordered_list, ordered_of}
use Rattle.sets.proofs.Deciding.{both_true, never}
use Rattle.sets.proofs.Finding.{sub-suc}

pub pair-true : (x a b : ℕ) → pair_of x a b ≡ true → (a < b) × (bit x b ≡ 1)
unfolding pair_of
pair-true x a b e = let r = both_true (ltb a b) (has x b) e in (ltb-true a b r.0, has-true x b r.1)

pub pair_is : (x a b : ℕ) → a < b → bit x b ≡ 1 → pair_of x a b ≡ true
unfolding pair_of
pair_is x a b l h = ap₂ both (lt-ltb a b l) (in-has x b h)

module _ (near : List ℕ) where
  -- the pair with number k is a coupler, and its record
  abbrev pub Here : ℕ → Bool
  Here k = pair_of (get_or near (k / 20) 0) (k / 20) (k % 20)

  abbrev pub record_at : ℕ → ℕ
  record_at k = packed 0 (k / 20) (k % 20)

  from-with : (d k : ℕ) → Here k ≡ true → ordered_from near (suc d) k ≡ record_at k ∷ ordered_from near d (k + 1)
  unfolding ordered_from pair_at
  from-with d k e = ap (λ (b : Bool). pick b (record_at k ∷ []) [] ++ ordered_from near d (k + 1)) e

  from-without : (d k : ℕ) → Here k ≡ false → ordered_from near (suc d) k ≡ ordered_from near d (k + 1)
  unfolding ordered_from pair_at
  from-without d k e = ap (λ (b : Bool). pick b (record_at k ∷ []) [] ++ ordered_from near d (k + 1)) e

  from-none : (k : ℕ) → ordered_from near 0 k ≡ []
  unfolding ordered_from
  from-none k = refl

  -- a record of the list is that of a pair from number k on
  abbrev Found : ℕ → ℕ → ℕ → Type 0
  Found k d x = (p : ℕ) × (k ≤ p) × (p < k + d) × (Here p ≡ true) × (x ≡ record_at p)

  from-sound : (d k m : ℕ) → m < length (ordered_from near d k) → Found k d (get_or (ordered_from near d k) m 0)
  from-sound zero k m h = absurd (omega (arith, ap length (from-none k)))
  from-sound (suc d) k m h = go (Here k) refl (from-sound d (k + 1)) m h
    where
      later : (x : ℕ) → Found (k + 1) d x → Found k (suc d) x
      later x (p, a, b, e, q) = (p, omega arith, omega arith, e, q)

      at : Here k ≡ true → ((m : ℕ) → m < length (ordered_from near d (k + 1)) → Found (k + 1) d (get_or (ordered_from near d (k + 1)) m 0))
          → (m : ℕ) → m < suc (length (ordered_from near d (k + 1))) → Found k (suc d) (get_or (record_at k ∷ ordered_from near d (k + 1)) m 0)
      at e ih zero h = (k, omega arith, omega arith, e, refl)
      at e ih (suc m) h = later (get_or (ordered_from near d (k + 1)) m 0) (ih m (omega arith))

      go : (b : Bool) → Here k ≡ b → ((m : ℕ) → m < length (ordered_from near d (k + 1)) → Found (k + 1) d (get_or (ordered_from near d (k + 1)) m 0))
          → (m : ℕ) → m < length (ordered_from near (suc d) k) → Found k (suc d) (get_or (ordered_from near (suc d) k) m 0)
      go true e ih m h = subst (λ (l : List ℕ). Found k (suc d) (get_or l m 0)) (sym (from-with d k e)) (at e ih m (subst (λ (l : List ℕ). m < length l) (from-with d k e) h))
      go false e ih m h =
          subst (λ (l : List ℕ). Found k (suc d) (get_or l m 0)) (sym (from-without d k e))
          (later (get_or (ordered_from near d (k + 1)) m 0) (ih m (subst (λ (l : List ℕ). m < length l) (from-without d k e) h)))

  -- x stands in the list
  abbrev PairStands : List ℕ → ℕ → Type 0
  PairStands l x = (m : ℕ) × (m < length l) × (get_or l m 0 ≡ x)

  from-complete : (d k p : ℕ) → k ≤ p → p < k + d → Here p ≡ true → PairStands (ordered_from near d k) (record_at p)
  from-complete zero k p a b e = absurd (omega arith)
  from-complete (suc d) k p a b e = go (Here k) (ltb k p) refl refl (from-complete d (k + 1) p)
    where
      behind : (x : ℕ) → PairStands (ordered_from near d (k + 1)) (record_at p) → PairStands (x ∷ ordered_from near d (k + 1)) (record_at p)
      behind x (m, l, q) = (suc m, omega arith, q)

      go : (s t : Bool) → Here k ≡ s → ltb k p ≡ t → (k + 1 ≤ p → p < k + 1 + d → Here p ≡ true → PairStands (ordered_from near d (k + 1)) (record_at p)) → PairStands (ordered_from near (suc d) k) (record_at p)
      go true true f g ih = let l : k < p = ltb-true k p g in subst (λ (l : List ℕ). PairStands l (record_at p)) (sym (from-with d k f)) (behind (record_at k) (ih (omega arith) (omega arith) e))
      go true false f g ih =
          let q : k ≡ p = omega (arith, ltb-false k p g) in
          subst (λ (l : List ℕ). PairStands l (record_at p)) (sym (from-with d k f)) (0, omega arith, ap record_at q)
      go false true f g ih = let l : k < p = ltb-true k p g in subst (λ (l : List ℕ). PairStands l (record_at p)) (sym (from-without d k f)) (ih (omega arith) (omega arith) e)
      go false false f g ih =
          let q : k ≡ p = omega (arith, ltb-false k p g) in
          absurd (never (ap Here q ∙ e) f)

  record-lt : (k p : ℕ) → k < p → record_at k < record_at p
  unfolding packed
  record-lt k p h = omega arith

  from-ascending : (d k i j : ℕ) → i < j → j < length (ordered_from near d k) → get_or (ordered_from near d k) i 0 < get_or (ordered_from near d k) j 0
  from-ascending zero k i j h l = absurd (omega (arith, ap length (from-none k)))
  from-ascending (suc d) k i j h l = go (Here k) refl (from-ascending d (k + 1))
    where
      after : (x : ℕ) → Found (k + 1) d x → record_at k < x
      after x (p, a, b, e, q) = subst (λ (y : ℕ). record_at k < y) (sym q) (record-lt k p (omega arith))

      at : ((i j : ℕ) → i < j → j < length (ordered_from near d (k + 1)) → get_or (ordered_from near d (k + 1)) i 0 < get_or (ordered_from near d (k + 1)) j 0)
          → (i j : ℕ) → i < j → j < suc (length (ordered_from near d (k + 1))) → get_or (record_at k ∷ ordered_from near d (k + 1)) i 0 < get_or (record_at k ∷ ordered_from near d (k + 1)) j 0
      at ih i zero h l = absurd (omega arith)
      at ih zero (suc j) h l = after (get_or (ordered_from near d (k + 1)) j 0) (from-sound d (k + 1) j (omega arith))
      at ih (suc i) (suc j) h l = ih i j (omega arith) (omega arith)

      go : (b : Bool) → Here k ≡ b
          → ((i j : ℕ) → i < j → j < length (ordered_from near d (k + 1)) → get_or (ordered_from near d (k + 1)) i 0 < get_or (ordered_from near d (k + 1)) j 0)
          → get_or (ordered_from near (suc d) k) i 0 < get_or (ordered_from near (suc d) k) j 0
      go true e ih =
          subst (λ (l : List ℕ). get_or l i 0 < get_or l j 0) (sym (from-with d k e)) (at ih i j h (subst (λ (l : List ℕ). j < length l) (from-with d k e) l))
      go false e ih =
          subst (λ (l : List ℕ). get_or l i 0 < get_or l j 0) (sym (from-without d k e)) (ih i j h (subst (λ (l : List ℕ). j < length l) (from-without d k e) l))

  -- ---- what the crates above use

  -- a record is that of a coupler, lower end first
  pub ordered-sound : (m : ℕ) → m < length (ordered_list near) → (a b : ℕ) × (a < b) × (b < 20) × Near near a b × (get_or (ordered_list near) m 0 ≡ packed 0 a b)
  unfolding ordered_list
  ordered-sound m h = go (from-sound 400 0 m h)
    where
      go : Found 0 400 (get_or (ordered_from near 400 0) m 0) → (a b : ℕ) × (a < b) × (b < 20) × Near near a b × (get_or (ordered_from near 400 0) m 0 ≡ packed 0 a b)
      go (p, x, y, e, q) = let r = pair-true (get_or near (p / 20) 0) (p / 20) (p % 20) e in (p / 20, p % 20, r.0, omega arith, r.1, q)

  -- every coupler is there
  pub ordered-complete : (a b : ℕ) → a < b → b < 20 → Near near a b → (m : ℕ) × (m < length (ordered_list near)) × (get_or (ordered_list near) m 0 ≡ packed 0 a b)
  unfolding ordered_list
  ordered-complete a b l h n =
      let ea : (a * 20 + b) / 20 ≡ a = omega arith in
      let eb : (a * 20 + b) % 20 ≡ b = omega arith in
      let t : Here (a * 20 + b) ≡ true = ap₂ (λ (x y : ℕ). pair_of (get_or near x 0) x y) ea eb ∙ pair_is (get_or near a 0) a b l n in
      subst (λ (x : ℕ). PairStands (ordered_from near 400 0) x) (ap₂ (packed 0) ea eb) (from-complete 400 0 (a * 20 + b) (omega arith) (omega arith) t)

  -- "ascending, each once"
  pub ordered-ascending : (i j : ℕ) → i < j → j < length (ordered_list near) → get_or (ordered_list near) i 0 < get_or (ordered_list near) j 0
  unfolding ordered_list
  ordered-ascending i j h l = from-ascending 400 0 i j h l

-- ---- 190 places suffice

-- the pairs below number k whose first qubit is the lower one
pub pairs_below : ℕ → ℕ
pairs_below zero = 0
pairs_below (suc k) = pairs_below k + pick (ltb (k / 20) (k % 20)) 1 0

-- 20 qubits have 190 pairs
pairs-all : pairs_below 400 ≡ 190
unfolding pairs_below
pairs-all = refl

pairs-step : (k : ℕ) → pairs_below (suc k) ≡ pairs_below k + pick (ltb (k / 20) (k % 20)) 1 0
unfolding pairs_below
pairs-step k = refl

pairs-mono : (k d : ℕ) → pairs_below k ≤ pairs_below (k + d)
pairs-mono k zero = let e : k + 0 ≡ k = omega arith in omega (arith, ap pairs_below e)
pairs-mono k (suc d) = omega (arith, pairs-mono k d, ap pairs_below (add-suc k d), pairs-step (k + d))

pairs-more : (near : List ℕ) (k : ℕ) → Here near k ≡ true → pairs_below (k + 1) ≡ pairs_below k + 1
pairs-more near k e =
    ap pairs_below (add-one k) ∙ pairs-step k ∙ ap (λ (b : Bool). pairs_below k + pick b 1 0) (lt-ltb (k / 20) (k % 20) (pair-true (get_or near (k / 20) 0) (k / 20) (k % 20) e).0)

pub pairs-room : (near : List ℕ) (k : ℕ) → k < 400 → Here near k ≡ true → pairs_below k < 190
pairs-room near k h e =
    let q : k + 1 + (400 - (k + 1)) ≡ 400 = omega arith in
    omega (arith, pairs-more near k e, pairs-mono (k + 1) (400 - (k + 1)), ap pairs_below q, pairs-all)

from-count : (near : List ℕ) (d k : ℕ) → length (ordered_from near d k) + pairs_below k ≤ pairs_below (k + d)
from-count near zero k = omega (arith, ap length (from-none near k), pairs-mono k 0)
from-count near (suc d) k = go (Here near k) refl (from-count near d (k + 1))
  where
    q : k + 1 + d ≡ k + suc d
    q = omega arith

    go : (b : Bool) → Here near k ≡ b → length (ordered_from near d (k + 1)) + pairs_below (k + 1) ≤ pairs_below (k + 1 + d) → length (ordered_from near (suc d) k) + pairs_below k ≤ pairs_below (k + suc d)
    go true e ih = omega (arith, ap length (from-with near d k e), pairs-more near k e, ap pairs_below q)
    go false e ih = omega (arith, ap length (from-without near d k e), pairs-mono k 1, ap pairs_below q)

pub ordered-few : (near : List ℕ) → length (ordered_list near) ≤ 190
unfolding ordered_list
ordered-few near = omega (arith, from-count near 400 0, pairs-all)

-- the first records of the array are the list
pub ordered-take : (near : List ℕ) → take (ordered_of near).len (ordered_of near).records ≡ ordered_list near
unfolding ordered_of
ordered-take near = take-append_seam (ordered_list near) (replicate (190 - length (ordered_list near)) 0)

pub ordered-len : (near : List ℕ) → (ordered_of near).len ≡ length (ordered_list near)
unfolding ordered_of
ordered-len near = refl

-- ---- the loop that writes them

drop-replicate : (i n : ℕ) → drop i (replicate {A = ℕ} n 0) ≡ replicate (n - i) 0
drop-replicate zero n = let e : n ≡ n - 0 = omega arith in ap (λ (k : ℕ). replicate {A = ℕ} k 0) e
drop-replicate (suc i) zero = let e : 0 ≡ 0 - suc i = omega arith in ap (λ (k : ℕ). replicate {A = ℕ} k 0) e
drop-replicate (suc i) (suc n) = let e : n - i ≡ suc n - suc i = omega arith in drop-replicate i n ∙ ap (λ (k : ℕ). replicate {A = ℕ} k 0) e

-- the array and its count, as one value
abbrev pub ordered : List ℕ → ℕ → Ordered
ordered r l = record { records = r; len = l }

-- the record as the code makes it
pub record_is : (near : List ℕ) (k : ℕ) → k / 20 * 65536 + k % 20 ≡ record_at near k
unfolding packed
record_is near k = omega arith

-- at pair k: what is written, and then what the pairs from k on still write, is the whole
pub record Listing (near : List ℕ) (k : ℕ) (records : List ℕ) (len : ℕ) : Type 0 where
  pub long : length records ≡ 190
  pub few : len ≤ pairs_below k
  pub rest : sets records len (ordered_from near (400 - k) k) ≡ (ordered_of near).records
  pub count : len + length (ordered_from near (400 - k) k) ≡ (ordered_of near).len

pub writing-none : (near : List ℕ) → Listing near 0 (replicate 190 0) 0
unfolding ordered_of ordered_list
writing-none near = record {
  long = length-replicate {A = ℕ} 190 0;
  few = unfold pairs_below in omega arith;
  rest = sets-eq (ordered_from near 400 0) (replicate 190 0) 0 (omega (arith, length-replicate {A = ℕ} 190 0, from-count near 400 0, pairs-all))
      ∙ ap (λ (l : List ℕ). ordered_from near 400 0 ++ l) (drop-replicate (0 + length (ordered_from near 400 0)) 190 ∙ ap (λ (k : ℕ). replicate (190 - k) 0) (zero-add (length (ordered_from near 400 0))));
  count = omega arith;
}

module _ (near : List ℕ) (k : ℕ) (records : List ℕ) (len : ℕ) (h : k < 400) (w : Listing near k records len) where
  pub writing-with : (x : ℕ) → x ≡ record_at near k → Here near k ≡ true → Listing near (k + 1) (set records len x) (len + 1)
  writing-with x q e =
      let f : ordered_from near (400 - k) k ≡ x ∷ ordered_from near (400 - (k + 1)) (k + 1) =
      ap (λ (d : ℕ). ordered_from near d k) (sub-suc 400 k h) ∙ from-with near (400 - (k + 1)) k e ∙ ap (λ (y : ℕ). y ∷ ordered_from near (400 - (k + 1)) (k + 1)) (sym q) in
      record {
        long = length-set records len x ∙ w.long;
        few = omega (arith, w.few, pairs-more near k e);
        rest = ap (λ (n : ℕ). sets (set records len x) n (ordered_from near (400 - (k + 1)) (k + 1))) (add-one len) ∙ sym (ap (sets records len) f) ∙ w.rest;
        count = omega (arith, w.count, ap length f);
      }

  pub writing-without : Here near k ≡ false → Listing near (k + 1) records len
  writing-without e =
      let f : ordered_from near (400 - k) k ≡ ordered_from near (400 - (k + 1)) (k + 1) =
      ap (λ (d : ℕ). ordered_from near d k) (sub-suc 400 k h) ∙ from-without near (400 - (k + 1)) k e in
      record {
        long = w.long;
        few = omega (arith, w.few, pairs-mono k 1);
        rest = sym (ap (sets records len) f) ∙ w.rest;
        count = omega (arith, w.count, ap length f);
      }

pub writing-all : (near : List ℕ) (k : ℕ) (records : List ℕ) (len : ℕ) → 400 ≤ k → Listing near k records len → (records ≡ (ordered_of near).records) × (len ≡ (ordered_of near).len)
writing-all near k records len h w =
    let z : 400 - k ≡ 0 = omega arith in
    let f : ordered_from near (400 - k) k ≡ [] = ap (λ (d : ℕ). ordered_from near d k) z ∙ from-none near k in
    (sym (ap (sets records len) f) ∙ w.rest, omega (arith, w.count, ap length f))
