-- Keeping the entries whose sum is not 0. Assumes nothing.
use mathlib.Core.Path.{◌≡◌, refl, sym, ap, ap₂, ◌∙◌, subst}
use mathlib.Core.Logic.{◌≢◌}
use mathlib.Core.Bool.{Bool, true, false, not}
use mathlib.Core.List.{List, [], ◌∷◌, ◌++◌, map, append_assoc, append-nil}
use Prim.Native.Nat.{ℕ, suc, ◌+◌, ◌-◌, ◌≤◌, ◌<◌, min}
use native.Mathlib.Omega.{arith}
use native.Mathlib.Numerals.{add-one}
use lib.Dec.{eqb}
use lib.ListN.{length, get_or, set, take, replicate, length-append, length-take}
use lib.Seq.{take-suc, take_all, get_or-take, take-append_seam, length-take-le, set_at}
use borrow.Author.Tests.{eq-eqb, ne_eqb}
use Rattle.sets.specs.Pick.{pick}
use Rattle.sets.specs.Lists.{those}
use Rattle.sets.proofs.Finding.{sub-suc}
use Rattle.table.specs.declared.sums.Sums.{Sums}
use Rattle.table.specs.Table.{tabled, empty, kept, padded, kept_table}

-- ---- one entry more

kept-snoc : (xs ss : List ℕ) (x s : ℕ) → length xs ≡ length ss → kept (xs ++ x ∷ []) (ss ++ s ∷ []) ≡ kept xs ss ++ pick (eqb s 0) [] (x ∷ [])
unfolding kept
kept-snoc [] [] x s e = refl
kept-snoc [] (t ∷ ss) x s e = absurd (omega arith)
kept-snoc (y ∷ xs) [] x s e = absurd (omega arith)
kept-snoc (y ∷ xs) (t ∷ ss) x s e = go (eqb t 0) (kept-snoc xs ss x s (omega arith))
  where
    go : (b : Bool) → kept (xs ++ x ∷ []) (ss ++ s ∷ []) ≡ kept xs ss ++ pick (eqb s 0) [] (x ∷ [])
        → pick b (kept (xs ++ x ∷ []) (ss ++ s ∷ [])) (y ∷ kept (xs ++ x ∷ []) (ss ++ s ∷ [])) ≡ pick b (kept xs ss) (y ∷ kept xs ss) ++ pick (eqb s 0) [] (x ∷ [])
    go true ih = ih
    go false ih = ap (λ (l : List ℕ). y ∷ l) ih

kept-length : (xs ys ss : List ℕ) → length xs ≡ length ys → length (kept xs ss) ≡ length (kept ys ss)
unfolding kept
kept-length [] [] ss e = refl
kept-length [] (y ∷ ys) ss e = absurd (omega arith)
kept-length (x ∷ xs) [] ss e = absurd (omega arith)
kept-length (x ∷ xs) (y ∷ ys) [] e = refl
kept-length (x ∷ xs) (y ∷ ys) (s ∷ ss) e = go (eqb s 0) (kept-length xs ys ss (omega arith))
  where
    go : (b : Bool) → length (kept xs ss) ≡ length (kept ys ss) → length (pick b (kept xs ss) (x ∷ kept xs ss)) ≡ length (pick b (kept ys ss) (y ∷ kept ys ss))
    go true h = h
    go false h = ap suc h

zeros-less : (n m : ℕ) → m < n → replicate {A = ℕ} (n - m) 0 ≡ 0 ∷ replicate (n - (m + 1)) 0
zeros-less n m h = ap (λ (k : ℕ). replicate {A = ℕ} k 0) (sub-suc n m h)

padded-snoc : (n : ℕ) (xs : List ℕ) (v : ℕ) → length xs < n → set (padded n xs) (length xs) v ≡ padded n (xs ++ v ∷ [])
unfolding padded
padded-snoc n xs v h =
    ap (λ (zs : List ℕ). set (xs ++ zs) (length xs) v) (zeros-less n (length xs) h)
    ∙ set_at xs 0 (replicate (n - (length xs + 1)) 0) v (length xs) refl
    ∙ ap (λ (k : ℕ). xs ++ v ∷ replicate (n - k) 0) (sym (length-append xs (v ∷ [])))
    ∙ sym (append_assoc xs (v ∷ []) (replicate (n - length (xs ++ v ∷ [])) 0))

-- ---- the loop

-- of the first n entries, i are looked at, and t has those of them that are kept
pub record Keeping (parity sum : List ℕ) (n i : ℕ) (t : Sums) : Type 0 where
  pub first : t.parity ≡ padded 256 (kept (take i (take n parity)) (take i (take n sum)))
  pub second : t.sum ≡ padded 256 (kept (take i (take n sum)) (take i (take n sum)))
  pub count : t.len ≡ length (kept (take i (take n sum)) (take i (take n sum)))
  pub few : t.len ≤ i

pub keeping_none : (parity sum : List ℕ) (n : ℕ) → Keeping parity sum n 0 empty
unfolding kept empty
keeping_none parity sum n = record { first = refl; second = refl; count = refl; few = omega arith }

-- past the first n nothing is looked at
pub keeping-past : (parity sum : List ℕ) (n i : ℕ) (t : Sums) → Keeping parity sum n i t → n ≤ i → Keeping parity sum n (i + 1) t
keeping-past parity sum n i t k b = record { first = rw (same parity, same sum) k.first; second = rw (same sum) k.second; count = rw (same sum) k.count; few = omega (arith, k.few) }
  where
    short : (xs : List ℕ) (j : ℕ) → n ≤ j → take j (take n xs) ≡ take n xs
    short xs j l = take_all j (take n xs) (omega (arith, length-take n xs))

    same : (xs : List ℕ) → take (i + 1) (take n xs) ≡ take i (take n xs)
    same xs = short xs (i + 1) (omega arith) ∙ sym (short xs i b)

module _ (parity sum : List ℕ) (n i : ℕ) (t : Sums) (lp : length parity ≡ 256) (ls : length sum ≡ 256) (k : Keeping parity sum n i t) (h : i < 256) (b : i < n) where
  more : (xs : List ℕ) → length xs ≡ 256 → take (i + 1) (take n xs) ≡ take i (take n xs) ++ get_or xs i 0 ∷ []
  more xs e =
      ap (λ (j : ℕ). take j (take n xs)) (add-one i) ∙ take-suc (take n xs) i 0 (omega (arith, length-take n xs))
      ∙ ap (λ (v : ℕ). take i (take n xs) ++ v ∷ []) (get_or-take n xs i 0 b)

  long : (xs : List ℕ) → length xs ≡ 256 → length (take i (take n xs)) ≡ i
  long xs e = length-take-le i (take n xs) (omega (arith, length-take n xs))

  one : (xs : List ℕ) → length xs ≡ 256
      → kept (take (i + 1) (take n xs)) (take (i + 1) (take n sum)) ≡ kept (take i (take n xs)) (take i (take n sum)) ++ pick (eqb (get_or sum i 0) 0) [] (get_or xs i 0 ∷ [])
  one xs e =
      ap₂ kept (more xs e) (more sum ls) ∙ kept-snoc (take i (take n xs)) (take i (take n sum)) (get_or xs i 0) (get_or sum i 0) (long xs e ∙ sym (long sum ls))

  pub keeping-drop : get_or sum i 0 ≡ 0 → Keeping parity sum n (i + 1) t
  keeping-drop z = record { first = rw (same parity lp) k.first; second = rw (same sum ls) k.second; count = rw (same sum ls) k.count; few = omega (arith, k.few) }
    where
      same : (xs : List ℕ) → length xs ≡ 256 → kept (take (i + 1) (take n xs)) (take (i + 1) (take n sum)) ≡ kept (take i (take n xs)) (take i (take n sum))
      same xs e = one xs e ∙ ap (λ (c : Bool). kept (take i (take n xs)) (take i (take n sum)) ++ pick c [] (get_or xs i 0 ∷ [])) (eq-eqb (get_or sum i 0) 0 z) ∙ append-nil (kept (take i (take n xs)) (take i (take n sum)))

  pub keeping-take : get_or sum i 0 ≢ 0 → Keeping parity sum n (i + 1) (tabled (set t.parity t.len (get_or parity i 0)) (set t.sum t.len (get_or sum i 0)) (t.len + 1))
  keeping-take ne =
      let cp : t.len ≡ length (kept (take i (take n parity)) (take i (take n sum))) =
      k.count ∙ kept-length (take i (take n sum)) (take i (take n parity)) (take i (take n sum)) (long sum ls ∙ sym (long parity lp)) in
      record {
        first = put parity lp t.parity cp k.first;
        second = put sum ls t.sum k.count k.second;
        count = ap (λ (m : ℕ). m + 1) k.count ∙ sym (ap length (new sum ls) ∙ length-append (kept (take i (take n sum)) (take i (take n sum))) (get_or sum i 0 ∷ []));
        few = omega (arith, k.few);
      }
    where
      new : (xs : List ℕ) → length xs ≡ 256
          → kept (take (i + 1) (take n xs)) (take (i + 1) (take n sum)) ≡ kept (take i (take n xs)) (take i (take n sum)) ++ get_or xs i 0 ∷ []
      new xs e = one xs e ∙ ap (λ (c : Bool). kept (take i (take n xs)) (take i (take n sum)) ++ pick c [] (get_or xs i 0 ∷ [])) (ne_eqb (get_or sum i 0) 0 ne)

      put : (xs : List ℕ) → length xs ≡ 256 → (ys : List ℕ) → t.len ≡ length (kept (take i (take n xs)) (take i (take n sum)))
          → ys ≡ padded 256 (kept (take i (take n xs)) (take i (take n sum)))
          → set ys t.len (get_or xs i 0) ≡ padded 256 (kept (take (i + 1) (take n xs)) (take (i + 1) (take n sum)))
      put xs e ys c w =
          ap₂ (λ (l : List ℕ) (m : ℕ). set l m (get_or xs i 0)) w c
          ∙ padded-snoc 256 (kept (take i (take n xs)) (take i (take n sum))) (get_or xs i 0) (omega (arith, k.few))
          ∙ ap (padded 256) (sym (new xs e))

-- the entry at i, as a loop over both lists has it: p with the sum v
module _ (parity sum : List ℕ) (n m : ℕ) (lp : length parity ≡ 256) (ls : length sum ≡ 256) (em : m ≡ min n 256) (i p v : ℕ) (t : Sums)
    (h : i < length (take m parity)) (hp : p ≡ get_or (take m parity) i 0) (hv : v ≡ get_or (take m sum) i 0) (k : Keeping parity sum n i t) where
  low : i < m
  low = omega (arith, length-take m parity)

  sum_is : v ≡ get_or sum i 0
  sum_is = hv ∙ get_or-take m sum i 0 low

  parity_is : p ≡ get_or parity i 0
  parity_is = hp ∙ get_or-take m parity i 0 low

  pub entry-room : t.len < 256
  entry-room = omega (arith, low, k.few)

  pub entry-dropped : v ≡ 0 → Keeping parity sum n (i + 1) t
  entry-dropped z = keeping-drop parity sum n i t lp ls k (omega (arith, low)) (omega (arith, low)) (sym sum_is ∙ z)

  pub entry-kept : v ≢ 0 → (u : Sums) → u ≡ tabled (set t.parity t.len p) (set t.sum t.len v) (t.len + 1) → Keeping parity sum n (i + 1) u
  entry-kept ne u e =
      subst (Keeping parity sum n (i + 1)) (sym (e ∙ ap₂ (λ (x y : ℕ). tabled (set t.parity t.len x) (set t.sum t.len y) (t.len + 1)) parity_is sum_is))
      (keeping-take parity sum n i t lp ls k (omega (arith, low)) (omega (arith, low)) (λ z. ne (sum_is ∙ z)))

pub keeping_all : (parity sum : List ℕ) (n i : ℕ) (t : Sums) → length parity ≡ 256 → length sum ≡ 256 → min n 256 ≤ i → Keeping parity sum n i t → t ≡ kept_table parity sum n
unfolding kept_table
keeping_all parity sum n i t lp ls h k =
    let wp : take i (take n parity) ≡ take n parity = take_all i (take n parity) (omega (arith, length-take n parity)) in
    let ws : take i (take n sum) ≡ take n sum = take_all i (take n sum) (omega (arith, length-take n sum)) in
    let e : t ≡ tabled t.parity t.sum t.len = refl in
    e ∙ rw (k.first, k.second, k.count, wp, ws)

-- ---- keeping by what a function gives

-- beside f's values, those whose value is not 0
pub kept-those : (f : ℕ → ℕ) (xs : List ℕ) → kept xs (map f xs) ≡ those (λ x. not (eqb (f x) 0)) xs
unfolding kept those
kept-those f [] = refl
kept-those f (x ∷ xs) = go (eqb (f x) 0) (kept-those f xs)
  where
    go : (b : Bool) → kept xs (map f xs) ≡ those (λ x. not (eqb (f x) 0)) xs
        → pick b (kept xs (map f xs)) (x ∷ kept xs (map f xs)) ≡ pick (not b) (x ∷ those (λ x. not (eqb (f x) 0)) xs) (those (λ x. not (eqb (f x) 0)) xs)
    go true e = e
    go false e = ap (λ (l : List ℕ). x ∷ l) e

pub kept_map : (f : ℕ → ℕ) (ps : List ℕ) → kept (map f ps) (map f ps) ≡ map f (kept ps (map f ps))
unfolding kept
kept_map f [] = refl
kept_map f (p ∷ ps) = go (eqb (f p) 0) (kept_map f ps)
  where
    go : (b : Bool) → kept (map f ps) (map f ps) ≡ map f (kept ps (map f ps))
        → pick b (kept (map f ps) (map f ps)) (f p ∷ kept (map f ps) (map f ps)) ≡ map f (pick b (kept ps (map f ps)) (p ∷ kept ps (map f ps)))
    go true h = h
    go false h = ap (λ (l : List ℕ). f p ∷ l) h

pub take-padded : (n k : ℕ) (xs : List ℕ) → k ≡ length xs → take k (padded n xs) ≡ xs
unfolding padded
take-padded n k xs e = ap (λ (j : ℕ). take j (xs ++ replicate (n - length xs) 0)) e ∙ take-append_seam xs (replicate (n - length xs) 0)
