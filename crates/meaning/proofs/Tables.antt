-- The table of sums holds the meaning: after one rotation more it is the table of one gate more, or it is full. Assumes nothing.
use mathlib.Core.Path.{◌≡◌, refl, sym, ap, ap₂, ◌∙◌}
use mathlib.Core.Logic.{◌≢◌, ◌⊎◌, inl, inr, ⊎_elim}
use mathlib.Core.Bool.{true, false}
use mathlib.Core.List.{List, [], ◌∷◌, ◌++◌, map, append_assoc}
use Prim.Native.Nat.{ℕ, zero, suc, ◌+◌, ◌-◌, ◌%◌, ◌≤◌, ◌<◌, suc-le-suc}
use native.Mathlib.Nat.{le_of_suc-le-suc, not-suc-le-zero, zero-lt-suc}
use native.Mathlib.Omega.{arith}
use native.Mathlib.Decide.{ℕ_discrete, dec_lt}
use lib.ListN.{length, get_or, set, take, drop, replicate, length-append, length-map, length-set, length-take, length-drop, get_or-append}
use lib.Seq.{ext_get_or, get_or-set_same, get_or-set_other, set-append_left, take-append-le, drop-append-le, take-append_seam, drop-append-add}
use Rattle.sets.proofs.Finding.{sub-suc}
use Rattle.gates.specs.declared.gate.Gate.{Gate}
use Rattle.gates.specs.declared.gate.Gate.TheVariants.{Rotation}
use Rattle.table.specs.declared.sums.Sums.{Sums}
use Rattle.circuit.specs.Circuit.{run, start, gives, takes, sum_of}
use Rattle.circuit.specs.Flips.{flip_run, no_flips}
use Rattle.meaning.specs.Borne.{insert, borne, sums_of, Ascending}
use Rattle.table.specs.Table.{padded, Added, rank_of, put_in, moved_in, held_at, grown_at, new_at, added_to}
use Rattle.meaning.specs.Told.{table_of}
use Rattle.circuit.proofs.Steps.{gives-borne, gives_other}
use Rattle.circuit.proofs.Sums.{sum-small}
use Rattle.circuit.proofs.Straight.{straight-rotation, sum-snoc}
use Rattle.table.proofs.Ranks.{rank-le, rank_below, rank-above, held-there, held-not-past, held-not-other, add-held, add-new, add-full}
use Rattle.meaning.proofs.Lists.{insert-held, insert-new, at-among}
use Rattle.meaning.proofs.Bearing.{borne-snoc, bears-rotation, borne-ascending, not-borne}

-- ---- a list at the front of many places

pub padded-at : (n : ℕ) (xs : List ℕ) (i : ℕ) → i < length xs → get_or (padded n xs) i 0 ≡ get_or xs i 0
unfolding padded
padded-at n xs i h = get_or-append xs (replicate (n - length xs) 0) 0 i h

padded-set : (n : ℕ) (xs : List ℕ) (i v : ℕ) → i < length xs → set (padded n xs) i v ≡ padded n (set xs i v)
unfolding padded
padded-set n xs i v h =
    set-append_left xs (replicate (n - length xs) 0) i v h ∙ ap (λ (k : ℕ). set xs i v ++ replicate (n - k) 0) (sym (length-set xs i v))

put-length : (k v : ℕ) (xs : List ℕ) → k ≤ length xs → length (put_in k v xs) ≡ length xs + 1
unfolding put_in
put-length k v xs h = simp (length-append, length-take, length-drop) (omega arith)

put-append : (k v : ℕ) (xs zs : List ℕ) → k ≤ length xs → put_in k v (xs ++ zs) ≡ put_in k v xs ++ zs
unfolding put_in
put-append k v xs zs h =
    ap₂ (λ (a b : List ℕ). a ++ v ∷ b) (take-append-le k xs zs h) (drop-append-le k xs zs h) ∙ sym (append_assoc (take k xs) (v ∷ drop k xs) zs)

drop-zeros : (n : ℕ) (xs : List ℕ) → length xs < n → drop (length xs + 1) (xs ++ replicate (n - length xs) 0) ≡ replicate (n - (length xs + 1)) 0
drop-zeros n xs h = drop-append-add xs (replicate (n - length xs) 0) 1 ∙ ap (λ (k : ℕ). drop 1 (replicate k 0)) (sub-suc n (length xs) h)

-- moving in among the places that are taken is putting in
padded-moved : (n k v : ℕ) (xs : List ℕ) → k ≤ length xs → length xs < n → moved_in (padded n xs) k (length xs) v ≡ padded n (put_in k v xs)
unfolding moved_in padded
padded-moved n k v xs h l =
    ap₂ (λ (a b : List ℕ). a ++ b)
    (ap (take (length xs + 1)) (put-append k v xs (replicate (n - length xs) 0) h)
    ∙ ap (λ (m : ℕ). take m (put_in k v xs ++ replicate (n - length xs) 0)) (sym (put-length k v xs h))
    ∙ take-append_seam (put_in k v xs) (replicate (n - length xs) 0))
    (drop-zeros n xs l ∙ ap (λ (m : ℕ). replicate (n - m) 0) (sym (put-length k v xs h)))

-- ---- a function of a list

pub map_at : (f : ℕ → ℕ) (xs : List ℕ) (i : ℕ) → i < length xs → get_or (map f xs) i 0 ≡ f (get_or xs i 0)
map_at f [] i h = absurd (not-suc-le-zero h)
map_at f (x ∷ xs) zero h = refl
map_at f (x ∷ xs) (suc i) h = map_at f xs i (le_of_suc-le-suc h)

map_same : (f g : ℕ → ℕ) (xs : List ℕ) → ((i : ℕ) → i < length xs → f (get_or xs i 0) ≡ g (get_or xs i 0)) → map f xs ≡ map g xs
map_same f g [] h = refl
map_same f g (x ∷ xs) h = ap₂ (λ (a : ℕ) (as' : List ℕ). a ∷ as') (h 0 (zero-lt-suc (length xs))) (map_same f g xs (λ i l. h (suc i) (suc-le-suc l)))

map-put : (f : ℕ → ℕ) (k v : ℕ) (xs : List ℕ) → map f (put_in k v xs) ≡ put_in k (f v) (map f xs)
unfolding put_in
map-put f zero v [] = refl
map-put f (suc k) v [] = refl
map-put f zero v (x ∷ xs) = refl
map-put f (suc k) v (x ∷ xs) = ap (λ (l : List ℕ). f x ∷ l) (map-put f k v xs)

-- one value changes: that of the number at k
map-set : (f g : ℕ → ℕ) (k : ℕ) (xs : List ℕ) → k < length xs → ((i : ℕ) → i < length xs → i ≢ k → f (get_or xs i 0) ≡ g (get_or xs i 0))
    → set (map f xs) k (g (get_or xs k 0)) ≡ map g xs
map-set f g k xs l h =
    ext_get_or 0 (set (map f xs) k (g (get_or xs k 0))) (map g xs) (length-set (map f xs) k _ ∙ length-map xs f ∙ sym (length-map xs g)) at
  where
    at : (i : ℕ) → i < length (set (map f xs) k (g (get_or xs k 0))) → get_or (set (map f xs) k (g (get_or xs k 0))) i 0 ≡ get_or (map g xs) i 0
    at i b = go (ℕ_discrete i k)
      where
        b' : i < length xs
        b' = omega (arith, b, length-set (map f xs) k (g (get_or xs k 0)), length-map xs f)

        go : Dec (i ≡ k) → get_or (set (map f xs) k (g (get_or xs k 0))) i 0 ≡ get_or (map g xs) i 0
        go (yes e) = rw e (get_or-set_same (map f xs) k _ 0 (omega (arith, l, length-map xs f)) ∙ sym (map_at g xs k l))
        go (no n) = get_or-set_other (map f xs) k i _ 0 n ∙ map_at f xs i b' ∙ h i b' n ∙ sym (map_at g xs i b')

-- ---- one rotation more

module _ (gs : List Gate) (q v : ℕ) (few : length (borne gs) ≤ 256) where
  -- what the angle v comes to there
  abbrev a : ℕ
  a = takes (get_or (flip_run gs no_flips) q 0) v

  abbrev ps : List ℕ
  ps = borne gs

  abbrev p : ℕ
  p = get_or (run gs start) q 0

  abbrev more : List Gate
  more = gs ++ Rotation q v ∷ []

  abbrev k : ℕ
  k = rank_of (padded 256 ps) (length ps) p

  k-le : k ≤ length ps
  k-le = rank-le (padded 256 ps) (length ps) p

  low : (i : ℕ) → i < k → get_or ps i 0 < p
  low i h = rw (padded-at 256 ps i (omega (arith, k-le))) at (rank_below (padded 256 ps) (length ps) p i h)

  high : k < length ps → p ≤ get_or ps k 0
  high h = rw (padded-at 256 ps k h) at (rank-above (padded 256 ps) (length ps) p few h)

  borne-more : borne more ≡ insert p ps
  borne-more = borne-snoc gs (Rotation q v) ∙ bears-rotation q v (run gs start) ps

  sum_same : (r : ℕ) → p ≢ r → sum_of r gs ≡ sum_of r more
  sum_same r ne =
      let s : sum_of r more ≡ (sum_of r gs + gives r (Rotation q a) (run gs start)) % 65536 = sum-snoc r gs (Rotation q v) ∙ ap (λ (g : Gate). (sum_of r gs + gives r g (run gs start)) % 65536) (straight-rotation q v (flip_run gs no_flips)) in
      omega (arith, gives_other r q a (run gs start) ne, sum-small r gs)

  sum_more : sum_of p more ≡ (sum_of p gs % 65536 + a % 65536) % 65536
  sum_more =
      sum-snoc p gs (Rotation q v) ∙ ap (λ (g : Gate). (sum_of p gs + gives p g (run gs start)) % 65536) (straight-rotation q v (flip_run gs no_flips))
      ∙ ap (λ (m : ℕ). (sum_of p gs + m) % 65536) (gives-borne p q a (run gs start) refl) ∙ omega arith

  -- p has its place: it is at k, and nowhere else
  module _ (l : k < length ps) (e : get_or ps k 0 ≡ p) where
    elsewhere : (i : ℕ) → i < length ps → i ≢ k → p ≢ get_or ps i 0
    unfolding Ascending
    elsewhere i h n d = go (dec_lt i k)
      where
        go : Dec (i < k) → ⊥
        go (yes b) = omega (arith, low i b)
        go (no b) = omega (arith, borne-ascending gs k i (omega arith) h)

    held-sums : set (padded 256 (sums_of gs ps)) k ((get_or (padded 256 (sums_of gs ps)) k 0 % 65536 + a % 65536) % 65536) ≡ padded 256 (sums_of more ps)
    held-sums =
        let lm : k < length (sums_of gs ps) = omega (arith, length-map ps (λ r. sum_of r gs)) in
        let v : get_or (padded 256 (sums_of gs ps)) k 0 ≡ sum_of p gs = padded-at 256 (sums_of gs ps) k lm ∙ map_at (λ r. sum_of r gs) ps k l ∙ ap (λ (r : ℕ). sum_of r gs) e in
        ap (λ (m : ℕ). set (padded 256 (sums_of gs ps)) k ((m % 65536 + a % 65536) % 65536)) v
        ∙ ap (set (padded 256 (sums_of gs ps)) k) (sym sum_more ∙ ap (λ (r : ℕ). sum_of r more) (sym e))
        ∙ padded-set 256 (sums_of gs ps) k _ lm
        ∙ ap (padded 256) (map-set (λ r. sum_of r gs) (λ r. sum_of r more) k ps l (λ i h n. sum_same (get_or ps i 0) (elsewhere i h n)))

    held-table : grown_at (table_of gs) k a ≡ table_of more
    unfolding grown_at table_of
    held-table =
        let b : borne more ≡ ps = borne-more ∙ insert-held p k ps low l e in
        rw (b, held-sums)

    held-added : added_to (table_of gs) p a ≡ record { sums = table_of more; full = false }
    held-added =
        add-held (table_of gs) p a k (unfold table_of in few) (unfold table_of in refl)
        (held-there (table_of gs) k p (unfold table_of in l) (unfold table_of in (padded-at 256 ps k l ∙ e)))
        ∙ ap (λ (t : Sums). record { sums = t; full = false }) held-table

  -- p is new
  module _ (new : k < length ps → get_or ps k 0 ≢ p) where
    above : k < length ps → p < get_or ps k 0
    above h = strictly (high h) (new h)
      where
        strictly : p ≤ get_or ps k 0 → get_or ps k 0 ≢ p → p < get_or ps k 0
        strictly h n = omega arith

    nowhere : (i : ℕ) → i < length ps → p ≢ get_or ps i 0
    unfolding Ascending
    nowhere i h d = go (dec_lt i k) (ℕ_discrete i k)
      where
        go : Dec (i < k) → Dec (i ≡ k) → ⊥
        go (yes b) c = omega (arith, low i b)
        go (no b) (yes c) = new (omega arith) (sym (d ∙ ap (λ (j : ℕ). get_or ps j 0) c))
        go (no b) (no c) = omega (arith, above (omega arith), borne-ascending gs k i (omega arith) h)

    inserted : borne more ≡ put_in k p ps
    inserted = borne-more ∙ insert-new p k ps low k-le above

    first-sum : sum_of p more ≡ a % 65536
    first-sum =
        let z : sum_of p gs ≡ 0 = not-borne p gs (λ h. let r = at-among p ps h in nowhere r.0 r.1 (sym r.2)) in
        sum_more ∙ omega arith

    new-sums : moved_in (padded 256 (sums_of gs ps)) k (length ps) (a % 65536) ≡ moved_in (padded 256 (sums_of more ps)) k (length (sums_of more ps)) (sum_of p more)
    new-sums =
        let same : sums_of gs ps ≡ sums_of more ps = map_same (λ r. sum_of r gs) (λ r. sum_of r more) ps (λ i h. sum_same (get_or ps i 0) (nowhere i h)) in
        let long : length ps ≡ length (sums_of more ps) = sym (length-map ps (λ r. sum_of r more)) in
        ap (λ (xs : List ℕ). moved_in (padded 256 xs) k (length ps) (a % 65536)) same
        ∙ ap (λ (m : ℕ). moved_in (padded 256 (sums_of more ps)) k m (a % 65536)) long
        ∙ ap (moved_in (padded 256 (sums_of more ps)) k (length (sums_of more ps))) (sym first-sum)

    new-table : length ps < 256 → new_at (table_of gs) k p a ≡ table_of more
    unfolding new_at table_of
    new-table room =
        let lm : length (sums_of more ps) ≡ length ps = length-map ps (λ r. sum_of r more) in
        let km : k ≤ length (sums_of more ps) = omega (arith, k-le) in
        let s : moved_in (padded 256 (sums_of gs ps)) k (length ps) (a % 65536) ≡ padded 256 (sums_of more (put_in k p ps)) =
        new-sums ∙ padded-moved 256 k (sum_of p more) (sums_of more ps) km (omega arith) ∙ ap (padded 256) (sym (map-put (λ r. sum_of r more) k p ps)) in
        rw (inserted, padded-moved 256 k p ps k-le room, s, put-length k p ps k-le)

    absent : held_at (table_of gs) k p ≡ false
    absent = go (dec_lt k (length ps))
      where
        go : Dec (k < length ps) → held_at (table_of gs) k p ≡ false
        go (yes h) = held-not-other (table_of gs) k p (unfold table_of in h) (unfold table_of in (λ e. new h (sym (padded-at 256 ps k h) ∙ e)))
        go (no h) = held-not-past (table_of gs) k p (unfold table_of in (past h))
          where
            past : (k < length ps → ⊥) → length ps ≤ k
            past n = omega arith

    new-added : length ps < 256 → added_to (table_of gs) p a ≡ record { sums = table_of more; full = false }
    new-added room =
        add-new (table_of gs) p a k (unfold table_of in few) (unfold table_of in refl) absent (unfold table_of in room)
        ∙ ap (λ (t : Sums). record { sums = t; full = false }) (new-table room)

    full-added : 256 ≤ length ps → added_to (table_of gs) p a ≡ record { sums = table_of gs; full = true }
    full-added most = add-full (table_of gs) p a k (unfold table_of in few) (unfold table_of in refl) absent (unfold table_of in most)

    grows : length (borne more) ≡ length ps + 1
    grows = ap length inserted ∙ put-length k p ps k-le

  -- what adding the rotation comes to, by the number of parities after it
  by_place : ((l : k < length ps) × (get_or ps k 0 ≡ p)) ⊎ (k < length ps → get_or ps k 0 ≢ p)
  by_place = go (dec_lt k (length ps)) (ℕ_discrete (get_or ps k 0) p)
    where
      go : Dec (k < length ps) → Dec (get_or ps k 0 ≡ p) → ((l : k < length ps) × (get_or ps k 0 ≡ p)) ⊎ (k < length ps → get_or ps k 0 ≢ p)
      go (yes l) (yes e) = inl (l, e)
      go (yes l) (no n) = inr (λ h. n)
      go (no l) e = inr (λ h. absurd (l h))

  pub added-fits : length (borne more) ≤ 256 → added_to (table_of gs) p a ≡ record { sums = table_of more; full = false }
  added-fits h = ⊎_elim (λ w. held-added w.0 w.1) (λ n. new-added n (omega (arith, grows n))) by_place

  pub added_full : 256 < length (borne more) → (added_to (table_of gs) p a).full ≡ true
  added_full h =
      ⊎_elim
      (λ (w : (l : k < length ps) × (get_or ps k 0 ≡ p)). absurd (omega (arith, ap length (borne-more ∙ insert-held p k ps low w.0 w.1))))
      (λ n. ap (λ (t : Added). t.full) (full-added n (omega (arith, grows n)))) by_place
