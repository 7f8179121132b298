-- Ranks in the table, and what adding an angle comes to in each case. Assumes nothing.
use mathlib.Core.Path.{◌≡◌, refl, sym, ap, ◌∙◌}
use mathlib.Core.Bool.{Bool, true, false}
use Rattle.std.proofs.Common.{cond, Option, Some, None}
use Rattle.std.specs.List.{position_or_len, position}
use Rattle.std.specs.Option.{unwrap_or}
use Rattle.std.proofs.lemmas.List.Sums.{position_or_len_is}
use mathlib.Core.List.{List}
use Prim.Native.Nat.{ℕ, ◌≤◌, ◌<◌, zero-le}
use native.Mathlib.Omega.{arith}
use native.Mathlib.Nat.{le_refl}
use lib.Dec.{leb, ltb}
use lib.ListN.{length, get_or, take}
use lib.Seq.{get_or-take, length-take-le}
use borrow.Author.Tests.{lt-ltb, le-ltb, le-leb, lt-leb, eq-eqb, ne_eqb, leb-true, leb-false, ltb-true, ltb-false}
use Rattle.sets.specs.Pick.{pick, either}
use Rattle.sets.proofs.Finding.{first-before, first-true}
use Rattle.table.specs.declared.sums.Sums.{Sums}
use Rattle.table.specs.Table.{Added, stops_at, rank_of, held_at, grown_at, new_at, added_at, added_to}

-- ---- the tests of the search

pub stop-past : (xs : List ℕ) (n p i : ℕ) → n ≤ i → stops_at xs n p i ≡ true
unfolding stops_at
stop-past xs n p i h = simp (le-leb n i h)

pub stop-found : (xs : List ℕ) (n p i : ℕ) → i < n → p ≤ get_or xs i 0 → stops_at xs n p i ≡ true
unfolding stops_at
stop-found xs n p i h g = simp (lt-leb n i h, le-leb p (get_or xs i 0) g)

pub stop-not : (xs : List ℕ) (n p i : ℕ) → i < n → get_or xs i 0 < p → stops_at xs n p i ≡ false
unfolding stops_at
stop-not xs n p i h g = simp (lt-leb n i h, lt-leb p (get_or xs i 0) g)

-- ---- the rank

pub rank-le : (xs : List ℕ) (n p : ℕ) → rank_of xs n p ≤ n
unfolding rank_of
rank-le xs n p = go (ltb n (rank_of xs n p)) refl
  where
    go : (b : Bool) → ltb n (rank_of xs n p) ≡ b → rank_of xs n p ≤ n
    go true e =
        let z : ◌≡◌ {A = ℕ} 0 1 =
        ap (λ (t : Bool). pick t 0 1) (sym (stop-past xs n p n (le_refl n)) ∙ first-before (stops_at xs n p) 256 0 n zero-le (ltb-true n (rank_of xs n p) e)) in
        omega arith
    go false e = ltb-false n (rank_of xs n p) e

-- ---- what the rank says

module _ (xs : List ℕ) (n p : ℕ) where
  pub rank_below : (i : ℕ) → i < rank_of xs n p → get_or xs i 0 < p
  unfolding rank_of stops_at
  rank_below i h = go (leb n i) (leb p (get_or xs i 0)) refl (first-before (stops_at xs n p) 256 0 i zero-le h)
    where
      never : true ≡ false → ⊥
      never e = let z : ◌≡◌ {A = ℕ} 0 1 = ap (λ (t : Bool). pick t 0 1) e in omega arith

      go : (a b : Bool) → leb p (get_or xs i 0) ≡ b → either a b ≡ false → get_or xs i 0 < p
      go true b q e = absurd (never e)
      go false true q e = absurd (never e)
      go false false q e = leb-false p (get_or xs i 0) q

  pub rank-above : n ≤ 256 → rank_of xs n p < n → p ≤ get_or xs (rank_of xs n p) 0
  unfolding rank_of stops_at
  rank-above few h = go (leb n k) (leb p (get_or xs k 0)) refl refl (first-true (stops_at xs n p) 256 0 (omega arith))
    where
      k : ℕ
      k = rank_of xs n p

      never : false ≡ true → ⊥
      never e = let z : ◌≡◌ {A = ℕ} 0 1 = ap (λ (t : Bool). pick t 1 0) e in omega arith

      go : (a b : Bool) → leb n k ≡ a → leb p (get_or xs k 0) ≡ b → either a b ≡ true → p ≤ get_or xs k 0
      go true b q r e = absurd (omega (arith, leb-true n k q))
      go false true q r e = leb-true p (get_or xs k 0) r
      go false false q r e = absurd (never e)

-- the first of the first n that is p or more; n where none is
rank-found : (xs : List ℕ) (n p : ℕ) → n ≤ 256 → n ≤ length xs → unwrap_or (position (λ x. leb p x) (take n xs)) n ≡ rank_of xs n p
rank-found xs n p few long = rw (found, short) (go (ltb (rank_of xs n p) n) refl)
  where
    short : length (take n xs) ≡ n
    short = length-take-le n xs long

    at : (k : ℕ) → k < n → get_or (take n xs) k 0 ≡ get_or xs k 0
    at k h = get_or-take n xs k 0 h

    found : position_or_len (λ x. leb p x) (take n xs) ≡ rank_of xs n p
    found =
        position_or_len_is (λ x. leb p x) (take n xs) (rank_of xs n p) 0 (omega (arith, short, rank-le xs n p))
        (λ k h. ap (leb p) (at k (omega (arith, h, rank-le xs n p))) ∙ lt-leb p (get_or xs k 0) (rank_below xs n p k h))
        (λ h. ap (leb p) (at (rank_of xs n p) (omega (arith, h, short))) ∙ le-leb p (get_or xs (rank_of xs n p) 0) (rank-above xs n p few (omega (arith, h, short))))

    go : (b : Bool) → ltb (rank_of xs n p) n ≡ b → unwrap_or (cond b (Some (rank_of xs n p)) None) n ≡ rank_of xs n p
    go true e = refl
    go false e = omega (arith, rank-le xs n p, ltb-false (rank_of xs n p) n e)

pub rank-at : (s : Sums) (p k : ℕ) (o : Option ℕ) → s.len ≤ 256 → s.len ≤ length s.parity → o ≡ position (λ x. leb p x) (take s.len s.parity) → k ≡ unwrap_or o s.len → k ≡ rank_of s.parity s.len p
rank-at s p k o few long e d = d ∙ ap (λ (r : Option ℕ). unwrap_or r s.len) e ∙ rank-found s.parity s.len p few long

-- ---- adding

pub held-not-past : (s : Sums) (k p : ℕ) → s.len ≤ k → held_at s k p ≡ false
unfolding held_at
held-not-past s k p h = simp (le-ltb k s.len h)

pub held-not-other : (s : Sums) (k p : ℕ) → k < s.len → (get_or s.parity k 0 ≡ p → ⊥) → held_at s k p ≡ false
unfolding held_at
held-not-other s k p h g = simp (lt-ltb k s.len h, ne_eqb (get_or s.parity k 0) p g)

pub held-there : (s : Sums) (k p : ℕ) → k < s.len → get_or s.parity k 0 ≡ p → held_at s k p ≡ true
unfolding held_at
held-there s k p h e = simp (lt-ltb k s.len h, eq-eqb (get_or s.parity k 0) p e)

pub add-over : (s : Sums) (p a : ℕ) → 256 < s.len → added_to s p a ≡ record { sums = s; full = true }
unfolding added_to
add-over s p a h = simp (lt-ltb 256 s.len h)

module _ (s : Sums) (p a k : ℕ) (few : s.len ≤ 256) (at : k ≡ rank_of s.parity s.len p) where
  add_at : added_to s p a ≡ added_at s k p a
  unfolding added_to
  add_at = rw (le-ltb 256 s.len few, at)

  pub add-held : held_at s k p ≡ true → added_to s p a ≡ record { sums = grown_at s k a; full = false }
  unfolding added_at
  add-held e = add_at ∙ simp e

  pub add-new : held_at s k p ≡ false → s.len < 256 → added_to s p a ≡ record { sums = new_at s k p a; full = false }
  unfolding added_at
  add-new e h = add_at ∙ simp (e, lt-ltb s.len 256 h)

  pub add-full : held_at s k p ≡ false → 256 ≤ s.len → added_to s p a ≡ record { sums = s; full = true }
  unfolding added_at
  add-full e h = add_at ∙ simp (e, le-ltb s.len 256 h)

-- a full table stays as it was
pub full-same : (s : Sums) (p a : ℕ) → (added_to s p a).full ≡ true → (added_to s p a).sums ≡ s
unfolding added_to added_at
full-same s p a = go (ltb 256 s.len) (held_at s k p) (ltb s.len 256)
  where
    k : ℕ
    k = rank_of s.parity s.len p

    chosen : Bool → Bool → Bool → Added
    chosen o h b =
        pick o (record { sums = s; full = true })
        (pick h (record { sums = grown_at s k a; full = false }) (pick b (record { sums = new_at s k p a; full = false }) (record { sums = s; full = true })))

    never : false ≡ true → ⊥
    never e = let z : ◌≡◌ {A = ℕ} 0 1 = ap (λ (t : Bool). pick t 1 0) e in omega arith

    go : (o h b : Bool) → (chosen o h b).full ≡ true → (chosen o h b).sums ≡ s
    go true h b e = refl
    go false true b e = absurd (never e)
    go false false true e = absurd (never e)
    go false false false e = refl
