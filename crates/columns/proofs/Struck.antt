-- Striking off strikes every column of one qubit, lays a rotation for each, and leaves all others as they are. Assumes nothing.
use mathlib.Core.Path.{◌≡◌, refl, sym, ap, ◌∙◌, subst}
use mathlib.Core.Logic.{◌≢◌, ◌⊎◌, inl, inr}
use mathlib.Core.Bool.{Bool, true, false}
use mathlib.Core.List.{List}
use Prim.Native.Nat.{ℕ, zero, suc, ◌+◌, ◌^◌, ◌≤◌, ◌<◌}
use native.Mathlib.Omega.{arith}
use native.Mathlib.Decide.{ℕ_discrete, dec_lt}
use lib.Dec.{eqb}
use lib.ListN.{length, get_or, set, length-set, get_or-eq_default}
use lib.Seq.{get_or-set_same, get_or-set_other}
use borrow.Author.Tests.{eqb-true}
use Rattle.sets.specs.Pick.{both}
use Rattle.sets.specs.Bit.{In, Sub}
use Rattle.sets.specs.Size.{single_of, lowest_of}
use Rattle.sets.proofs.Bits.{bit-pow-same}
use Rattle.sets.proofs.Words.{single-is}
use Rattle.tallies.specs.Tally.{cnots_of}
use Rattle.columns.specs.Pieces.{Piece, idle, followed_by}
use Rattle.columns.specs.Striking.{lone_at, strike_one, strike_row, strike_from, strike_off}
use Rattle.columns.specs.Terms.{Laying}
use Rattle.columns.proofs.Layings.{laying-none, laying-then, laying-strike}
use Rattle.columns.proofs.Laid.{sub-below}
use Rattle.columns.proofs.Strikes.{single-zero, strike-yes, strike-no, lone-yes, from_step}
use Rattle.sets.proofs.Deciding.{never}
use Rattle.tallies.proofs.Tallies.{cnots-none, cnots-append, cnots-rotation}

lone-single : (q x : ℕ) → lone_at q x ≡ true → (single_of x ≡ true) × (lowest_of x ≡ q)
unfolding lone_at
lone-single q x e = go (single_of x) (eqb (lowest_of x) q) refl refl e
  where
    go : (b c : Bool) → single_of x ≡ b → eqb (lowest_of x) q ≡ c → both b c ≡ true → (single_of x ≡ true) × (lowest_of x ≡ q)
    go true true s t h = (s, eqb-true (lowest_of x) q t)
    go true false s t h = absurd (never h refl)
    go false c s t h = absurd (never h refl)

-- every column of one qubit is one of Q
abbrev pub SinglesIn : ℕ → List ℕ → Type 0
SinglesIn Q xs = (k : ℕ) → single_of (get_or xs k 0) ≡ true → (get_or xs k 0 ≡ 2 ^ lowest_of (get_or xs k 0)) × In (lowest_of (get_or xs k 0)) Q × (lowest_of (get_or xs k 0) < 20)

pub fit_of : (Q : ℕ) (xs : List ℕ) → Q < 2 ^ 20 → ((k : ℕ) → single_of (get_or xs k 0) ≡ true → Sub (get_or xs k 0) Q) → SinglesIn Q xs
fit_of Q xs low f k e =
    let x : ℕ = get_or xs k 0 in
    let s = single-is 20 x (omega arith) (sub-below 20 x Q (f k e) low) e in
    (s.0, f k e (lowest_of x) (subst (λ (y : ℕ). In (lowest_of x) y) (sym s.0) (bit-pow-same (lowest_of x))), s.1)

module _ (near : List ℕ) (Q : ℕ) (angles : List ℕ) where
  -- a piece that only strikes off
  pub record Strikes (xs : List ℕ) (p : Piece) : Type 0 where
    pub lays : Laying near Q angles xs p.laid p.cols
    pub cnots : cnots_of p.laid ≡ 0
    pub each : (k : ℕ) → (get_or p.cols k 0 ≡ get_or xs k 0) ⊎ ((single_of (get_or xs k 0) ≡ true) × (get_or p.cols k 0 ≡ 0))

  strikes-idle : (xs : List ℕ) → Strikes xs (idle xs)
  strikes-idle xs = record { lays = laying-none near Q angles xs; cnots = cnots-none; each = λ k. inl refl }

  -- struck off stays struck off
  stays : {xs : List ℕ} {p : Piece} → Strikes xs p → (k : ℕ) → get_or xs k 0 ≡ 0 → get_or p.cols k 0 ≡ 0
  stays {xs} {p} s k z = go (s.each k)
    where
      go : (get_or p.cols k 0 ≡ get_or xs k 0) ⊎ ((single_of (get_or xs k 0) ≡ true) × (get_or p.cols k 0 ≡ 0)) → get_or p.cols k 0 ≡ 0
      go (inl e) = e ∙ z
      go (inr h) = h.1

  strikes-then : (xs : List ℕ) (p : Piece) (k : List ℕ → Piece) → Strikes xs p → Strikes p.cols (k p.cols) → Strikes xs (followed_by p k)
  unfolding followed_by
  strikes-then xs p k a b =
      record {
        lays = laying-then near Q angles a.lays b.lays;
        cnots = omega (arith, cnots-append p.laid (k p.cols).laid, a.cnots, b.cnots);
        each = λ j. both_ways j (a.each j) (b.each j);
      }
    where
      both_ways : (j : ℕ) → (get_or p.cols j 0 ≡ get_or xs j 0) ⊎ ((single_of (get_or xs j 0) ≡ true) × (get_or p.cols j 0 ≡ 0))
          → (get_or (k p.cols).cols j 0 ≡ get_or p.cols j 0) ⊎ ((single_of (get_or p.cols j 0) ≡ true) × (get_or (k p.cols).cols j 0 ≡ 0))
          → (get_or (k p.cols).cols j 0 ≡ get_or xs j 0) ⊎ ((single_of (get_or xs j 0) ≡ true) × (get_or (k p.cols).cols j 0 ≡ 0))
      both_ways j (inl e) (inl f) = inl (f ∙ e)
      both_ways j (inl e) (inr f) = inr (ap single_of (sym e) ∙ f.0, f.1)
      both_ways j (inr e) (inl f) = inr (e.0, f ∙ e.1)
      both_ways j (inr e) (inr f) = inr (e.0, f.1)

  fit-after : {xs : List ℕ} {p : Piece} → Strikes xs p → SinglesIn Q xs → SinglesIn Q p.cols
  fit-after {xs} {p} s f k e = go (s.each k)
    where
      go : (get_or p.cols k 0 ≡ get_or xs k 0) ⊎ ((single_of (get_or xs k 0) ≡ true) × (get_or p.cols k 0 ≡ 0))
          → (get_or p.cols k 0 ≡ 2 ^ lowest_of (get_or p.cols k 0)) × In (lowest_of (get_or p.cols k 0)) Q × (lowest_of (get_or p.cols k 0) < 20)
      go (inl h) = subst (λ (x : ℕ). (x ≡ 2 ^ lowest_of x) × In (lowest_of x) Q × (lowest_of x < 20)) (sym h) (f k (ap single_of (sym h) ∙ e))
      go (inr h) = absurd (never e (ap single_of h.1 ∙ single-zero))

  -- ---- one column

  strikes-one : (q k : ℕ) (xs : List ℕ) → SinglesIn Q xs → Strikes xs (strike_one q angles k xs)
  strikes-one q k xs f = go (lone_at q (get_or xs k 0)) refl
    where
      go : (b : Bool) → lone_at q (get_or xs k 0) ≡ b → Strikes xs (strike_one q angles k xs)
      go true e =
          let s = lone-single q (get_or xs k 0) e in
          let g = f k s.0 in
          subst (Strikes xs) (sym (strike-yes q angles k xs e))
          (record {
            lays = laying-strike near Q angles xs k q (within k s.0 (dec_lt k (length xs))) (g.0 ∙ ap (λ (i : ℕ). 2 ^ i) s.1) (subst (λ (i : ℕ). In i Q) s.1 g.1);
            cnots = cnots-rotation q (get_or angles k 0);
            each = λ j. at j s.0 (ℕ_discrete k j);
          })
        where
          within : (k : ℕ) → single_of (get_or xs k 0) ≡ true → Dec (k < length xs) → k < length xs
          within k s (yes l) = l
          within k s (no l) = absurd (never s (ap single_of (get_or-eq_default xs 0 (omega arith)) ∙ single-zero))

          at : (j : ℕ) → single_of (get_or xs k 0) ≡ true → Dec (k ≡ j) → (get_or (set xs k 0) j 0 ≡ get_or xs j 0) ⊎ ((single_of (get_or xs j 0) ≡ true) × (get_or (set xs k 0) j 0 ≡ 0))
          at j s (yes d) = inr (subst (λ (i : ℕ). (single_of (get_or xs i 0) ≡ true) × (get_or (set xs k 0) i 0 ≡ 0)) d (s, get_or-set_same xs k 0 0 (within k s (dec_lt k (length xs)))))
          at j s (no d) = inl (get_or-set_other xs k j 0 0 (λ e. d (sym e)))
      go false e = subst (Strikes xs) (sym (strike-no q angles k xs e)) (strikes-idle xs)

  -- column k is struck where it is q alone, and no other is touched
  one-gone : (q k : ℕ) (xs : List ℕ) → lone_at q (get_or xs k 0) ≡ true → get_or (strike_one q angles k xs).cols k 0 ≡ 0
  one-gone q k xs e = ap (λ (p : Piece). get_or p.cols k 0) (strike-yes q angles k xs e) ∙ set-zero (dec_lt k (length xs))
    where
      set-zero : Dec (k < length xs) → get_or (set xs k 0) k 0 ≡ 0
      set-zero (yes l) = get_or-set_same xs k 0 0 l
      set-zero (no l) = get_or-eq_default (set xs k 0) 0 (omega (arith, length-set xs k 0))

  one-other : (q k j : ℕ) (xs : List ℕ) → j ≢ k → get_or (strike_one q angles k xs).cols j 0 ≡ get_or xs j 0
  one-other q k j xs ne = go (lone_at q (get_or xs k 0)) refl
    where
      go : (b : Bool) → lone_at q (get_or xs k 0) ≡ b → get_or (strike_one q angles k xs).cols j 0 ≡ get_or xs j 0
      go true e = ap (λ (p : Piece). get_or p.cols j 0) (strike-yes q angles k xs e) ∙ get_or-set_other xs k j 0 0 ne
      go false e = ap (λ (p : Piece). get_or p.cols j 0) (strike-no q angles k xs e)

  -- ---- a row of columns

  row_step : (d k q : ℕ) (xs : List ℕ) → strike_row (suc d) k q angles xs ≡ followed_by (strike_one q angles k xs) (λ ys. strike_row d (k + 1) q angles ys)
  unfolding strike_row
  row_step d k q xs = refl

  row_zero : (k q : ℕ) (xs : List ℕ) → strike_row 0 k q angles xs ≡ idle xs
  unfolding strike_row
  row_zero k q xs = refl

  strikes-row : (d k q : ℕ) (xs : List ℕ) → SinglesIn Q xs → Strikes xs (strike_row d k q angles xs)
  strikes-row zero k q xs f = subst (Strikes xs) (sym (row_zero k q xs)) (strikes-idle xs)
  strikes-row (suc d) k q xs f =
      let a = strikes-one q k xs f in
      subst (Strikes xs) (sym (row_step d k q xs))
      (strikes-then xs (strike_one q angles k xs) (λ ys. strike_row d (k + 1) q angles ys) a (strikes-row d (k + 1) q (strike_one q angles k xs).cols (fit-after a f)))

  row-gone : (d k q : ℕ) (xs : List ℕ) → SinglesIn Q xs → (j : ℕ) → k ≤ j → j < k + d → lone_at q (get_or xs j 0) ≡ true → get_or (strike_row d k q angles xs).cols j 0 ≡ 0
  unfolding followed_by
  row-gone zero k q xs f j l h e = absurd (omega arith)
  row-gone (suc d) k q xs f j l h e =
      ap (λ (p : Piece). get_or p.cols j 0) (row_step d k q xs)
      ∙ go (ℕ_discrete k j) (row-gone d (k + 1) q ys (fit-after a f) j)
    where
      a : Strikes xs (strike_one q angles k xs)
      a = strikes-one q k xs f

      ys : List ℕ
      ys = (strike_one q angles k xs).cols

      go : Dec (k ≡ j) → (k + 1 ≤ j → j < k + 1 + d → lone_at q (get_or ys j 0) ≡ true → get_or (strike_row d (k + 1) q angles ys).cols j 0 ≡ 0) → get_or (strike_row d (k + 1) q angles ys).cols j 0 ≡ 0
      go (yes i) ih =
          stays (strikes-row d (k + 1) q ys (fit-after a f)) j
          (subst (λ (i : ℕ). get_or ys i 0 ≡ 0) i (one-gone q k xs (subst (λ (i : ℕ). lone_at q (get_or xs i 0) ≡ true) (sym i) e)))
      go (no ne) ih = ih (omega arith) (omega arith) (ap (lone_at q) (one-other q k j xs (λ i. ne (sym i))) ∙ e)

  -- ---- all qubits

  from_zero : (q : ℕ) (xs : List ℕ) → strike_from 0 q angles xs ≡ idle xs
  unfolding strike_from
  from_zero q xs = refl

  strikes-from : (d q : ℕ) (xs : List ℕ) → SinglesIn Q xs → Strikes xs (strike_from d q angles xs)
  strikes-from zero q xs f = subst (Strikes xs) (sym (from_zero q xs)) (strikes-idle xs)
  strikes-from (suc d) q xs f =
      let a = strikes-row (length xs) 0 q xs f in
      subst (Strikes xs) (sym (from_step angles d q xs))
      (strikes-then xs (strike_row (length xs) 0 q angles xs) (λ ys. strike_from d (q + 1) angles ys) a (strikes-from d (q + 1) (strike_row (length xs) 0 q angles xs).cols (fit-after a f)))

  from-gone : (d q : ℕ) (xs : List ℕ) → SinglesIn Q xs → (j : ℕ) → single_of (get_or xs j 0) ≡ true → q ≤ lowest_of (get_or xs j 0) → lowest_of (get_or xs j 0) < q + d → get_or (strike_from d q angles xs).cols j 0 ≡ 0
  unfolding followed_by
  from-gone zero q xs f j s l h = absurd (omega arith)
  from-gone (suc d) q xs f j s l h =
      ap (λ (p : Piece). get_or p.cols j 0) (from_step angles d q xs)
      ∙ go (ℕ_discrete (lowest_of (get_or xs j 0)) q) (a.each j) (from-gone d (q + 1) ys (fit-after a f) j)
    where
      a : Strikes xs (strike_row (length xs) 0 q angles xs)
      a = strikes-row (length xs) 0 q xs f

      ys : List ℕ
      ys = (strike_row (length xs) 0 q angles xs).cols

      inside : Dec (j < length xs) → j < length xs
      inside (yes i) = i
      inside (no i) = absurd (never s (ap single_of (get_or-eq_default xs 0 (omega arith)) ∙ single-zero))

      go : Dec (lowest_of (get_or xs j 0) ≡ q) → (get_or ys j 0 ≡ get_or xs j 0) ⊎ ((single_of (get_or xs j 0) ≡ true) × (get_or ys j 0 ≡ 0))
          → (single_of (get_or ys j 0) ≡ true → q + 1 ≤ lowest_of (get_or ys j 0) → lowest_of (get_or ys j 0) < q + 1 + d → get_or (strike_from d (q + 1) angles ys).cols j 0 ≡ 0)
          → get_or (strike_from d (q + 1) angles ys).cols j 0 ≡ 0
      go (yes i) e ih =
          stays (strikes-from d (q + 1) ys (fit-after a f)) j
          (row-gone (length xs) 0 q xs f j (omega arith) (omega (arith, inside (dec_lt j (length xs)))) (lone-yes q (get_or xs j 0) s i))
      go (no ne) (inl e) ih = ih (ap single_of e ∙ s) (omega (arith, ap lowest_of e)) (omega (arith, ap lowest_of e))
      go (no ne) (inr e) ih = stays (strikes-from d (q + 1) ys (fit-after a f)) j e.1

  -- ---- what striking off comes to

  pub strikes-off : (xs : List ℕ) → SinglesIn Q xs → Strikes xs (strike_off angles xs)
  unfolding strike_off
  strikes-off xs f = strikes-from 20 0 xs f

  pub off-single : (xs : List ℕ) → SinglesIn Q xs → (k : ℕ) → single_of (get_or xs k 0) ≡ true → get_or (strike_off angles xs).cols k 0 ≡ 0
  unfolding strike_off
  off-single xs f k s = from-gone 20 0 xs f k s (omega arith) (omega (arith, (f k s).2))

  pub off-other : (xs : List ℕ) → SinglesIn Q xs → (k : ℕ) → single_of (get_or xs k 0) ≡ false → get_or (strike_off angles xs).cols k 0 ≡ get_or xs k 0
  off-other xs f k e = go ((strikes-off xs f).each k)
    where
      go : (get_or (strike_off angles xs).cols k 0 ≡ get_or xs k 0) ⊎ ((single_of (get_or xs k 0) ≡ true) × (get_or (strike_off angles xs).cols k 0 ≡ 0)) → get_or (strike_off angles xs).cols k 0 ≡ get_or xs k 0
      go (inl h) = h
      go (inr h) = absurd (never h.0 e)
