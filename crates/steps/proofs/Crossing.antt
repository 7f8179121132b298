-- The CNOTs of a ones step and the striking off behind them: a column is freed of r or struck off, and no column that is set aside is struck. Assumes nothing.
use mathlib.Core.Path.{◌≡◌, refl, sym, ap, ◌∙◌, subst}
use mathlib.Core.Logic.{◌≢◌, ◌⊎◌, inl, inr}
use mathlib.Core.Bool.{Bool, true, false}
use mathlib.Core.List.{List}
use Prim.Native.Nat.{ℕ, ◌+◌, ◌^◌, ◌≤◌, ◌<◌}
use native.Mathlib.Omega.{arith}
use native.Mathlib.Decide.{ℕ_discrete}
use lib.ListN.{get_or}
use Rattle.sets.specs.Bit.{bit, In, Sub}
use Rattle.sets.specs.Size.{single_of}
use Rattle.sets.specs.Columns.{turn}
use Rattle.sets.proofs.Bits.{bit-of-zero}
use Rattle.sets.proofs.Members.{in-lt}
use Rattle.sets.proofs.Turn.{turn-other, turn-same}
use Rattle.tallies.specs.Tally.{cnots_of}
use Rattle.chip.specs.Graph.{Near}
use Rattle.columns.specs.Pieces.{Piece, followed_by}
use Rattle.columns.specs.Turning.{lay_cnot}
use Rattle.columns.specs.Striking.{strike_off}
use Rattle.columns.specs.Terms.{Laying}
use Rattle.columns.proofs.Turns.{turn-all-at, cnot-is}
use Rattle.columns.proofs.Layings.{laying-then, laying-cnot}
use Rattle.columns.proofs.Strikes.{single-zero}
use Rattle.columns.proofs.Struck.{SinglesIn, fit_of, strikes-off, off-single, off-other}
use Rattle.steps.specs.Selection.{row_of}
use Rattle.steps.specs.Steps.{crossed, moved}
use Rattle.steps.proofs.Unfolding.{crossed-none, crossed-some}
use Rattle.steps.proofs.Apart.{Many, many-live, many-not-single, many-of, Reached, still, more, reached-trans, reached-live, reached-sub, reached-safe, safe-many}
use Rattle.steps.proofs.Splits.{never_true, row-some, row-none}
use Rattle.steps.proofs.Meets.{StepReady}
use Rattle.sets.proofs.Deciding.{never}
use Rattle.tallies.proofs.Tallies.{cnots-append, cnots-cnot}

module _ (near : List ℕ) (Q : ℕ) (angles : List ℕ) where
  -- a piece of at most b CNOTs inside Q
  pub record Crosses (b : ℕ) (xs : List ℕ) (p : Piece) : Type 0 where
    pub lays : Laying near Q angles xs p.laid p.cols
    pub cnots : cnots_of p.laid ≤ b
    pub each : (k : ℕ) → Reached Q (get_or xs k 0) (get_or p.cols k 0)

  crosses-then : (a b : ℕ) (xs : List ℕ) (p : Piece) (k : List ℕ → Piece) → Crosses a xs p → Crosses b p.cols (k p.cols) → Crosses (a + b) xs (followed_by p k)
  unfolding followed_by
  crosses-then a b xs p k c d =
      record {
        lays = laying-then near Q angles c.lays d.lays;
        cnots = omega (arith, cnots-append p.laid (k p.cols).laid, c.cnots, d.cnots);
        each = λ j. reached-trans (c.each j) (d.each j);
      }

  -- a column behind one CNOT
  cnot-at : (c t : ℕ) (xs : List ℕ) (k : ℕ) → get_or (lay_cnot c t xs).cols k 0 ≡ turn c t (get_or xs k 0)
  cnot-at c t xs k = ap (λ (p : Piece). get_or p.cols k 0) (cnot-is c t xs) ∙ turn-all-at c t xs k

  crosses-cnot : (xs : List ℕ) (c t : ℕ) → Q < 2 ^ 20 → Near near c t → In c Q → In t Q → c ≢ t → Crosses 1 xs (lay_cnot c t xs)
  crosses-cnot xs c t low n hc ht ne =
      subst (Crosses 1 xs) (sym (cnot-is c t xs))
      (record {
        lays = laying-cnot near Q angles xs c t low n hc ht ne;
        cnots = omega (arith, cnots-cnot c t);
        each = λ k. more c t (still refl) hc ht ne (turn-all-at c t xs k);
      })

-- what a ones step begins with
module _ (near : List ℕ) (Q : ℕ) (angles : List ℕ) (low : Q < 2 ^ 20) (r m : ℕ) (hr : In r Q) (hm : In m Q) (ne : r ≢ m) (to : Near near r m) (fro : Near near m r)
    (sel : List Bool) (xs : List ℕ) (ready : StepReady Q sel xs) (has_r : (k : ℕ) → get_or sel k false ≡ true → In r (get_or xs k 0)) (some : (k : ℕ) × (k < 256) × (get_or sel k false ≡ true)) where
  lr : r < 20
  lr = in-lt 20 Q r low hr

  lm : m < 20
  lm = in-lt 20 Q m low hm

  -- the columns behind the CNOTs
  record Freed (p : Piece) : Type 0 where
    pub crosses : Crosses near Q angles 2 xs p
    pub freed : (k : ℕ) × (k < 256) × (get_or sel k false ≡ true) × (bit (get_or p.cols k 0) r ≡ 0)

  clears : (x : ℕ) → In r x → In m x → bit (turn r m x) r ≡ 0
  clears x a b = turn-same x r m (omega (arith, lr)) ∙ omega (arith, a, b)

  once : (k : ℕ) × (k < 256) × (get_or sel k false ≡ true) × In m (get_or xs k 0) → Freed (lay_cnot r m xs)
  once w =
      let c = crosses-cnot near Q angles xs r m low to hr hm ne in
      record {
        crosses = record { lays = c.lays; cnots = omega (arith, c.cnots); each = c.each };
        freed = (w.0, w.1, w.2, ap (λ (y : ℕ). bit y r) (cnot-at near Q angles r m xs w.0) ∙ clears (get_or xs w.0 0) (has_r w.0 w.2) w.3);
      }

  twice : ((k : ℕ) → k < 256 → get_or sel k false ≡ true → bit (get_or xs k 0) m ≡ 0) → Freed (followed_by (lay_cnot m r xs) (lay_cnot r m))
  unfolding followed_by
  twice none =
      let a = crosses-cnot near Q angles xs m r low fro hm hr (λ e. ne (sym e)) in
      let ys : List ℕ = (lay_cnot m r xs).cols in
      let k : ℕ = some.0 in
      let x : ℕ = get_or xs k 0 in
      let y : ℕ = turn m r x in
      let hx : In r x = has_r k some.2 in
      let ym : In m y = turn-same x m r (omega (arith, lm)) ∙ omega (arith, none k some.1 some.2, hx) in
      let yr : In r y = turn-other x m r r (λ e. ne (sym e)) ∙ hx in
      record {
        crosses = crosses-then near Q angles 1 1 xs (lay_cnot m r xs) (lay_cnot r m) a (crosses-cnot near Q angles ys r m low to hr hm ne);
        freed = (
          k,
          some.1,
          some.2,
          ap (λ (w : ℕ). bit w r) (cnot-at near Q angles r m ys k ∙ ap (λ (w : ℕ). turn r m w) (cnot-at near Q angles m r xs k)) ∙ clears y yr ym,
        );
      }

  crossed-freed : Freed (crossed r m (row_of sel xs m) xs)
  crossed-freed = go (ℕ_discrete (row_of sel xs m) 0)
    where
      go : Dec (row_of sel xs m ≡ 0) → Freed (crossed r m (row_of sel xs m) xs)
      go (yes z) = subst Freed (sym (crossed-none r m (row_of sel xs m) xs z)) (twice (row-none sel xs m z))
      go (no n) = subst Freed (sym (crossed-some r m (row_of sel xs m) xs n)) (once (row-some sel xs m n))

  -- ---- behind the striking off

  pub record Crossed (p : Piece) : Type 0 where
    pub lays : Laying near Q angles xs p.laid p.cols
    pub cnots : cnots_of p.laid ≤ 2
    pub chosen : (k : ℕ) → get_or sel k false ≡ true → (get_or p.cols k 0 ≡ 0) ⊎ (Sub (get_or p.cols k 0) Q × Many (get_or p.cols k 0))
    pub aside : (k : ℕ) → get_or sel k false ≡ false → Reached Q (get_or xs k 0) (get_or p.cols k 0)
    pub freed : (k : ℕ) × (k < 256) × (get_or sel k false ≡ true) × (bit (get_or p.cols k 0) r ≡ 0)

  module _ (c : Piece) (f : Freed c) where
    abbrev ws : List ℕ
    ws = c.cols

    inside : (k : ℕ) → get_or sel k false ≡ true → Sub (get_or ws k 0) Q
    inside k e = reached-sub Q (f.crosses.each k) (λ i h. h) (ready.chosen k e).0

    alive : (k : ℕ) → get_or sel k false ≡ true → get_or ws k 0 ≢ 0
    alive k e = reached-live (f.crosses.each k) (many-live (get_or xs k 0) (ready.chosen k e).1)

    -- a column set aside is no column of one qubit
    not-single : (k : ℕ) → get_or sel k false ≡ false → single_of (get_or ws k 0) ≡ true → ⊥
    not-single k e s =
        let live : get_or ws k 0 ≢ 0 = λ z. never s (ap single_of z ∙ single-zero) in
        never s (many-not-single (get_or ws k 0) (safe-many Q (get_or ws k 0) (reached-safe (f.crosses.each k) (ready.aside k e)) live))

    fit : SinglesIn Q ws
    fit = fit_of Q ws low (λ k s. go k s (get_or sel k false) refl)
      where
        go : (k : ℕ) → single_of (get_or ws k 0) ≡ true → (b : Bool) → get_or sel k false ≡ b → Sub (get_or ws k 0) Q
        go k s true e = inside k e
        go k s false e = absurd (not-single k e s)

    abbrev ys : List ℕ
    ys = (strike_off angles ws).cols

    still-at : (k : ℕ) → (single_of (get_or ws k 0) ≡ true → ⊥) → get_or ys k 0 ≡ get_or ws k 0
    still-at k n = off-other near Q angles ws fit k (never_true (single_of (get_or ws k 0)) n)

    kept : (k : ℕ) → get_or sel k false ≡ true → (b : Bool) → single_of (get_or ws k 0) ≡ b → (get_or ys k 0 ≡ 0) ⊎ (Sub (get_or ys k 0) Q × Many (get_or ys k 0))
    kept k e true s = inl (off-single near Q angles ws fit k s)
    kept k e false s =
        let n : single_of (get_or ws k 0) ≡ true → ⊥ = λ t. never t s in
        inr (subst (λ (x : ℕ). Sub x Q × Many x) (sym (still-at k n)) (inside k e, many-of (get_or ws k 0) (alive k e) n))

    cleared : (k : ℕ) → bit (get_or ws k 0) r ≡ 0 → (b : Bool) → single_of (get_or ws k 0) ≡ b → bit (get_or ys k 0) r ≡ 0
    cleared k z true s = ap (λ (x : ℕ). bit x r) (off-single near Q angles ws fit k s) ∙ bit-of-zero r
    cleared k z false s = ap (λ (x : ℕ). bit x r) (still-at k (λ t. never t s)) ∙ z

    moved-of : Crossed (followed_by c (strike_off angles))
    unfolding followed_by
    moved-of =
        let s = strikes-off near Q angles ws fit in
        let w = f.freed in
        record {
          lays = laying-then near Q angles f.crosses.lays s.lays;
          cnots = omega (arith, cnots-append c.laid (strike_off angles ws).laid, f.crosses.cnots, s.cnots);
          chosen = λ k e. kept k e (single_of (get_or ws k 0)) refl;
          aside = λ k e. subst (Reached Q (get_or xs k 0)) (sym (still-at k (not-single k e))) (f.crosses.each k);
          freed = (w.0, w.1, w.2, cleared w.0 w.3 (single_of (get_or ws w.0 0)) refl);
        }

  pub moved-is : Crossed (moved angles r m (row_of sel xs m) xs)
  unfolding moved
  moved-is = moved-of (crossed r m (row_of sel xs m) xs) crossed-freed
