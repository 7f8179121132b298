-- What a move, and the moves of a gathering, do to the columns: what is due is kept, no column of one qubit is left, and the column that is gathered is struck off. Assumes nothing.
use mathlib.Core.Path.{◌≡◌, refl, sym, ap, ◌∙◌, subst}
use mathlib.Core.Logic.{◌⊎◌, inl, inr}
use mathlib.Core.Bool.{Bool, true, false}
use mathlib.Core.List.{List, [], ◌∷◌}
use Prim.Native.Nat.{ℕ, suc, ◌+◌, ◌^◌, ◌<◌}
use native.Mathlib.Omega.{arith}
use lib.ListN.{length, get_or}
use Rattle.sets.specs.Bit.{Sub}
use Rattle.sets.specs.Size.{single_of}
use Rattle.sets.specs.Columns.{turn}
use Rattle.sets.proofs.Bits.{bit-of-zero}
use Rattle.sets.proofs.Turn.{turn-sub, turn-none}
use Rattle.sets.proofs.Words.{single-pow}
use Rattle.gates.specs.declared.gate.Gate.{Gate}
use Rattle.gates.specs.declared.gate.Gate.TheVariants.{Cnot, Rotation, X, Bad}
use Rattle.sets.specs.Lists.{All}
use Rattle.tallies.specs.Tally.{cnots_of}
use Rattle.columns.specs.Pieces.{Piece, piece, idle, followed_by}
use Rattle.columns.specs.Turning.{turn_all}
use Rattle.columns.specs.Striking.{strike_off}
use Rattle.columns.specs.Terms.{Laying}
use Rattle.chip.specs.Inside.{On, Coupled}
use Rattle.gathering.specs.Gather.{turns}
use Rattle.columns.proofs.Turns.{cnot-is, turn-all-at}
use Rattle.columns.proofs.Strikes.{single-zero}
use Rattle.columns.proofs.Layings.{laying-none, laying-then, laying-cnot}
use Rattle.columns.proofs.Struck.{SinglesIn, fit_of, Strikes, strikes-off, off-single, off-other}
use Rattle.nearest.specs.Moves.{lay_move, lay_moves}
use Rattle.nearest.proofs.Moving.{moves-none, moves-cons}
use Rattle.sets.proofs.Deciding.{never}
use Rattle.tallies.proofs.Tallies.{cnots-none, cnots-append, cnots-cnot}

none-sub : (Q : ℕ) → Sub 0 Q
none-sub Q i h = absurd (omega (arith, h, bit-of-zero i))

-- every column lies in Q
abbrev pub ColumnsIn : ℕ → List ℕ → Type 0
ColumnsIn Q xs = (k : ℕ) → Sub (get_or xs k 0) Q

-- and none is of one qubit
pub record RoundReady (Q : ℕ) (xs : List ℕ) : Type 0 where
  pub part : ColumnsIn Q xs
  pub many : (k : ℕ) → single_of (get_or xs k 0) ≡ false

module _ (near : List ℕ) (Q : ℕ) (angles : List ℕ) (low : Q < 2 ^ 20) where
  -- ---- striking off

  pub fits : (xs : List ℕ) → ColumnsIn Q xs → SinglesIn Q xs
  fits xs w = fit_of Q xs low (λ k e. w k)

  pub strike-ready : (xs : List ℕ) → ColumnsIn Q xs → RoundReady Q (strike_off angles xs).cols
  strike-ready xs w = record { part = λ k. part k ((strikes-off near Q angles xs (fits xs w)).each k); many = λ k. many k (single_of (get_or xs k 0)) refl }
    where
      ys : List ℕ
      ys = (strike_off angles xs).cols

      part : (k : ℕ) → (get_or ys k 0 ≡ get_or xs k 0) ⊎ ((single_of (get_or xs k 0) ≡ true) × (get_or ys k 0 ≡ 0)) → Sub (get_or ys k 0) Q
      part k (inl e) = subst (λ (x : ℕ). Sub x Q) (sym e) (w k)
      part k (inr e) = subst (λ (x : ℕ). Sub x Q) (sym e.1) (none-sub Q)

      many : (k : ℕ) (b : Bool) → single_of (get_or xs k 0) ≡ b → single_of (get_or ys k 0) ≡ false
      many k true e = ap single_of (off-single near Q angles xs (fits xs w) k e) ∙ single-zero
      many k false e = ap single_of (off-other near Q angles xs (fits xs w) k e) ∙ e

  -- ---- one move

  -- a piece of n CNOTs
  pub record MovedBy (xs : List ℕ) (n : ℕ) (p : Piece) : Type 0 where
    pub lays : Laying near Q angles xs p.laid p.cols
    pub cnots : cnots_of p.laid ≡ n
    pub ready : RoundReady Q p.cols
    pub stays : (k : ℕ) → get_or xs k 0 ≡ 0 → get_or p.cols k 0 ≡ 0

  module _ (c t : ℕ) (o : On near Q c t) (xs : List ℕ) (w : ColumnsIn Q xs) where
    turned-within : ColumnsIn Q (turn_all c t xs)
    turned-within k = subst (λ (x : ℕ). Sub x Q) (sym (turn-all-at c t xs k)) (turn-sub Q (get_or xs k 0) c t o.0 (w k))

    move-is : lay_move angles c t xs ≡ followed_by (piece (turn_all c t xs) (Cnot c t ∷ [])) (strike_off angles)
    unfolding lay_move
    move-is = ap (λ (p : Piece). followed_by p (strike_off angles)) (cnot-is c t xs)

    struck : Strikes near Q angles (turn_all c t xs) (strike_off angles (turn_all c t xs))
    struck = strikes-off near Q angles (turn_all c t xs) (fits (turn_all c t xs) turned-within)

    -- a column is struck off, or turned
    pub move-each : (k : ℕ) → (get_or (lay_move angles c t xs).cols k 0 ≡ 0) ⊎ (get_or (lay_move angles c t xs).cols k 0 ≡ turn c t (get_or xs k 0))
    unfolding followed_by
    move-each k = subst (λ (p : Piece). (get_or p.cols k 0 ≡ 0) ⊎ (get_or p.cols k 0 ≡ turn c t (get_or xs k 0))) (sym move-is) (go (struck.each k))
      where
        ys : List ℕ
        ys = (strike_off angles (turn_all c t xs)).cols

        go : (get_or ys k 0 ≡ get_or (turn_all c t xs) k 0) ⊎ ((single_of (get_or (turn_all c t xs) k 0) ≡ true) × (get_or ys k 0 ≡ 0)) → (get_or ys k 0 ≡ 0) ⊎ (get_or ys k 0 ≡ turn c t (get_or xs k 0))
        go (inl e) = inr (e ∙ turn-all-at c t xs k)
        go (inr e) = inl e.1

    pub move-moved : MovedBy xs 1 (lay_move angles c t xs)
    unfolding followed_by
    move-moved =
        subst (MovedBy xs 1) (sym move-is)
        (record {
          lays = laying-then near Q angles (laying-cnot near Q angles xs c t low o.3 o.0 o.1 o.2) struck.lays;
          cnots = omega (arith, cnots-append (Cnot c t ∷ []) (strike_off angles (turn_all c t xs)).laid, cnots-cnot c t, struck.cnots);
          ready = strike-ready (turn_all c t xs) turned-within;
          stays = λ k z. go k z (struck.each k);
        })
      where
        ys : List ℕ
        ys = (strike_off angles (turn_all c t xs)).cols

        go : (k : ℕ) → get_or xs k 0 ≡ 0 → (get_or ys k 0 ≡ get_or (turn_all c t xs) k 0) ⊎ ((single_of (get_or (turn_all c t xs) k 0) ≡ true) × (get_or ys k 0 ≡ 0)) → get_or ys k 0 ≡ 0
        go k z (inl e) = e ∙ turn-all-at c t xs k ∙ ap (turn c t) z ∙ turn-none c t
        go k z (inr e) = e.1

  -- ---- moves

  pub moved_none : (xs : List ℕ) → RoundReady Q xs → MovedBy xs 0 (idle xs)
  moved_none xs r = record { lays = laying-none near Q angles xs; cnots = cnots-none; ready = r; stays = λ k z. z }

  pub moved_then : (xs : List ℕ) (m n : ℕ) (p : Piece) (k : List ℕ → Piece) → MovedBy xs m p → MovedBy p.cols n (k p.cols) → MovedBy xs (m + n) (followed_by p k)
  unfolding followed_by
  moved_then xs m n p k a b =
      record {
        lays = laying-then near Q angles a.lays b.lays;
        cnots = omega (arith, cnots-append p.laid (k p.cols).laid, a.cnots, b.cnots);
        ready = b.ready;
        stays = λ j z. b.stays j (a.stays j z);
      }

  pub moves-moved : (L : List Gate) → All (Coupled near Q) L → (xs : List ℕ) → RoundReady Q xs → MovedBy xs (length L) (lay_moves angles L xs)
  unfolding All
  moves-moved [] h xs r = subst (MovedBy xs 0) (sym (moves-none angles xs)) (moved_none xs r)
  moves-moved (Cnot c t ∷ gs) h xs r =
      let a = move-moved c t h.0 xs r.part in
      subst (MovedBy xs (suc (length gs))) (sym (moves-cons angles c t gs xs))
      (subst (λ (n : ℕ). MovedBy xs n (followed_by (lay_move angles c t xs) (λ ys. lay_moves angles gs ys))) (one_more (length gs))
      (moved_then xs 1 (length gs) (lay_move angles c t xs) (λ ys. lay_moves angles gs ys) a (moves-moved gs h.1 (lay_move angles c t xs).cols a.ready)))
    where
      one_more : (n : ℕ) → 1 + n ≡ suc n
      one_more n = omega arith
  moves-moved (Rotation q a ∷ gs) h xs r = absurd h.0
  moves-moved (X q ∷ gs) h xs r = absurd h.0
  moves-moved (Bad ∷ gs) h xs r = absurd h.0

  -- column k is x unless it is struck off; moves that bring x to one qubit strike it off
  pub moves-gone : (L : List Gate) → All (Coupled near Q) L → (xs : List ℕ) → RoundReady Q xs → (k v x : ℕ) → (get_or xs k 0 ≡ 0) ⊎ (get_or xs k 0 ≡ x) → turns L x ≡ 2 ^ v
      → get_or (lay_moves angles L xs).cols k 0 ≡ 0
  unfolding followed_by All
  moves-gone [] h xs r k v x s e = ap (λ (p : Piece). get_or p.cols k 0) (moves-none angles xs) ∙ go s
    where
      go : (get_or xs k 0 ≡ 0) ⊎ (get_or xs k 0 ≡ x) → get_or xs k 0 ≡ 0
      go (inl z) = z
      go (inr i) = absurd (never (ap single_of (i ∙ e) ∙ single-pow v) (r.many k))
  moves-gone (Cnot c t ∷ gs) h xs r k v x s e =
      ap (λ (p : Piece). get_or p.cols k 0) (moves-cons angles c t gs xs)
      ∙ moves-gone gs h.1 (lay_move angles c t xs).cols a.ready k v (turn c t x) (go s (move-each c t h.0 xs r.part k)) e
    where
      a : MovedBy xs 1 (lay_move angles c t xs)
      a = move-moved c t h.0 xs r.part

      ys : List ℕ
      ys = (lay_move angles c t xs).cols

      go : (get_or xs k 0 ≡ 0) ⊎ (get_or xs k 0 ≡ x) → (get_or ys k 0 ≡ 0) ⊎ (get_or ys k 0 ≡ turn c t (get_or xs k 0)) → (get_or ys k 0 ≡ 0) ⊎ (get_or ys k 0 ≡ turn c t x)
      go (inl z) m = inl (a.stays k z)
      go (inr i) (inl z) = inl z
      go (inr i) (inr j) = inr (j ∙ ap (λ (y : ℕ). turn c t y) i)
  moves-gone (Rotation q a ∷ gs) h xs r k v x s e = absurd h.0
  moves-gone (X q ∷ gs) h xs r k v x s e = absurd h.0
  moves-gone (Bad ∷ gs) h xs r k v x s e = absurd h.0
