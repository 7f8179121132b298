-- Moves laid one after another. Assumes nothing.
use mathlib.Core.Path.{◌≡◌, refl, sym, ap, ◌∙◌}
use mathlib.Core.List.{List, [], ◌∷◌}
use Prim.Native.Nat.{ℕ, ◌+◌, ◌≤◌, ◌<◌}
use native.Mathlib.Numerals.{add-one}
use lib.ListN.{get_or, length, drop, drop_of_length-le}
use lib.Seq.{drop-cons}
use Rattle.gates.specs.declared.gate.Gate.{Gate}
use Rattle.gates.specs.declared.gate.Gate.TheVariants.{Cnot}
use Rattle.columns.specs.Pieces.{idle, followed_by, Memory, held, wrote}
use Rattle.columns.specs.Turning.{lay_cnot}
use Rattle.columns.specs.Striking.{strike_off}
use Rattle.gathering.specs.Gather.{gather_of, cnots_of, moves_of, moves_in}
use Rattle.gathering.specs.declared.gather.Move.{Move}
use Rattle.gathering.specs.declared.gather.Moves.{Moves}
use Rattle.gathering.proofs.GatherCode.{gather-back}
use Rattle.columns.proofs.Piecing.{wrote_none, wrote_on}
use Rattle.nearest.specs.Moves.{lay_move, lay_moves}
use Rattle.nearest.specs.Nearest.{gather_next}

-- ---- moves one after another

pub move-wrote : (angles : List ℕ) (c t : ℕ) (xs out : List ℕ) (at : ℕ) {ys o : List ℕ} {a : ℕ} {m : Memory} → held ys o a ≡ wrote out at (lay_cnot c t xs)
    → m ≡ wrote o a (strike_off angles ys) → m ≡ wrote out at (lay_move angles c t xs)
unfolding lay_move
move-wrote angles c t xs out at e h = wrote_on out at (lay_cnot c t xs) (strike_off angles) e h

module _ (angles : List ℕ) where
  pub moves-none : (xs : List ℕ) → lay_moves angles [] xs ≡ idle xs
  unfolding lay_moves
  moves-none xs = refl

  pub moves-cons : (c t : ℕ) (gs : List Gate) (xs : List ℕ) → lay_moves angles (Cnot c t ∷ gs) xs ≡ followed_by (lay_move angles c t xs) (λ ys. lay_moves angles gs ys)
  unfolding lay_moves
  moves-cons c t gs xs = refl

module _ (angles : List ℕ) (ms : List Move) where
  pub move-next : (i : ℕ) (d : Move) (xs out : List ℕ) (at : ℕ) (ys out' : List ℕ) (a : ℕ) → i < length ms → held ys out' a ≡ wrote out at (lay_move angles (get_or ms i d).to (get_or ms i d).by xs)
      → wrote out' a (lay_moves angles (cnots_of (drop (i + 1) ms)) ys) ≡ wrote out at (lay_moves angles (cnots_of (drop i ms)) xs)
  move-next i d xs out at ys out' a l e =
      let m : Move = get_or ms i d in
      let rest : List Gate = cnots_of (drop (i + 1) ms) in
      wrote_on out at (lay_move angles m.to m.by xs) (λ ys. lay_moves angles rest ys) e refl
      ∙ ap (wrote out at) (sym (moves-cons angles m.to m.by rest xs) ∙ ap (λ (l : List Move). lay_moves angles (cnots_of l) xs) (ap (λ (k : ℕ). m ∷ drop k ms) (add-one i) ∙ sym (drop-cons ms i d l)))

  pub move-end : (i : ℕ) (xs out : List ℕ) (at : ℕ) → length ms ≤ i → held xs out at ≡ wrote out at (lay_moves angles (cnots_of (drop i ms)) xs)
  move-end i xs out at h =
      wrote_none out at xs ∙ ap (wrote out at) (sym (moves-none angles xs) ∙ ap (λ (l : List Move). lay_moves angles (cnots_of l) xs) (sym (drop_of_length-le ms h)))

-- ---- a gathering is laid

pub next-wrote : (near angles : List ℕ) (Q k v : ℕ) (xs out : List ℕ) (at x : ℕ) (m : Moves) (ms : List Move) {w : Memory} → x ≡ get_or xs k 0 → m ≡ moves_in (gather_of near Q v x) → ms ≡ moves_of m
    → w ≡ wrote out at (lay_moves angles (cnots_of ms) xs) → w ≡ wrote out at (gather_next near angles Q k v xs)
unfolding gather_next
next-wrote near angles Q k v xs out at x m ms ex em es h =
    h ∙ ap (λ (g : List Gate). wrote out at (lay_moves angles g xs)) (ap cnots_of es ∙ ap (λ (m : Moves). cnots_of (moves_of m)) em ∙ gather-back near Q v x ∙ ap (gather_of near Q v) ex)
