-- Pieces of laying one after another, and what they leave in the lent memory. Assumes nothing.
use mathlib.Core.Path.{◌≡◌, ap, ◌∙◌}
use mathlib.Core.List.{List}
use Prim.Native.Nat.{ℕ}
use Rattle.emitting.specs.Emit.{emit, emit_at}
use Rattle.columns.specs.Pieces.{Piece, idle, followed_by, Memory, held, wrote}
use Rattle.emitting.proofs.Emitting.{emit-none, emit-at-none, emit-append, emit-at-append}

-- nothing laid
pub wrote_none : (out : List ℕ) (at : ℕ) (xs : List ℕ) → held xs out at ≡ wrote out at (idle xs)
unfolding wrote
wrote_none out at xs = rw (emit-none out at, emit-at-none out at)

module _ (out : List ℕ) (at : ℕ) (p : Piece) (k : List ℕ → Piece) where
  wrote_then : wrote (emit out at p.laid) (emit_at out at p.laid) (k p.cols) ≡ wrote out at (followed_by p k)
  unfolding wrote followed_by
  wrote_then = rw (emit-append out at p.laid (k p.cols).laid, emit-at-append out at p.laid (k p.cols).laid)

  -- p left its memory, and k went on from there
  pub wrote_on : {xs o : List ℕ} {a : ℕ} {m : Memory} → held xs o a ≡ wrote out at p → m ≡ wrote o a (k xs) → m ≡ wrote out at (followed_by p k)
  unfolding wrote
  wrote_on e h = h ∙ ap (λ (w : Memory). wrote w.out w.at (k w.cols)) e ∙ wrote_then

-- the records and the next place that p left
module _ (out : List ℕ) (at : ℕ) (p : Piece) {xs o : List ℕ} {a : ℕ} (e : held xs o a ≡ wrote out at p) where
  pub wrote-out : o ≡ emit out at p.laid
  unfolding wrote
  wrote-out = ap (λ (m : Memory). m.out) e

  pub wrote_at : a ≡ emit_at out at p.laid
  unfolding wrote
  wrote_at = ap (λ (m : Memory). m.at) e

pub held-is : {xs o xs' o' : List ℕ} {a a' : ℕ} → xs ≡ xs' → o ≡ o' → a ≡ a' → held xs o a ≡ held xs' o' a'
held-is ex eo ea = rw (ex, eo, ea)
