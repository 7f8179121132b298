-- Laying goes piece by piece: a piece changes the columns and lays gates (document 01, "Steps from document 000").
use Rattle.std.specs.Prelude.{List, [], ◌++◌, ℕ}
use Rattle.gates.specs.declared.gate.Gate.{Gate}
use Rattle.emitting.specs.Emit.{emit, emit_at}

-- what a piece comes to: the columns after it, and the gates that it laid
pub record Piece : Type 0 where
  pub cols : List ℕ
  pub laid : List Gate

abbrev pub piece : List ℕ → List Gate → Piece
piece xs gs = record { cols = xs; laid = gs }

-- "A step without columns does nothing"
abbrev pub idle : List ℕ → Piece
idle xs = piece xs []

-- p, and from its columns on what k lays
unfoldable pub followed_by : Piece → (List ℕ → Piece) → Piece
followed_by p k = piece (k p.cols).cols (p.laid ++ (k p.cols).laid)

-- the lent memory behind a piece: columns, records, the next place
pub record Memory : Type 0 where
  pub cols : List ℕ
  pub out : List ℕ
  pub at : ℕ

abbrev pub held : List ℕ → List ℕ → ℕ → Memory
held xs o a = record { cols = xs; out = o; at = a }

-- what the piece p leaves where its gates go to `out` from `at` on
unfoldable pub wrote : List ℕ → ℕ → Piece → Memory
wrote out at p = held p.cols (emit out at p.laid) (emit_at out at p.laid)
