-- "A laid CNOT adds the target's row to the control's row in all columns not yet struck off" (document 01, "Steps from document 000"). A column struck off is 0, and stays 0.
use Rattle.std.specs.Prelude.{List, [], ◌∷◌, map, ℕ}
use Rattle.sets.specs.Columns.{turn}
use Rattle.gates.specs.declared.gate.Gate.TheVariants.{Cnot}
use Rattle.columns.specs.Pieces.{Piece, piece}

unfoldable pub turn_all : ℕ → ℕ → List ℕ → List ℕ
turn_all c t xs = map (turn c t) xs

-- a CNOT is laid
unfoldable pub lay_cnot : ℕ → ℕ → List ℕ → Piece
lay_cnot c t xs = piece (turn_all c t xs) (Cnot c t ∷ [])
