-- Moves are laid one after another: "A column of one qubit is laid at once as a rotation there and struck off" (document 01, "Steps from document 000").
use Rattle.std.specs.Prelude.{List, [], ◌∷◌, ℕ}
use Rattle.gates.specs.declared.gate.Gate.{Gate}
use Rattle.gates.specs.declared.gate.Gate.TheVariants.{Cnot, Rotation, X, Bad}
use Rattle.columns.specs.Pieces.{Piece, idle, followed_by}
use Rattle.columns.specs.Turning.{lay_cnot}
use Rattle.columns.specs.Striking.{strike_off}

-- one move, "c by t": CNOT c,t; what becomes a column of one qubit is struck off before the next move
unfoldable pub lay_move : List ℕ → ℕ → ℕ → List ℕ → Piece
lay_move angles c t xs = followed_by (lay_cnot c t xs) (strike_off angles)

-- the moves of a gathering, all of them and in their order
unfoldable pub lay_moves : List ℕ → List Gate → List ℕ → Piece
lay_moves angles [] xs = idle xs
lay_moves angles (Cnot c t ∷ gs) xs = followed_by (lay_move angles c t xs) (λ ys. lay_moves angles gs ys)
lay_moves angles (Rotation q a ∷ gs) xs = lay_moves angles gs xs
lay_moves angles (X q ∷ gs) xs = lay_moves angles gs xs
lay_moves angles (Bad ∷ gs) xs = lay_moves angles gs xs
