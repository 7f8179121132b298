-- Nearest first: the second way of laying an island's terms (our own; docs/LAYING.md; document 01 allows it: "another is allowed if it meets demands 2 and 3").
use Rattle.std.specs.Prelude.{List, ℕ, zero, suc, ltb, get_or}
use Rattle.sets.specs.Pick.{pick}
use Rattle.gates.specs.Limits.{most_parities}
use Rattle.columns.specs.Pieces.{Piece, idle, followed_by}
use Rattle.columns.specs.Striking.{strike_off}
use Rattle.gathering.specs.Gather.{gather_of}
use Rattle.nearest.specs.Choice.{chosen, far}
use Rattle.nearest.specs.Moves.{lay_moves}

-- the column that was chosen is gathered at the qubit that was chosen
unfoldable pub gather_next : List ℕ → List ℕ → ℕ → ℕ → ℕ → List ℕ → Piece
gather_next near angles Q k v xs = lay_moves angles (gather_of near Q v (get_or xs k 0)) xs

-- "while a column is left", for n rounds at most: each round strikes off the column that it gathers
unfoldable pub rounds : ℕ → List ℕ → List ℕ → ℕ → List ℕ → Piece
rounds zero near angles Q xs = idle xs
rounds (suc n) near angles Q xs =
    let b = chosen near Q xs in
    let more = followed_by (gather_next near angles Q b.column b.qubit xs) (λ ys. rounds n near angles Q ys) in
    pick (ltb b.moves far) more (idle xs)

-- "Terms are columns over the island's qubits": columns of one qubit first, then the rounds
unfoldable pub nearest_for : List ℕ → ℕ → List ℕ → List ℕ → Piece
nearest_for near Q ps angles = followed_by (strike_off angles ps) (λ xs. rounds most_parities near angles Q xs)
