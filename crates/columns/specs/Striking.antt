-- "A column of one qubit is laid at once as a rotation there and struck off, lowest qubit first" (document 01, "Steps from document 000").
use Rattle.std.specs.Prelude.{Bool, List, [], ◌∷◌, ℕ, zero, suc, ◌+◌, eqb, length, get_or, set}
use Rattle.std.specs.Int.Bits.{bit_or}
use Rattle.sets.specs.Pick.{pick, both}
use Rattle.sets.specs.Size.{single_of, lowest_of}
use Rattle.gates.specs.Limits.{most_qubits}
use Rattle.gates.specs.declared.gate.Gate.TheVariants.{Rotation}
use Rattle.columns.specs.Pieces.{Piece, piece, idle, followed_by}

-- the column x is the qubit q alone
unfoldable pub lone_at : ℕ → ℕ → Bool
lone_at q x = both (single_of x) (eqb (lowest_of x) q)

-- the column k is laid as a rotation on q and struck off, where it is q alone
unfoldable pub strike_one : ℕ → List ℕ → ℕ → List ℕ → Piece
strike_one q angles k xs =
    pick (lone_at q (get_or xs k 0)) (piece (set xs k 0) (Rotation q (get_or angles k 0) ∷ [])) (idle xs)

-- of d columns from k on, those that are q alone
unfoldable pub strike_row : ℕ → ℕ → ℕ → List ℕ → List ℕ → Piece
strike_row zero k q angles xs = idle xs
strike_row (suc d) k q angles xs = followed_by (strike_one q angles k xs) (λ ys. strike_row d (k + 1) q angles ys)

-- for d qubits from q on, "lowest qubit first", in all columns
unfoldable pub strike_from : ℕ → ℕ → List ℕ → List ℕ → Piece
strike_from zero q angles xs = idle xs
strike_from (suc d) q angles xs = followed_by (strike_row (length xs) 0 q angles xs) (λ ys. strike_from d (q + 1) angles ys)

unfoldable pub strike_off : List ℕ → List ℕ → Piece
strike_off angles xs = strike_from most_qubits 0 angles xs

-- the column x where it is of one qubit, and the empty set where it is not
unfoldable pub alone_of : ℕ → ℕ
alone_of x = pick (single_of x) x 0

-- the qubits that are columns by themselves
unfoldable pub singles_of : List ℕ → ℕ
singles_of [] = 0
singles_of (x ∷ xs) = bit_or (alone_of x) (singles_of xs)
