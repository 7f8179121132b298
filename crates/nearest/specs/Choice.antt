-- Which column is gathered next, and at which of its qubits: the nearest (our own choice; docs/LAYING.md).
use Rattle.std.specs.Prelude.{Bool, List, ℕ, zero, suc, ◌+◌, eqb, ltb, length, get_or, Option, None, Some}
use Rattle.sets.specs.Pick.{pick}
use Rattle.sets.specs.Bit.{has}
use Rattle.sets.specs.Size.{size_of}
use Rattle.gates.specs.Limits.{most_qubits}
use Rattle.gathering.specs.Gather.{moves_at, left_at, gather_of, most_moves}
use Rattle.nearest.specs.declared.choice.Choice.{Choice}
use Rattle.nearest.specs.declared.choice.Out.{Out}

abbrev pub choice : ℕ → ℕ → ℕ → Choice
choice k v n = record { column = k; qubit = v; moves = n }

-- more moves than any gathering has
abbrev pub far : ℕ
far = most_moves + 1

-- b where it has fewer moves; "the first in a tie"
unfoldable pub nearer : Choice → Choice → Choice
nearer a b = pick (ltb b.moves a.moves) b a

-- column k, which is x, gathered at v
unfoldable pub gathered : List ℕ → ℕ → ℕ → ℕ → ℕ → Choice
gathered near Q k x v = choice k v (length (gather_of near Q v x))

-- the nearer of b and that, where v is in x
unfoldable pub tried_at : List ℕ → ℕ → ℕ → ℕ → ℕ → Choice → Choice
tried_at near Q k x v b = pick (has x v) (nearer b (gathered near Q k x v)) b

-- the nearest of the members of x among the d qubits from v on, where b is the nearest so far
unfoldable pub over_qubits : List ℕ → ℕ → ℕ → ℕ → ℕ → ℕ → Choice → Choice
over_qubits near Q k x zero v b = b
over_qubits near Q k x (suc d) v b = over_qubits near Q k x d (v + 1) (tried_at near Q k x v b)

-- and of the d columns from k on
unfoldable pub over_columns : List ℕ → ℕ → List ℕ → ℕ → ℕ → Choice → Choice
over_columns near Q xs zero k b = b
over_columns near Q xs (suc d) k b = over_columns near Q xs d (k + 1) (over_qubits near Q k (get_or xs k 0) most_qubits 0 b)

-- "over the columns in order and the members v of each ascending, the (column, v) whose gathering has fewest moves, the first in a tie"; where no column is left it is far
unfoldable pub chosen : List ℕ → ℕ → List ℕ → Choice
chosen near Q xs = over_columns near Q xs (length xs) 0 (choice 0 0 far)

-- the choice, where a column is left
abbrev pub found : Choice → Option Choice
found c = pick (ltb c.moves far) (Some c) None

-- how many moves take u out of x, and what they leave of it
unfoldable pub out_at : ℕ → ℕ → ℕ → Out
out_at a u x = record { moves = length (moves_at a u x); left = left_at a u x }

-- so many more at least, and one, where a gathering works
abbrev pub least_of : Bool → ℕ → ℕ
least_of whole x = pick whole (size_of x) 0

-- how many of the moves that take out one qubit leave the set as large as it was: both of two
abbrev pub detour_of : ℕ → ℕ
detour_of moves = pick (eqb moves 2) 2 0
