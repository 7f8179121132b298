-- The qubits that the steps choose: "In a tie the lowest-numbered qubit is taken, and the search stops there" (document 01, "Steps from document 000").
use Rattle.std.specs.Prelude.{Bool, false, List, ℕ, zero, suc, ◌+◌, ◌-◌, max, eqb, ltb, get_or}
use Rattle.std.specs.Int.Bits.{bit_and, bit_xor}
use Rattle.sets.specs.Pick.{pick, both}
use Rattle.sets.specs.Bit.{has}
use Rattle.sets.specs.Size.{only_of}
use Rattle.sets.specs.Search.{first_of}
use Rattle.gates.specs.Limits.{most_qubits}
use Rattle.spares.specs.Spare.{spare_of}
use Rattle.sets.specs.Tables.{tab}
use Rattle.steps.specs.Selection.{count_of, row_of}

-- the lowest qubit that may be taken and has worth w; 20 where there is none
unfoldable pub worth_at : List Bool → List ℕ → ℕ → ℕ
worth_at may worth w = first_of (λ q. both (get_or may q false) (eqb (get_or worth q 0) w)) most_qubits 0

-- of the qubits that may be taken and are worth less than w, the one of most worth, the lowest in a tie; 20 where there is none
unfoldable pub best_of : List Bool → List ℕ → ℕ → ℕ
best_of may worth zero = most_qubits
best_of may worth (suc w) = pick (ltb (worth_at may worth w) most_qubits) (worth_at may worth w) (best_of may worth w)

-- of n entries so many are ones: the greater of the numbers of zeros and of ones
unfoldable pub more_of : ℕ → ℕ → ℕ
more_of n o = max (n - o) o

-- the number of equal entries in row q, among the selected columns
unfoldable pub equal_of : List Bool → List ℕ → ℕ → ℕ
equal_of sel xs q = more_of (count_of sel) (row_of sel xs q)

-- no row has more equal entries, or more ones, than there are selected columns
abbrev pub over : List Bool → ℕ
over sel = count_of sel + 1

-- "among the qubits whose removal leaves the set connected, choose the row with most equal entries"
unfoldable pub sparing : List ℕ → ℕ → List Bool → List ℕ → ℕ
sparing near Q sel xs = best_of (tab most_qubits (spare_of near Q)) (tab most_qubits (equal_of sel xs)) (over sel)

-- the set Q without the qubit r
unfoldable pub without : ℕ → ℕ → ℕ
without Q r = bit_xor Q (only_of r)

-- the neighbours of r in the set Q
unfoldable pub beside : List ℕ → ℕ → ℕ → ℕ
beside near Q r = bit_and (get_or near r 0) (without Q r)

-- "choose a neighbour in the set with most ones"
unfoldable pub partner : List ℕ → ℕ → ℕ → List Bool → List ℕ → ℕ
partner near Q r sel xs = best_of (tab most_qubits (has (beside near Q r))) (tab most_qubits (row_of sel xs)) (over sel)
