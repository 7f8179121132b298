-- Selected columns: a set of places, true where a column is selected (document 01, "Steps from document 000").
use Rattle.std.specs.Prelude.{Bool, false, not, List, ℕ, ◌+◌, ◌≤◌, eqb, get_or}
use Rattle.sets.specs.Pick.{both}
use Rattle.sets.specs.Bit.{has}
use Rattle.gates.specs.Limits.{most_qubits, most_parities}
use Rattle.sets.specs.Tables.{tab, sum_to, one}

-- how many columns are selected
unfoldable pub count_of : List Bool → ℕ
count_of sel = sum_to most_parities (λ k. one (get_or sel k false))

-- a column that is selected and not struck off has 0 at r
unfoldable pub zero_at : ℕ → Bool → ℕ → Bool
zero_at r s x = both s (both (not (eqb x 0)) (not (has x r)))

-- a column that is selected has 1 at r
unfoldable pub one_at : ℕ → Bool → ℕ → Bool
one_at r s x = both s (has x r)

-- "Columns with 0 there"
unfoldable pub zeros_of : ℕ → List Bool → List ℕ → List Bool
zeros_of r sel xs = tab most_parities (λ k. zero_at r (get_or sel k false) (get_or xs k 0))

-- "columns with 1"
unfoldable pub ones_of : ℕ → List Bool → List ℕ → List Bool
ones_of r sel xs = tab most_parities (λ k. one_at r (get_or sel k false) (get_or xs k 0))

-- the columns not struck off
unfoldable pub live_of : List ℕ → List Bool
live_of xs = tab most_parities (λ k. not (eqb (get_or xs k 0) 0))

-- the number of ones in row q, among the selected columns
unfoldable pub row_of : List Bool → List ℕ → ℕ → ℕ
row_of sel xs q = sum_to most_parities (λ k. one (one_at q (get_or sel k false) (get_or xs k 0)))

-- no row has more than 256 ones
abbrev pub Few : List ℕ → Type 0
Few z = (q : ℕ) → get_or z q 0 ≤ most_parities

-- the ones of each row, and those of the column x
unfoldable pub tallied_of : ℕ → List ℕ → List ℕ
tallied_of x z = tab most_qubits (λ q. get_or z q 0 + one (has x q))
