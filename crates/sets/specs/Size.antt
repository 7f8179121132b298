-- "The number of qubits in a parity and its lowest qubit" (document 01, "Steps from document 000").
use Rattle.std.specs.Prelude.{Bool, ℕ, ◌^◌, eqb, ltb}
use Rattle.std.specs.Int.Count.{ones, count_trailing_zeros}
use Rattle.sets.specs.Pick.{pick}

-- how many qubits x has
unfoldable pub size_of : ℕ → ℕ
size_of x = ones x

-- the lowest qubit of x; 32 where x is empty
unfoldable pub lowest_of : ℕ → ℕ
lowest_of x = count_trailing_zeros 32 x

-- "a column of one qubit"
unfoldable pub single_of : ℕ → Bool
single_of x = eqb (ones x) 1

-- the set of q alone; empty where q is past the 32 digits of a number
unfoldable pub only_of : ℕ → ℕ
only_of q = pick (ltb q 32) (2 ^ q) 0
