-- A set of qubits is a number: qubit i adds 2^i (document 01, "Meaning of a circuit").
use Rattle.std.specs.Prelude.{◌≡◌, Bool, ℕ, zero, suc, ◌/◌, ◌%◌, ◌^◌, eqb}

-- 1 where qubit i is in the set x, and 0 where it is not
unfoldable pub bit : ℕ → ℕ → ℕ
bit x i = x / 2 ^ i % 2

-- the same as a test
unfoldable pub has : ℕ → ℕ → Bool
has x i = eqb (bit x i) 1

-- qubit i is in the set S
abbrev pub In : ℕ → ℕ → Type 0
In i S = bit S i ≡ 1

-- the set S lies inside the set Q
abbrev pub Sub : ℕ → ℕ → Type 0
Sub S Q = (i : ℕ) → In i S → In i Q

-- w where the bit b is 1, and the empty set where it is 0
abbrev pub when : ℕ → ℕ → ℕ
when zero w = zero
when (suc b) w = w
