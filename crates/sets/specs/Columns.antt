-- Wires and columns. W is the list of the wires' parities; a column is the set of the wires whose parities xor to a wanted one.
use Rattle.std.specs.Prelude.{List, [], ◌∷◌, map, ℕ, zero, suc, ◌*◌, ◌/◌, ◌%◌, get_or, set}
use Rattle.std.specs.Int.Bits.{bit_and, bit_xor}
use Rattle.std.specs.Int.Count.{ones}
use Rattle.sets.specs.Bit.{bit, when}
use Rattle.sets.specs.Size.{only_of}

-- "Wire i starts with parity 2^i" (document 01, "Meaning of a circuit"): n wires
unfoldable pub units : ℕ → List ℕ
units zero = []
units (suc n) = 1 ∷ map (λ k. k * 2) (units n)

-- "A CNOT leaves its control's parity and makes its target's parity the exclusive or of the two" (document 01, "Meaning of a circuit")
unfoldable pub cnot : ℕ → ℕ → List ℕ → List ℕ
cnot c t W = set W t (bit_xor (get_or W c 0) (get_or W t 0))

-- "A laid CNOT adds the target's row to the control's row" (document 01, "Steps from document 000"): what becomes of one column x, a number of 32 digits
unfoldable pub turn : ℕ → ℕ → ℕ → ℕ
turn c t x = bit_xor x (when (bit x t) (only_of c))

-- the parity that the column x stands for: the xor of the parities of its wires
unfoldable pub comb : ℕ → List ℕ → ℕ
comb x [] = zero
comb x (w ∷ ws) = bit_xor (when (x % 2) w) (comb (x / 2) ws)

-- the number of common qubits, modulo 2
unfoldable pub dot : ℕ → ℕ → ℕ
dot x y = ones (bit_and x y) % 2
