-- Islands: "Two qubits are on one island when a chain of couplers joins them" (document 01, "Islands").
use Rattle.std.specs.Prelude.{List, [], ◌∷◌, ℕ, zero, suc, ◌+◌, ◌-◌, ◌^◌}
use Rattle.gates.specs.Limits.{most_qubits}
use Rattle.chip.specs.Graph.{closure}

-- the set of all 20 qubits
abbrev pub every_qubit : ℕ
every_qubit = 2 ^ most_qubits - 1

-- the island of q: what chains reach from it, which 20 rounds do
unfoldable pub island_of : List ℕ → ℕ → ℕ
island_of near q = closure near every_qubit most_qubits (2 ^ q)

-- those of d qubits from q on
unfoldable pub islands_from : List ℕ → ℕ → ℕ → List ℕ
islands_from near zero q = []
islands_from near (suc d) q = island_of near q ∷ islands_from near d (q + 1)

-- the island of each qubit
unfoldable pub islands_of : List ℕ → List ℕ
islands_of near = islands_from near most_qubits 0
