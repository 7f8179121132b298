-- Connected sets as tests: "the qubits whose removal leaves the set connected" (document 01, "Steps from document 000").
use Rattle.std.specs.Prelude.{Bool, List, ℕ, ◌^◌, eqb}
use Rattle.std.specs.Int.Bits.{bit_xor}
use Rattle.sets.specs.Pick.{both, either}
use Rattle.sets.specs.Bit.{has}
use Rattle.sets.specs.Size.{lowest_of}
use Rattle.gates.specs.Limits.{most_qubits}
use Rattle.chip.specs.Graph.{closure}

-- what chains inside S join to its lowest member: 20 rounds reach all there is
unfoldable pub reach_of : List ℕ → ℕ → ℕ
reach_of near S = closure near S most_qubits (2 ^ lowest_of S)

-- "the empty set counts as connected"
unfoldable pub connected_of : List ℕ → ℕ → Bool
connected_of near S = either (eqb S 0) (eqb (reach_of near S) S)

-- q can be spared from S: it is a member, and its removal leaves the set connected
unfoldable pub spare_of : List ℕ → ℕ → ℕ → Bool
spare_of near S q = both (has S q) (connected_of near (bit_xor S (2 ^ q)))
