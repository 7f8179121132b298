-- The couplers of a chip in order: "couplers lower end first, ascending, each once" (document 01, "The job text").
use Rattle.std.specs.Prelude.{Bool, List, [], ◌∷◌, ◌++◌, ℕ, zero, suc, ◌+◌, ◌-◌, ◌*◌, ◌/◌, ◌%◌, ltb, get_or, length, replicate}
use Rattle.sets.specs.Pick.{pick, both}
use Rattle.sets.specs.Bit.{has}
use Rattle.gates.specs.Layout.{packed}
use Rattle.gates.specs.Limits.{most_qubits, most_couplers}
use Rattle.chip.specs.declared.couplers.Ordered.{Ordered}

-- "lower end first": a is the lower end, and b is among its neighbours
unfoldable pub pair_of : ℕ → ℕ → ℕ → Bool
pair_of neighbours a b = both (ltb a b) (has neighbours b)

-- the record of the pair of qubits with number k, which is k / 20, k % 20, where a coupler joins them
unfoldable pub pair_at : List ℕ → ℕ → List ℕ
pair_at near k = pick (pair_of (get_or near (k / most_qubits) 0) (k / most_qubits) (k % most_qubits)) (packed 0 (k / most_qubits) (k % most_qubits) ∷ []) []

-- "ascending": the records of d pairs from number k on
unfoldable pub ordered_from : List ℕ → ℕ → ℕ → List ℕ
ordered_from near zero k = []
ordered_from near (suc d) k = pair_at near k ++ ordered_from near d (k + 1)

-- the records of all 400 pairs
unfoldable pub ordered_list : List ℕ → List ℕ
ordered_list near = ordered_from near (most_qubits * most_qubits) 0

-- the same in an array of 190, which is enough: the records behind them are 0
unfoldable pub ordered_of : List ℕ → Ordered
ordered_of near = record { records = ordered_list near ++ replicate (most_couplers - length (ordered_list near)) 0; len = length (ordered_list near) }
