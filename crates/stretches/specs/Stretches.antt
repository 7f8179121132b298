-- "Each Hadamard ends the stretch on all wires" (request E12): the stretches of a job's gate records, and the Hadamards between them.
use Rattle.std.specs.Prelude.{List, [], ℕ, ◌+◌, ◌-◌, leb, length, take, drop}
use Rattle.sets.specs.Pick.{pick}
use Rattle.gates.specs.Hadamards.{is_hadamard}
use Rattle.sets.specs.Lists.{those}
use Rattle.stretches.specs.Cut.{first_at, cut_at}

unfoldable pub stretches_of : ℕ → List ℕ → List (List ℕ)
stretches_of n gates = cut_at (is_hadamard n) gates

-- "in their old order"
unfoldable pub hadamards_of : ℕ → List ℕ → List ℕ
hadamards_of n gates = those (is_hadamard n) gates

-- ---- on the way: from the place k on

-- the next Hadamard; the number of gates where there is none
unfoldable pub end_at : ℕ → List ℕ → ℕ → ℕ
end_at n gates k = k + first_at (is_hadamard n) (drop k gates)

-- the stretch that begins at k
abbrev pub stretch_at : ℕ → List ℕ → ℕ → List ℕ
stretch_at n gates k = take (end_at n gates k - k) (drop k gates)

-- the stretches that begin there or later; none above the number of gates, where the last one may begin and be empty
unfoldable pub rest_from : ℕ → List ℕ → ℕ → List (List ℕ)
rest_from n gates k = pick (leb k (length gates)) (stretches_of n (drop k gates)) []

unfoldable pub hadamards_from : ℕ → List ℕ → ℕ → List ℕ
hadamards_from n gates k = hadamards_of n (drop k gates)
