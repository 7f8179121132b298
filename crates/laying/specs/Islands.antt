-- "Islands are laid one after another, by ascending lowest qubit" (document 01, "Islands").
use Rattle.std.specs.Prelude.{Bool, List, [], ◌++◌, ℕ, zero, suc, eqb}
use Rattle.sets.specs.Pick.{pick}
use Rattle.sets.specs.Size.{lowest_of}
use Rattle.gates.specs.declared.gate.Gate.{Gate}

-- q is the lowest qubit of its island; `isl q` is the island of q
unfoldable pub leads : (ℕ → ℕ) → ℕ → Bool
leads isl q = eqb (lowest_of (isl q)) q

-- the gates of the islands whose lowest qubit is below k; `on q` are those of the island led by q
unfoldable pub laid_to : (ℕ → ℕ) → (ℕ → List Gate) → ℕ → List Gate
laid_to isl on zero = []
laid_to isl on (suc k) = laid_to isl on k ++ pick (leads isl k) (on k) []
