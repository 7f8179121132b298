-- Hadamards (request E12): they stand between the stretches of a job, and are no gate of any stretch.
use Rattle.std.specs.Prelude.{Bool, ℕ, ltb, eqb}
use Rattle.sets.specs.Pick.{both}
use Rattle.gates.specs.Layout.{kind_in, a_in, b_in}

-- "Hadamards, record kind 4 with b = 0", on a qubit below n
unfoldable pub is_hadamard : ℕ → ℕ → Bool
is_hadamard n x = both (eqb (kind_in x) 4) (both (ltb (a_in x) n) (eqb (b_in x) 0))
