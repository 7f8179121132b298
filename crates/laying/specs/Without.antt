-- Jobs without X gates: what they mean and what is laid for them, said without flips.
use Rattle.std.specs.Prelude.{◌≡◌, List, ℕ, ◌%◌}
use Rattle.gates.specs.Layout.{gates_of}
use Rattle.circuit.specs.Circuit.{start, given, sum_of}
use Rattle.circuit.specs.Flips.{flip_of}
use Rattle.circuit.specs.Phase.{phase_of}
use Rattle.chip.specs.Couplers.{near_of}
use Rattle.isles.specs.Islands.{island_of}
use Rattle.laying.specs.Islands.{laid_to}
use Rattle.laying.specs.Laid.{on_island}
use Rattle.laying.specs.Answers.{circuit_of}

-- no flip and no common phase; the angles as they are drawn; and the gates of the islands with nothing behind their endings
pub record WithoutX (n : ℕ) (couplers gates : List ℕ) : Type 0 where
  pub flips : (i : ℕ) → flip_of (gates_of n gates) i ≡ 0
  pub phase : phase_of (gates_of n gates) ≡ 0
  pub sums : (p : ℕ) → sum_of p (gates_of n gates) ≡ given p (gates_of n gates) start % 65536
  pub laid : circuit_of n couplers gates ≡ laid_to (island_of (near_of n couplers)) (on_island (near_of n couplers) (gates_of n gates)) n
