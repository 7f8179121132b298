-- A job that passed tests 1 to 7.
use Rattle.std.specs.Prelude.{◌≡◌, List, ℕ, ◌≤◌, length}
use Rattle.gates.specs.Layout.{gates_of, Good}
use Rattle.meaning.specs.Borne.{borne}
use Rattle.sets.specs.Lists.{All}
use Rattle.gates.specs.Limits.{most_qubits, most_parities}
use Rattle.chip.specs.Couplers.{near_of}
use Rattle.isles.specs.Islands.{island_of, islands_of}
use Rattle.laying.specs.Reach.{MeaningInside}

pub record Layable (n : ℕ) (couplers gates : List ℕ) : Type 0 where
  pub few : n ≤ most_qubits
  pub good : All (Good n) (gates_of n gates)
  pub fit : length (borne (gates_of n gates)) ≤ most_parities
  pub within : MeaningInside n (island_of (near_of n couplers)) (gates_of n gates)

-- the same of a chip that is handed on: its neighbours and islands are those of some couplers
pub record LayableOn (n : ℕ) (near islands gates : List ℕ) : Type 0 where
  pub couplers : List ℕ
  pub near_are : near ≡ near_of n couplers
  pub islands_are : islands ≡ islands_of near
  pub layable : Layable n couplers gates
