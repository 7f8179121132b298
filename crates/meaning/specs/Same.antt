-- Equal meaning, and what the couplers can reach (document 01, "Meaning of a circuit", "Islands"). Nothing here speaks of islands.
use Rattle.std.specs.Prelude.{◌≡◌, List, ℕ, ◌<◌}
use Rattle.gates.specs.declared.gate.Gate.{Gate}
use Rattle.gates.specs.Layout.{Good}
use Rattle.sets.specs.Lists.{All}
use Rattle.gates.specs.Listed.{OnCoupler}
use Rattle.circuit.specs.Circuit.{final_of, sum_of}
use Rattle.circuit.specs.Flips.{flip_of}
use Rattle.circuit.specs.Phase.{phase_of, phases}

-- "The meaning is the n final parities and the sums of all parities", and the final flips: two circuits have the same, their common phases aside
pub record Alike (n : ℕ) (g h : List Gate) : Type 0 where
  pub finals : (i : ℕ) → i < n → final_of g i ≡ final_of h i
  pub flips : (i : ℕ) → i < n → flip_of g i ≡ flip_of h i
  pub sums : (p : ℕ) → sum_of p g ≡ sum_of p h

-- "Two circuits are equal in meaning when all of these are equal": with the common phase of h plus `extra`
pub record SameMeaning (n extra : ℕ) (g h : List Gate) : Type 0 where
  pub alike : Alike n g h
  pub phase : phase_of g ≡ phases (phase_of h) extra

-- "some circuit of coupler CNOTs and rotations, of any length, has it", X's among them, the common phase aside
pub record Reachable (n : ℕ) (couplers : List ℕ) (gates : List Gate) : Type 0 where
  pub circuit : List Gate
  pub good : All (Good n) circuit
  pub coupled : All (OnCoupler couplers) circuit
  pub same : Alike n gates circuit
