-- Equal meaning, and what the couplers can reach, of jobs: "Equal meaning .. go stretch by stretch, with equal Hadamards. Common phases alone are summed over the stretches" (request E12).
use Rattle.std.specs.Prelude.{◌≡◌, List, ℕ}
use Rattle.gates.specs.Layout.{gates_of}
use Rattle.circuit.specs.Phase.{phases}
use Rattle.meaning.specs.Same.{Alike, Reachable}
use Rattle.sets.specs.Lists.{All}
use Rattle.stretches.specs.Cut.{Pairs}
use Rattle.stretches.specs.Stretches.{stretches_of, hadamards_of}
use Rattle.stretches.specs.Laid.{job_phase}

-- two lists of records have the same Hadamards, and their stretches are alike, each to each
pub record AlikeJob (n : ℕ) (g h : List ℕ) : Type 0 where
  pub hadamards : hadamards_of n g ≡ hadamards_of n h
  pub stretches : Pairs (λ s t. Alike n (gates_of n s) (gates_of n t)) (stretches_of n g) (stretches_of n h)

-- they are equal in meaning, with the common phase of h plus `extra`
pub record SameJob (n extra : ℕ) (g h : List ℕ) : Type 0 where
  pub alike : AlikeJob n g h
  pub phase : job_phase n g ≡ phases (job_phase n h) extra

-- every stretch can be reached
abbrev pub ReachableJob : ℕ → List ℕ → List ℕ → Type 0
ReachableJob n couplers gates = All (λ s. Reachable n couplers (gates_of n s)) (stretches_of n gates)
