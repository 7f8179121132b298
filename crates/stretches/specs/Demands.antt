-- The demands of a job: "Demands 2 and 3 hold for each stretch, and demand 3 over a whole job asks its premises of each stretch and the same Hadamards" (request E12).
use Rattle.std.specs.Prelude.{◌≡◌, Bool, List, [], ◌∷◌, ℕ, ◌≤◌, length}
use Rattle.sets.specs.Pick.{pick}
use Rattle.sets.specs.Lists.{those}
use Rattle.sets.specs.Bit.{has}
use Rattle.gates.specs.Layout.{a_in, gate_of, gates_of}
use Rattle.gates.specs.Hadamards.{is_hadamard}
use Rattle.circuit.specs.Phase.{phases}
use Rattle.laying.specs.Demands.{is_on, gates_on, Faithful, Agree}
use Rattle.stretches.specs.Cut.{Pairs}
use Rattle.stretches.specs.Stretches.{stretches_of, hadamards_of}
use Rattle.stretches.specs.Tests.{job_bound}
use Rattle.stretches.specs.Meaning.{SameJob}

-- ---- demand 2

-- "in demand 2 .. each stretch has its own share": the shares of the common phase together
unfoldable pub sum_of_shares : List ℕ → ℕ
sum_of_shares [] = 0
sum_of_shares (a ∷ shares) = phases a (sum_of_shares shares)

-- each stretch that was drawn and what is laid for it, with its share
unfoldable pub Faithfuls : ℕ → List ℕ → List ℕ → List (List ℕ) → List (List ℕ) → Type 0
Faithfuls n couplers [] [] [] = Unit {0}
Faithfuls n couplers [] [] (l ∷ laid) = ⊥
Faithfuls n couplers [] (d ∷ drawn) laid = ⊥
Faithfuls n couplers (a ∷ shares) [] laid = ⊥
Faithfuls n couplers (a ∷ shares) (d ∷ drawn) [] = ⊥
Faithfuls n couplers (a ∷ shares) (d ∷ drawn) (l ∷ laid) = Faithful n couplers a (gates_of n d) (gates_of n l) × Faithfuls n couplers shares drawn laid

-- the records laid: the job's meaning, Hadamards and all, with the returned phase, whose shares are the stretches'; each stretch faithful with its share; no more than B
pub record FaithfulJob (n : ℕ) (couplers : List ℕ) (phase : ℕ) (drawn laid : List ℕ) : Type 0 where
  pub same : SameJob n phase drawn laid
  pub shares : List ℕ
  pub summed : sum_of_shares shares ≡ phase
  pub stretches : Faithfuls n couplers shares (stretches_of n drawn) (stretches_of n laid)
  pub bound : length laid ≤ job_bound n drawn

-- ---- demand 3

-- two jobs, on n and on m qubits, agree on the set S: "its premises of each stretch and the same Hadamards in the same order on all wires"
pub record AgreeJob (S n m : ℕ) (couplers couplers' drawn drawn' : List ℕ) : Type 0 where
  pub hadamards : hadamards_of n drawn ≡ hadamards_of m drawn'
  pub stretches : Pairs (λ s t. Agree S couplers couplers' (gates_of n s) (gates_of m t)) (stretches_of n drawn) (stretches_of m drawn')

-- two stretches have the same gates on S
abbrev pub SameOn : ℕ → ℕ → ℕ → List ℕ → List ℕ → Type 0
SameOn S n m s t = gates_on S (gates_of n s) ≡ gates_on S (gates_of m t)

-- a record is on the set S: all its qubits are
unfoldable pub record_is_on : ℕ → ℕ → ℕ → Bool
record_is_on n S x = pick (is_hadamard n x) (has S (a_in x)) (is_on S (gate_of n x))

-- "the gates laid on that island", in order, Hadamards among them
unfoldable pub records_on : ℕ → ℕ → List ℕ → List ℕ
records_on n S xs = those (record_is_on n S) xs
