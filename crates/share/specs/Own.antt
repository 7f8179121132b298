-- What belongs to one island Q: its share of a job, its terms, and sets of its own qubits with everything else left out.
use Rattle.std.specs.Prelude.{Bool, List, ℕ, eqb, get_or}
use Rattle.std.specs.Int.Bits.{bit_and}
use Rattle.sets.specs.Pick.{pick}
use Rattle.sets.specs.Lists.{those}
use Rattle.sets.specs.Tables.{tab}
use Rattle.sets.specs.Bit.{has}
use Rattle.gates.specs.Limits.{most_qubits}

-- an island's share of a job, all that laying hands it: the neighbours of its qubits, its qubits, its terms with their angles, the parities asked for on its wires and their mirror
pub record Share : Type 0 where
  pub near : List ℕ
  pub set : ℕ
  pub terms : List ℕ
  pub angles : List ℕ
  pub asked : List ℕ
  pub mirror : List ℕ

-- "A parity is inside an island when all its qubits are" (document 01, "Islands")
unfoldable pub inside_of : ℕ → ℕ → Bool
inside_of Q p = eqb (bit_and p Q) p

-- those of ps inside Q, in their order
unfoldable pub own_terms : ℕ → List ℕ → List ℕ
own_terms Q ps = those (inside_of Q) ps

-- the set x of qubit i: with Q's qubits only, empty where i is not in Q
unfoldable pub mine : ℕ → ℕ → ℕ → ℕ
mine Q i x = pick (has Q i) (bit_and x Q) 0

-- a set for each qubit, so
unfoldable pub own_sets : ℕ → List ℕ → List ℕ
own_sets Q xs = tab most_qubits (λ i. mine Q i (get_or xs i 0))
