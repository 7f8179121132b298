-- The mirror of a list of gates: what they would do with control and target changed over. It belongs to the ending and to no meaning.
use Rattle.std.specs.Prelude.{◌≡◌, Bool, List, ℕ, ◌<◌, get_or}
use Rattle.sets.specs.Pick.{pick}
use Rattle.sets.specs.Bit.{bit, In, Sub}
use Rattle.gates.specs.Limits.{most_qubits}
use Rattle.gates.specs.declared.gate.Gate.{Gate}
use Rattle.circuit.specs.Circuit.{run, start, final_of}
use Rattle.gathering.specs.Gather.{exchanged}

-- the gates as the rows see them, or as the mirror rows do
abbrev pub seen : Bool → List Gate → List Gate
seen b gs = pick b (exchanged gs) gs

-- "mirror[c] ^= mirror[t], starting from 2^i"
unfoldable pub mirrors_of : List Gate → List ℕ
mirrors_of gs = run (exchanged gs) start

-- the mirror row of wire j
unfoldable pub mirror_of : List Gate → ℕ → ℕ
mirror_of gs j = get_or (mirrors_of gs) j 0

-- no final parity crosses the border of Q: those of its own wires are inside, those of the others have none of its qubits
pub record Bordered (gs : List Gate) (Q : ℕ) : Type 0 where
  pub own : (i : ℕ) → In i Q → Sub (final_of gs i) Q
  pub others : (i : ℕ) → i < most_qubits → bit Q i ≡ 0 → (k : ℕ) → In k (final_of gs i) → bit Q k ≡ 0
