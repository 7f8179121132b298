-- What an ending has to be, whichever qubit goes first and in whichever order rows and mirror rows are cleared.
use Rattle.std.specs.Prelude.{◌≡◌, ◌≢◌, List, [], ◌++◌, map, ℕ, zero, suc, ◌+◌, ◌-◌, ◌*◌, ◌^◌, ◌≤◌, get_or, length}
use Rattle.std.specs.Int.Bits.{bit_xor}
use Rattle.std.specs.Int.Count.{ones}
use Rattle.sets.specs.Bit.{bit, In, Sub}
use Rattle.sets.specs.Size.{size_of}
use Rattle.sets.specs.Columns.{dot}
use Rattle.chip.specs.Graph.{Joined}
use Rattle.gates.specs.declared.gate.Gate.{Gate}
use Rattle.gates.specs.Layout.{Good}
use Rattle.circuit.specs.Circuit.{run}
use Rattle.sets.specs.Lists.{All}
use Rattle.gates.specs.Limits.{most_qubits}
use Rattle.tallies.specs.Tally.{cnots_of, rotations_of}
use Rattle.chip.specs.Inside.{Coupled}
use Rattle.gathering.specs.Gather.{turns, exchanged}

-- asked rows N and mirror rows C of the island Q: inside it, and row i meets mirror row j in an odd number of wires exactly where i is j
pub record Ready (Q : ℕ) (N C : List ℕ) : Type 0 where
  pub rows : (i : ℕ) → In i Q → Sub (get_or N i 0) Q
  pub mirror : (i : ℕ) → In i Q → Sub (get_or C i 0) Q
  pub one : (i : ℕ) → In i Q → dot (get_or N i 0) (get_or C i 0) ≡ 1
  pub nul : (i j : ℕ) → In i Q → In j Q → i ≢ j → dot (get_or N i 0) (get_or C j 0) ≡ 0

-- the CNOTs L bring row and mirror row of v to {v}
pub record TakesOut (near : List ℕ) (Q v : ℕ) (N C : List ℕ) (L : List Gate) : Type 0 where
  pub coupled : All (Coupled near Q) L
  pub short : length L + 4 ≤ 4 * ones Q
  pub row : turns L (get_or N v 0) ≡ 2 ^ v
  pub mirror : turns (exchanged L) (get_or C v 0) ≡ 2 ^ v
  pub still : get_or N v 0 ≡ 2 ^ v → get_or C v 0 ≡ 2 ^ v → L ≡ []

-- "An ending of CNOTs": qubit after qubit is taken out until one is left, any spare qubit by any such list
pub data AnyEnding (near : List ℕ) : ℕ → List ℕ → List ℕ → List Gate → Type 0 where
  last : {Q : ℕ} {N C : List ℕ} {R : List Gate} → ones Q ≤ 1 → R ≡ [] → AnyEnding near Q N C R
  out : {Q : ℕ} {N C : List ℕ} {R : List Gate} (v : ℕ) (L M : List Gate) → In v Q → Joined near (bit_xor Q (2 ^ v)) → TakesOut near Q v N C L
      → AnyEnding near (bit_xor Q (2 ^ v)) (map (turns L) N) (map (turns (exchanged L)) C) M → R ≡ L ++ M → AnyEnding near Q N C R

-- 4 (n - 1) + .. + 4
abbrev pub spent : ℕ → ℕ
spent zero = zero
spent (suc n) = spent n + 4 * n

-- what every ending does: each row of Q comes to its own wire
pub record Ended (near : List ℕ) (Q : ℕ) (N : List ℕ) (L : List Gate) : Type 0 where
  pub coupled : All (Coupled near Q) L
  pub short : length L ≤ spent (ones Q)
  pub right : (i : ℕ) → In i Q → turns L (get_or N i 0) ≡ 2 ^ i

-- what the closing M of an island Q does behind the gates gs that were laid on it: N has the parities asked for
pub record Closes (near : List ℕ) (Q : ℕ) (N : List ℕ) (gs M : List Gate) : Type 0 where
  pub coupled : All (Coupled near Q) M
  pub right : (W : List ℕ) → length W ≡ most_qubits → ((i : ℕ) → In i Q → get_or W i 0 ≡ 2 ^ i) → (i : ℕ) → In i Q → get_or (run (gs ++ M) W) i 0 ≡ get_or N i 0
  pub others : (W : List ℕ) (i : ℕ) → bit Q i ≡ 0 → get_or (run (gs ++ M) W) i 0 ≡ get_or W i 0
  pub good : All (Good most_qubits) M
  pub rotations : rotations_of M ≡ 0
  pub cnots : cnots_of M ≡ length M
  pub short : length M ≤ 2 * (size_of Q * (size_of Q - 1))
  pub still : (W : List ℕ) → length W ≡ most_qubits → ((i : ℕ) → In i Q → get_or W i 0 ≡ 2 ^ i)
      → ((i : ℕ) → In i Q → get_or (run gs W) i 0 ≡ get_or N i 0) → M ≡ []
