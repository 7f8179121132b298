-- What any way of laying an island's terms has to meet; laying uses nothing else about a way.
use Rattle.std.specs.Prelude.{◌≡◌, List, ℕ, zero, suc, ◌+◌, ◌-◌, ◌*◌, ◌^◌, ◌≤◌, ◌<◌, eqb, length, get_or}
use Rattle.std.specs.Int.Count.{ones}
use Rattle.sets.specs.Pick.{pick}
use Rattle.sets.specs.Bit.{In}
use Rattle.sets.specs.Columns.{comb}
use Rattle.gates.specs.declared.gate.Gate.{Gate}
use Rattle.gates.specs.declared.gate.Gate.TheVariants.{Cnot, Rotation, X, Bad}
use Rattle.circuit.specs.Circuit.{run, given}
use Rattle.sets.specs.Lists.{All}
use Rattle.tallies.specs.Tally.{cnots_of, rotations_of}
use Rattle.chip.specs.Inside.{Inside}
use Rattle.sets.specs.Tables.{sum_to}
use Rattle.gates.specs.Limits.{most_qubits}

-- "Wire i starts with parity 2^i", of the wires of Q
abbrev pub Bears : ℕ → List ℕ → Type 0
Bears Q W = (i : ℕ) → In i Q → get_or W i 0 ≡ 2 ^ i

-- the sum that parity p is to get: the angles of the terms whose parity it is
unfoldable pub total_of : ℕ → List ℕ → List ℕ → ℕ
total_of p ps angles = sum_to (length ps) (λ k. pick (eqb (get_or ps k 0) p) (get_or angles k 0) 0)

-- "0 to 65,535"
unfoldable pub Small : Gate → Type 0
Small (Cnot c t) = Unit {0}
Small (Rotation q a) = a < 65536
Small (X q) = Unit {0}
Small Bad = Unit {0}

-- the gates `laid` lay the terms of parities ps and angles `angles` on the set Q of a chip's qubits (documents 01 and 000: demand 2, for one island)
pub record LaysTerms (near : List ℕ) (Q : ℕ) (ps angles : List ℕ) (laid : List Gate) : Type 0 where
  pub sums : (W : List ℕ) → length W ≡ most_qubits → Bears Q W → (p : ℕ) → given p laid W ≡ total_of p ps angles
  pub inside : All (Inside near Q) laid
  pub small : ((k : ℕ) → get_or angles k 0 < 65536) → All Small laid
  pub rotations : rotations_of laid ≡ length ps
  pub cnots : cnots_of laid ≤ 2 * (ones Q - 1) * length ps

-- ---- on the way

-- what the column x, if not struck off, is to give to parity p with the angle a, where the wires bear W
unfoldable pub due : ℕ → List ℕ → ℕ → ℕ → ℕ
due p W zero a = 0
due p W (suc x) a = pick (eqb (comb (suc x) W) p) a 0

-- what is still to be given to parity p
unfoldable pub left : ℕ → List ℕ → List ℕ → List ℕ → ℕ
left p W angles xs = sum_to (length xs) (λ k. due p W (get_or xs k 0) (get_or angles k 0))

-- 1 for a column not struck off
abbrev pub live_one : ℕ → ℕ
live_one zero = 0
live_one (suc x) = 1

-- how many columns are not struck off
unfoldable pub live : List ℕ → ℕ
live xs = sum_to (length xs) (λ k. live_one (get_or xs k 0))

-- the gates g take the columns from xs to ys, and give what they take from what is due
pub record Laying (near : List ℕ) (Q : ℕ) (angles xs : List ℕ) (g : List Gate) (ys : List ℕ) : Type 0 where
  pub size : length ys ≡ length xs
  pub sums : (W : List ℕ) → length W ≡ most_qubits → (p : ℕ) → given p g W + left p (run g W) angles ys ≡ left p W angles xs
  pub inside : All (Inside near Q) g
  pub small : ((k : ℕ) → k < length xs → get_or angles k 0 < 65536) → All Small g
  pub rotations : rotations_of g + live ys ≡ live xs
