-- The common phase (request E3): "An angle a on a flipped wire adds a to a phase common to all states", modulo one turn. It "now counts in half units, 131,072 to the turn" (request E5).
use Rattle.std.specs.Prelude.{List, [], ◌∷◌, ℕ, ◌+◌, ◌*◌, ◌%◌, eqb, get_or}
use Rattle.sets.specs.Pick.{pick}
use Rattle.gates.specs.declared.gate.Gate.{Gate}
use Rattle.gates.specs.declared.gate.Gate.TheVariants.{Cnot, Rotation, X, Bad}
use Rattle.circuit.specs.Flips.{flip_step, no_flips}

-- what an angle a on a wire of flip f adds to it: a unit is two half units
unfoldable pub shifts : ℕ → ℕ → ℕ
shifts f a = pick (eqb f 0) 0 (2 * (a % 65536))

-- what a gate adds to it, where F has the wires' flips
unfoldable pub shifts_on : Gate → List ℕ → ℕ
shifts_on (Cnot c t) F = 0
shifts_on (Rotation q a) F = shifts (get_or F q 0) a
shifts_on (X q) F = 0
shifts_on Bad F = 0

-- what gates add from the flips F on, not reduced
unfoldable pub shifted : List Gate → List ℕ → ℕ
shifted [] F = 0
shifted (g ∷ gs) F = shifts_on g F + shifted gs (flip_step g F)

-- the common phase of a list of gates
unfoldable pub phase_of : List Gate → ℕ
phase_of gs = shifted gs no_flips % 131072

-- two common phases together
unfoldable pub phases : ℕ → ℕ → ℕ
phases a b = (a + b) % 131072
