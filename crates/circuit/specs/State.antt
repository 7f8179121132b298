-- The state of the wires, as the code holds it and as the circuit says it.
use Rattle.std.specs.Prelude.{List}
use Rattle.gates.specs.declared.gate.Gate.{Gate}
use Rattle.circuit.specs.declared.wires.Wires.{Wires}
use Rattle.circuit.specs.Circuit.{step, run, start}
use Rattle.circuit.specs.Flips.{flip_step, flip_run, no_flips}

-- after one gate more
unfoldable pub fed_wires : Wires → Gate → Wires
fed_wires w g = record { parity = step g w.parity; flip = flip_step g w.flip }

-- after a list of gates, from the start
unfoldable pub wires_of : List Gate → Wires
wires_of gs = record { parity = run gs start; flip = flip_run gs no_flips }
