-- `circuit::wires::Wires::step` meets its contract, gate by gate. Assumes nothing.
use Rattle.circuit.proofs.Feeding.{wires-cnot, wires-x, wires-same}
use Rattle.circuit.proofs.wires.Wires.step.Goals as goal

pub returns-in-Cnot : goal.returns-in-Cnot
returns-in-Cnot c = wires-cnot c.args.self.now _ _ _ _ _ c.in-Cnot.is c.join.ensures c.join-in-Cnot.ensures

pub returns-in-Rotation : goal.returns-in-Rotation
returns-in-Rotation c = wires-same _ _ c.in-Rotation.is

pub returns-in-X : goal.returns-in-X
returns-in-X c = wires-x c.args.self.now _ _ _ c.in-X.is c.turn_over.ensures
