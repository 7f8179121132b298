-- `qasm_console::printing::begin_circuit` meets its contract. Assumes nothing.
use mathlib.Core.Path.{refl}
use Rattle.qasm_console.proofs.Beginning.{drawing-same}
use Rattle.qasm_console.proofs.printing.begin_circuit.Goals as goal

pub returns-clause-begins_circuit : goal.returns-clause-begins_circuit
returns-clause-begins_circuit c = drawing-same refl c.first.ensures c.begin_drawing.ensures
