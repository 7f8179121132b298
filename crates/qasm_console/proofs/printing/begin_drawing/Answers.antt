-- `qasm_console::printing::begin_drawing` meets its contract. Assumes nothing.
use borrow.Author.Rules.{rules}
use mathlib.Core.Path.{ap, ◌∙◌}
use Rattle.console.proofs.Fronts.{front-short}
use Rattle.qasm_console.specs.Parts.{front_circuit, handed_circuit}
use Rattle.console.proofs.Choosing.{prints-same}
use Rattle.qasm_console.proofs.Beginning.{circuit-read, circuit-unread}
use Rattle.qasm_console.proofs.printing.begin_drawing.Goals as goal

pub begin_gates-requires : goal.begin_gates-requires
begin_gates-requires c = front-short c.read.new.gates c.in-Ok.circuit.gates c.first.ensures (search rules)

pub returns-in-Ok : goal.returns-in-Ok
returns-in-Ok c = circuit-read _ _ _ _ (search rules) _ c.read.ensures.0 c.read.ensures.1 _ _ _ _ c.in-Ok.is
    (prints-same (ap (front_circuit _ _) c.first.ensures) c.begin_gates.ensures.0)
    (c.begin_gates.ensures.1 ∙ ap (handed_circuit _ _) c.first.ensures)

pub returns-in-Err : goal.returns-in-Err
returns-in-Err c = circuit-unread _ _ _ _ (search rules) _ c.read.ensures.0 c.read.ensures.1 _ _ _ _ c.in-Err.is c.refuse.ensures.0 c.refuse.ensures.1
