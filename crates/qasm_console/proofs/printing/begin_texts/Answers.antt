-- `qasm_console::printing::begin_texts` meets its contract. Assumes nothing.
use borrow.Author.Rules.{rules}
use mathlib.Core.Path.{refl}
use Rattle.qasm_console.proofs.Beginning.{drawing-same, texts-begun, texts-unbegun}
use Rattle.qasm_console.proofs.printing.begin_texts.Goals as goal

pub returns-in-Ok : goal.returns-in-Ok
returns-in-Ok c = texts-begun _ _ _ _ _ _ _ _ (search rules) _ c.read_couplers.ensures.0 c.read_couplers.ensures.1 _ _ c.in-Ok.is (drawing-same c.first.ensures refl c.begin_drawing.ensures)

pub returns-in-Err : goal.returns-in-Err
returns-in-Err c = texts-unbegun _ _ _ _ _ _ _ _ (search rules) _ c.read_couplers.ensures.0 c.read_couplers.ensures.1 _ _ c.in-Err.is refl c.refuse.ensures.0 c.refuse.ensures.1
