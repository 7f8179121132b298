-- `qasm_console::printing::refuse` meets its contract. Assumes nothing.
use native.Mathlib.Omega.{arith}
use mathlib.Core.Path.{refl}
use Rattle.tallies.specs.Tally.{bound_of}
use Rattle.qasm_console.proofs.printing.refuse.Goals as goal

pub returns : goal.returns
unfolding bound_of
returns c = ((c.print_refusal.ensures.prints (omega arith)), refl)
