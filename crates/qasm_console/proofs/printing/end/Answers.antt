-- `qasm_console::printing::end` meets its contract. Assumes nothing.
use borrow.Author.Rules.{rules}
use Rattle.tallies.specs.Tally.{bound_of}
use Rattle.qasm_console.proofs.Whole.{phase-whole}
use Rattle.qasm_console.proofs.printing.end.Goals as goal

pub returns : goal.returns
unfolding bound_of
returns c = phase-whole _ _ _ (search rules) _ _ c.put_phase.ensures
