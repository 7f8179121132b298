-- `qasm_console::printing::begin_gates` meets its contract. Assumes nothing.
use native.Mathlib.Omega.{arith}
use borrow.Author.Rules.{rules}
use Rattle.tallies.specs.Tally.{bound_of}
use mathlib.Core.Path.{sym, ◌∙◌}
use Rattle.verdicts.proofs.Judged.{went, stopped}
use Rattle.console.proofs.Choosing.{prints-same}
use Rattle.qasm_console.proofs.Whole.{head-whole}
use Rattle.qasm_console.proofs.Beginning.{circuit-passed, circuit-refused, handed-passed, handed-refused}
use Rattle.qasm_console.proofs.printing.begin_gates.Goals as goal

pub returns-in-Err : goal.returns-in-Err
unfolding bound_of
returns-in-Err c = let no = stopped c.judge.ensures c.in-Err.is in
    (prints-same (circuit-refused c.args.circuit _ _ _ (sym c.in-Err.is ∙ c.judge.ensures) no) (c.print_refusal.ensures.prints (omega arith)), handed-refused c.args.circuit _ _ no)

pub returns-in-Ok : goal.returns-in-Ok
unfolding bound_of
returns-in-Ok c = let z = went c.judge.ensures c.in-Ok.is in
    (prints-same (circuit-passed c.args.circuit _ _ z) (head-whole _ _ _ (search rules) _ _ _ _ z c.put_head.ensures), handed-passed c.args.circuit _ _ z)
