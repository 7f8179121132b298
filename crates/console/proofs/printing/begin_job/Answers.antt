-- `console::printing::begin_job` meets its contract. Assumes nothing.
use native.Mathlib.Omega.{arith}
use mathlib.Core.Path.{sym, ◌∙◌}
use Rattle.verdicts.proofs.Judged.{went, stopped}
use Rattle.tallies.specs.Tally.{bound_of}
use Rattle.console.proofs.Whole.{head-accepted}
use Rattle.console.proofs.Choosing.{prints-same}
use Rattle.console.proofs.Beginning.{front-passed, front-refused, first-passed, first-refused}
use Rattle.console.proofs.printing.begin_job.Goals as goal

pub returns-in-Err : goal.returns-in-Err
unfolding bound_of
returns-in-Err c = (prints-same (front-refused _ _ _ _ (sym c.in-Err.is ∙ c.judge.ensures) (stopped c.judge.ensures c.in-Err.is)) (c.print_refusal.ensures.prints (omega arith)), first-refused _ _ _ (stopped c.judge.ensures c.in-Err.is))

pub print_head-requires : goal.print_head-requires
print_head-requires c = head-accepted _ _ _ (went c.judge.ensures c.in-Ok.is)

pub returns-in-Ok : goal.returns-in-Ok
returns-in-Ok c = (prints-same (front-passed _ _ _ (went c.judge.ensures c.in-Ok.is)) c.print_head.ensures, first-passed _ _ _ (went c.judge.ensures c.in-Ok.is))
