-- `console::counting::count_job` meets its contract. Assumes nothing.
use native.Mathlib.Omega.{arith}
use borrow.Author.Rules.{rules}
use mathlib.Core.Path.{sym, ◌∙◌}
use Rattle.tallies.specs.Tally.{bound_of}
use Rattle.verdicts.proofs.Judged.{went, stopped}
use Rattle.stretches.proofs.Passing.{job-passed}
use Rattle.console.specs.Printed.{most_printed}
use Rattle.console.proofs.Whole.{text-whole}
use Rattle.console.proofs.Choosing.{prints-same}
use Rattle.console.proofs.Tallying.{counted-text, counted-fits, counted-refused}
use Rattle.console.proofs.counting.count_job.Goals as goal

pub returns-in-Err : goal.returns-in-Err
unfolding bound_of
returns-in-Err c = prints-same (counted-refused _ _ _ _ (sym c.in-Err.is ∙ c.judge.ensures) (stopped c.judge.ensures c.in-Err.is)) (c.print_refusal.ensures.prints (omega arith))

pub count_stretches-counts-requires : goal.count_stretches-counts-requires
count_stretches-counts-requires c = let p = job-passed _ _ _ (went c.judge.ensures c.in-Ok.is) in (p.accepts, p.short)

pub returns-in-Ok : goal.returns-in-Ok
unfolding bound_of
returns-in-Ok c = prints-same (counted-text _ _ _ (went c.judge.ensures c.in-Ok.is) _ _ _ c.count_stretches-counts.ensures.0 c.count_stretches-counts.ensures.1 (c.highest.ensures ∙ c.count_stretches-counts.ensures.2)) (text-whole most_printed c.args.out.now _ _ (search rules) _ (counted-fits _ _ _ (went c.judge.ensures c.in-Ok.is) _ _ _ c.count_stretches-counts.ensures.0 c.count_stretches-counts.ensures.1 (c.highest.ensures ∙ c.count_stretches-counts.ensures.2)) c.counts.ensures)
