-- `console::printing::begin_text` meets its contract. Assumes nothing.
use native.Mathlib.Omega.{arith}
use borrow.Author.Rules.{rules}
use mathlib.Core.Path.{ap₂, ◌∙◌}
use Rattle.tallies.specs.Tally.{bound_of}
use Rattle.console.specs.Parts.{front_job, first_part}
use Rattle.console.proofs.Choosing.{prints-same}
use Rattle.console.proofs.Fronts.{front-short}
use Rattle.console.proofs.Beginning.{begun-read, begun-unread}
use Rattle.console.proofs.printing.begin_text.Goals as goal

pub begin_job-front-requires : goal.begin_job-front-requires
begin_job-front-requires c = front-short c.read.new.gates c.in-Ok.job.gates c.first-in-Ok.ensures (search rules)

pub returns-in-Ok : goal.returns-in-Ok
returns-in-Ok c = begun-read _ _ _ _ _ (search rules) (search rules) _ c.read.ensures.0 c.read.ensures.1 c.read.ensures.2 _ _ _ _ _ c.in-Ok.is (prints-same (ap₂ (front_job _) c.first.ensures c.first-in-Ok.ensures) c.begin_job-front.ensures.0) (c.begin_job-front.ensures.1 ∙ ap₂ (first_part _) c.first.ensures c.first-in-Ok.ensures)

pub returns-in-Err : goal.returns-in-Err
unfolding bound_of
returns-in-Err c = begun-unread _ _ _ _ _ (search rules) (search rules) _ c.read.ensures.0 c.read.ensures.1 c.read.ensures.2 c.args.out.now _ _ 1 _ c.in-Err.is (c.print_refusal.ensures.prints (omega arith))
