-- `reading::run::count` meets its contract: what is counted and what is left make up the run. Assumes nothing.
use mathlib.Core.Path.{sym}
use native.Mathlib.Omega.{arith}
use lib.ListN.{drop, length-drop}
use Rattle.reading.proofs.Lines.{one-short}
use Rattle.reading.proofs.Loops.{count-start, count-step, count-done}
use Rattle.reading.proofs.run.count.Goals as goal

pub loop-p-init : goal.loop-p-init
loop-p-init c = count-start c.args.sort (drop c.args.from c.args.text.now)

pub overflow_add-n : goal.overflow_add-n
overflow_add-n c = omega (arith, c.loop-p.invariant.room, one-short _ _ _ (sym c.in-Some.ensures), length-drop c.args.from c.args.text.now, c.well_formed)

pub loop-p-smaller : goal.loop-p-smaller
loop-p-smaller c = one-short _ _ _ (sym c.in-Some.ensures)

pub loop-p-preserved : goal.loop-p-preserved
loop-p-preserved c = count-step _ _ _ _ _ c.loop-p.invariant (sym c.in-Some.ensures)

pub returns : goal.returns
returns c = count-done _ _ _ _ c.loop-p.invariant (sym c.in_default.ensures)
