-- `reading::run::fill` meets its contract: what is filled in and what is left make up the run. Assumes nothing.
use mathlib.Core.Path.{sym}
use native.Mathlib.Omega.{arith}
use lib.ListN.{drop}
use Rattle.reading.proofs.Lines.{one-short}
use Rattle.reading.proofs.Loops.{fill_start, fill_step, fill-room, fill_done}
use Rattle.reading.proofs.run.fill.Goals as goal

pub loop-p-init : goal.loop-p-init
loop-p-init c = fill_start c.args.sort (drop c.args.from c.args.text.now) c.args.out.now

pub offset_bounds-out-n : goal.offset_bounds-out-n
offset_bounds-out-n c = omega (arith, fill-room _ _ _ _ _ _ _ c.loop-p.invariant (sym c.in-Some.ensures) c.requires, c.loop-p.invariant.size, c.well_formed)

pub bounds-out-n : goal.bounds-out-n
bounds-out-n c = fill-room _ _ _ _ _ _ _ c.loop-p.invariant (sym c.in-Some.ensures) c.requires

pub overflow_add-n : goal.overflow_add-n
overflow_add-n c = omega (arith, fill-room _ _ _ _ _ _ _ c.loop-p.invariant (sym c.in-Some.ensures) c.requires, c.loop-p.invariant.size, c.well_formed)

pub loop-p-smaller : goal.loop-p-smaller
loop-p-smaller c = one-short _ _ _ (sym c.in-Some.ensures)

pub loop-p-preserved : goal.loop-p-preserved
loop-p-preserved c = fill_step _ _ _ _ _ _ _ c.loop-p.invariant (sym c.in-Some.ensures) (fill-room _ _ _ _ _ _ _ c.loop-p.invariant (sym c.in-Some.ensures) c.requires)

pub shape_of-out : goal.shape_of-out
shape_of-out c = c.loop-p.invariant.size

pub returns : goal.returns
returns c = fill_done _ _ _ _ _ _ c.loop-p.invariant (sym c.in_default.ensures)
