-- `qasm_reading::run::fill` meets its contract. Assumes nothing.
use Rattle.std.specs.Prelude.{option_to_list}
use mathlib.Core.Path.{sym, ap}
use Rattle.qasm_reading.proofs.Runs.{gate-short}
use Rattle.qasm_reading.proofs.Loops.{fill-over, fill-room, fill_step, fill_done}
use Rattle.qasm_reading.proofs.run.fill.Goals as goal

pub bounds-out-n : goal.bounds-out-n
bounds-out-n c = fill-room _ _ _ _ _ _ _ c.loop-p.invariant _ (sym c.in-Some.ensures) c.in-Some-record.x (ap option_to_list c.in-Some-record.is) c.requires

pub loop-p-smaller-in-Some-record : goal.loop-p-smaller-in-Some-record
loop-p-smaller-in-Some-record c = gate-short _ _ _ _ (sym c.in-Some.ensures)

pub loop-p-preserved-in-Some-record : goal.loop-p-preserved-in-Some-record
loop-p-preserved-in-Some-record c = fill_step _ _ _ _ _ _ _ c.loop-p.invariant _ (sym c.in-Some.ensures) c.in-Some-record.x (ap option_to_list c.in-Some-record.is) c.requires

pub loop-p-smaller : goal.loop-p-smaller
loop-p-smaller c = gate-short _ _ _ _ (sym c.in-Some.ensures)

pub loop-p-preserved : goal.loop-p-preserved
loop-p-preserved c = fill-over _ _ _ _ _ _ _ c.loop-p.invariant _ (sym c.in-Some.ensures) (ap option_to_list c.in_default-record.is)

pub returns : goal.returns
returns c = fill_done _ _ _ _ _ _ _ c.loop-p.invariant (sym c.in_default.ensures)
