use Rattle.std.proofs.Common.{◌+◌, ◌-◌, length}
use Rattle.console.proofs.Going.{Going}
use Rattle.console.proofs.programs.write_laid_parts.Given as goal

abbrev pub invariant-loop-from : goal.invariant-loop-from
invariant-loop-from g l = Going (g.F.Form.text l.form) l.n l.couplers l.gates l.fn.from l.fn.phase (g.W.Write.contents l.fn.writer) (g.W.Write.contents l.writer) l.from l.phase

abbrev pub decreases-loop-from : goal.decreases-loop-from
decreases-loop-from g l = length l.gates + 1 - l.from
