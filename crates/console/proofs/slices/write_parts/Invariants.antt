use Rattle.std.proofs.Common.{◌+◌, ◌-◌, length, None}
use Rattle.console.specs.Forms.{PartsFit}
use Rattle.console.proofs.Going.{Going}
use Rattle.console.proofs.slices.write_parts.Given as goal

-- the parts are written where there is room; of a writer whose bytes are not known it is the shares alone that are told
abbrev pub invariant-loop-from : goal.invariant-loop-from
invariant-loop-from g l =
    (PartsFit (g.F.Form.line l.form) (g.F.Form.text l.form) g.row.ROOM → Going (g.F.Form.text l.form) l.n l.couplers l.gates l.fn.from l.fn.phase (g.W.Write.contents l.fn.writer) (g.W.Write.contents l.writer) l.from l.phase)
    × Going (g.F.Form.text l.form) l.n l.couplers l.gates l.fn.from l.fn.phase None None l.from l.phase

abbrev pub decreases-loop-from : goal.decreases-loop-from
decreases-loop-from g l = length l.gates + 1 - l.from
