use Rattle.std.proofs.Common.{◌≡◌, length, drop}
use Rattle.lines.specs.Lent.{lines_end, lines_at}
use Rattle.lines.proofs.records.put_lines.Given as goal

abbrev pub invariant-loop-x : goal.invariant-loop-x
invariant-loop-x g l =
    let line = g.L.RecordLines.line l.lines in
    (lines_end line (drop l.x-index l.records) l.at (length l.text) ≡ lines_end line l.records l.from (length l.initial.text)) × (lines_at line (drop l.x-index l.records) l.at l.text ≡ lines_at line l.records l.from l.initial.text)
