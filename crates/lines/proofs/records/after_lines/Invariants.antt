use Rattle.std.proofs.Common.{◌≡◌, length, take}
use Rattle.std.specs.List.{flat_map}
use Rattle.lines.specs.Room.{room_after}
use Rattle.lines.proofs.records.after_lines.Given as goal

abbrev pub invariant-loop-x : goal.invariant-loop-x
invariant-loop-x g l = l.left ≡ room_after l.fn.room (length (flat_map (g.L.RecordLines.line l.lines) (take l.x-index l.records)))
