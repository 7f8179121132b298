use Rattle.std.proofs.Common.{◌≡◌, length, take}
use Rattle.lines.specs.Lines.{fields_text}
use Rattle.lines.specs.Room.{room_after}
use Rattle.lines.proofs.room.after_line.Given as goal

abbrev pub invariant-loop-v : goal.invariant-loop-v
invariant-loop-v l = l.left ≡ room_after l.initial.left (length (fields_text (take l.v-index l.numbers)))
