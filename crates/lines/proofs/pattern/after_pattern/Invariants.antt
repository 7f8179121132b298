use Rattle.std.proofs.Common.{◌≡◌, ◌≤◌, length, drop}
use Rattle.lines.specs.Pattern.{filled}
use Rattle.lines.specs.Room.{room_after}
use Rattle.lines.proofs.pattern.after_pattern.Given as goal

abbrev pub invariant-loop-x : goal.invariant-loop-x
invariant-loop-x l =
    (l.k ≤ l.x-index) × (room_after l.left (length (filled (drop l.x-index l.pattern) (drop l.k l.numbers))) ≡ room_after l.initial.left (length (filled l.pattern l.numbers)))
