-- What a room has left, line by line (document 01, refusal 8: "given exactly when the text is longer than the room").
use Rattle.std.specs.Prelude.{ℕ, ◌-◌, leb, Option, Some, None}
use Rattle.sets.specs.Pick.{pick}

-- what is left of it behind `need` bytes, and none where it is too short
abbrev pub room_after : Option ℕ → ℕ → Option ℕ
room_after (Some left) need = pick (leb need left) (Some (left - need)) None
room_after None need = None
