-- A part of a list of gates.
use Rattle.std.specs.Prelude.{List, [], ◌∷◌}
use Rattle.gates.specs.declared.gate.Gate.{Gate}

-- some of the gates of a list, next to each other or not, in their order
pub data Sublist : List Gate → List Gate → Type 0 where
  none : Sublist [] []
  with : {part gs : List Gate} (g : Gate) → Sublist part gs → Sublist (g ∷ part) (g ∷ gs)
  without : {part gs : List Gate} (g : Gate) → Sublist part gs → Sublist part (g ∷ gs)
