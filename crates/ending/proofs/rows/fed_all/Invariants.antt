use mathlib.Core.Path.{◌≡◌}
use mathlib.Core.List.{[], ◌∷◌, ◌++◌, map}
use lib.ListN.{take, drop}
use Rattle.gathering.specs.Gather.{turns}
use Rattle.ending.specs.Mirror.{seen}
use Rattle.ending.proofs.rows.fed_all.Given as goal

abbrev pub invariant-loop-x : goal.invariant-loop-x
invariant-loop-x l = l.rows ≡ map (turns (seen l.mirror (l.g ∷ []))) (take l.x-index l.initial.rows) ++ drop l.x-index l.initial.rows
