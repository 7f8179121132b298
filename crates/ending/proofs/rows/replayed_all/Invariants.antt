use mathlib.Core.Path.{◌≡◌}
use mathlib.Core.List.{map}
use lib.ListN.{drop}
use Rattle.gates.specs.Layout.{gates_of}
use Rattle.ending.specs.Mirror.{seen}
use Rattle.gathering.specs.Gather.{turns}
use Rattle.ending.proofs.rows.replayed_all.Given as goal

abbrev pub invariant-loop-x : goal.invariant-loop-x
invariant-loop-x l = map (turns (seen l.mirror (gates_of 20 (drop l.x-index l.laid)))) l.all ≡ map (turns (seen l.mirror (gates_of 20 l.laid))) l.initial.all
