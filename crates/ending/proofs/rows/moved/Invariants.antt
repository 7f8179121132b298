use mathlib.Core.Path.{◌≡◌}
use lib.ListN.{drop}
use Rattle.gathering.specs.Gather.{cnots_of, turns}
use Rattle.ending.specs.Mirror.{seen}
use Rattle.ending.proofs.rows.moved.Given as goal

abbrev pub invariant-loop-m : goal.invariant-loop-m
invariant-loop-m l = turns (seen l.mirror (cnots_of (drop l.m-index l.moves))) l.y ≡ turns (seen l.mirror (cnots_of l.moves)) l.x
