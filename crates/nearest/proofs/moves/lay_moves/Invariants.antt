use mathlib.Core.Path.{◌≡◌}
use lib.ListN.{drop}
use Rattle.columns.specs.Pieces.{wrote}
use Rattle.columns.specs.Worked.{Same}
use Rattle.gathering.specs.Gather.{cnots_of}
use Rattle.nearest.specs.Moves.{lay_moves}
use Rattle.nearest.proofs.moves.lay_moves.Given as goal

abbrev pub invariant-loop-m : goal.invariant-loop-m
invariant-loop-m l =
    Same l.initial.work l.work
    × (wrote l.work.out.now l.work.at (lay_moves l.work.angles.now (cnots_of (drop l.m-index l.moves)) l.work.cols.now) ≡ wrote l.initial.work.out.now l.initial.work.at (lay_moves l.initial.work.angles.now (cnots_of l.moves) l.initial.work.cols.now))
