use lib.ListN.{drop}
use Rattle.gathering.specs.Gather.{cnots_of}
use Rattle.ending.specs.Mirror.{seen}
use Rattle.ending.proofs.Writing.{Writes}
use Rattle.ending.proofs.closing.put_moves.Given as goal

abbrev pub invariant-loop-m : goal.invariant-loop-m
invariant-loop-m l = Writes l.initial.out l.at (seen l.mirror (cnots_of l.moves)) l.out l.next (seen l.mirror (cnots_of (drop l.m-index l.moves)))
