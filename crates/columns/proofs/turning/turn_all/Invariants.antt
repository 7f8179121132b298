use Rattle.columns.proofs.Turns.{TurnedUpTo}
use Rattle.columns.proofs.turning.turn_all.Given as goal

abbrev pub invariant-loop-x : goal.invariant-loop-x
invariant-loop-x l = TurnedUpTo l.control l.target l.initial.cols l.x-index l.cols
