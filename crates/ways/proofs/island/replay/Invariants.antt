use Rattle.ways.proofs.Replaying.{Replayed}
use Rattle.ways.proofs.island.replay.Given as goal

abbrev pub invariant-loop-x : goal.invariant-loop-x
invariant-loop-x l = Replayed l.laid l.initial.out l.at l.x-index l.out l.next
