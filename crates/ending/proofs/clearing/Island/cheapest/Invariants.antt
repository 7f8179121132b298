use Rattle.ending.proofs.Choosing.{Cheapest}
use Rattle.ending.proofs.clearing.Island.cheapest.Given as goal

abbrev pub invariant-loop-v : goal.invariant-loop-v
invariant-loop-v l = Cheapest l.self.near l.self.set l.self.asked l.self.mirror l.v l.best
