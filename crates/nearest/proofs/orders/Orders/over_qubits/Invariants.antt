use Rattle.sets.specs.Size.{size_of}
use Rattle.nearest.specs.Choice.{over_qubits}
use Rattle.nearest.proofs.Trying.{Trying}
use Rattle.nearest.proofs.orders.Orders.over_qubits.Given as goal

abbrev pub invariant-loop-left : goal.invariant-loop-left
invariant-loop-left l = Trying l.self.near l.self.set l.k l.x l.left l.best (over_qubits l.self.near l.self.set l.k l.x 20 0 l.initial.best)

abbrev pub decreases-loop-left : goal.decreases-loop-left
decreases-loop-left l = size_of l.left
