-- `ending::closing::ending` calls itself with an island of one qubit less: the measure is the number of qubits.
use Rattle.sets.specs.Size.{size_of}
use Rattle.ending.proofs.closing.+ending.Given as goal

abbrev pub decreases-ending : goal.decreases-ending
decreases-ending l = size_of l.island.now.set
