use lib.ListN.{length, drop}
use Rattle.words.specs.Words.{words}
use Rattle.qasm_reading.proofs.Loops.{FillingGates}
use Rattle.qasm_reading.proofs.run.fill.Given as goal

abbrev pub invariant-loop-p : goal.invariant-loop-p
invariant-loop-p l = FillingGates l.version l.name (words (drop l.from l.text)) l.initial.out l.out l.n (words (drop l.at l.text))

abbrev pub decreases-loop-p : goal.decreases-loop-p
decreases-loop-p l = length (words (drop l.at l.text))
