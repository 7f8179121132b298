use lib.ListN.{length, drop}
use Rattle.reading.proofs.Loops.{FillingLines}
use Rattle.reading.proofs.run.fill.Given as goal

abbrev pub invariant-loop-p : goal.invariant-loop-p
invariant-loop-p l = FillingLines l.sort (drop l.from l.text) l.initial.out l.out l.n (drop l.at l.text)

abbrev pub decreases-loop-p : goal.decreases-loop-p
decreases-loop-p l = length (drop l.at l.text)
