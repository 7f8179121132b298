use lib.ListN.{length, drop}
use Rattle.reading.proofs.Loops.{CountingLines}
use Rattle.reading.proofs.run.count.Given as goal

abbrev pub invariant-loop-p : goal.invariant-loop-p
invariant-loop-p l = CountingLines l.sort (drop l.from l.text) l.n (drop l.at l.text)

abbrev pub decreases-loop-p : goal.decreases-loop-p
decreases-loop-p l = length (drop l.at l.text)
