use Rattle.steps.proofs.Selecting.{RowsCounted}
use Rattle.steps.proofs.selection.rows.Given as goal

abbrev pub invariant-loop-k : goal.invariant-loop-k
invariant-loop-k l = RowsCounted l.chosen-items l.cols l.k l.z
