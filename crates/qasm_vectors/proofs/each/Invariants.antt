use Rattle.std.proofs.Common.{◌≤◌}
use Rattle.qasm_vectors.proofs.each.Given as goal

abbrev pub invariant-loop-x : goal.invariant-loop-x
invariant-loop-x g l = l.start ≤ l.held
