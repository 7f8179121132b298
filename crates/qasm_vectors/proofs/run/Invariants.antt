use Rattle.std.proofs.Common.{◌≤◌}
use Rattle.qasm_vectors.proofs.run.Given as goal

abbrev pub invariant-loop : goal.invariant-loop
invariant-loop g l = l.pair.start ≤ l.pair.held
