-- The cycle of calls {base, ones} falls by the qubits left, then by the columns left.
use Rattle.std.proofs.Common.{◌+◌, ◌*◌}
use Rattle.steps.proofs.steps.+base_ones.Given as goal

abbrev pub decreases-base : goal.decreases-base
decreases-base l = l.qubits * 258 + 257

abbrev pub decreases-ones : goal.decreases-ones
decreases-ones l = l.qubits * 258 + 258 + l.columns
