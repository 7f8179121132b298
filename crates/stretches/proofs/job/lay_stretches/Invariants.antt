use Prim.Native.Nat.{◌+◌, ◌-◌}
use lib.ListN.{length}
use Rattle.stretches.proofs.Laying.{LayingJob}
use Rattle.stretches.proofs.job.lay_stretches.Given as goal

abbrev pub invariant-loop-from : goal.invariant-loop-from
invariant-loop-from l = LayingJob l.n l.couplers l.gates l.initial.out l.from l.out l.at l.phase

abbrev pub decreases-loop-from : goal.decreases-loop-from
decreases-loop-from l = length l.gates + 1 - l.from
