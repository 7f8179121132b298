use Prim.Native.Nat.{◌+◌, ◌-◌}
use lib.ListN.{length}
use Rattle.console.proofs.Tallying.{CountingStretches}
use Rattle.console.proofs.counting.count_stretches.Given as goal

abbrev pub invariant-loop-from : goal.invariant-loop-from
invariant-loop-from l = CountingStretches l.n l.couplers l.gates l.from l.counts.cnots l.counts.rotations l.counts.layers.last

abbrev pub decreases-loop-from : goal.decreases-loop-from
decreases-loop-from l = length l.gates + 1 - l.from
