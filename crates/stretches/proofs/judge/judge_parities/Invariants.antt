use Prim.Native.Nat.{◌+◌, ◌-◌}
use lib.ListN.{length}
use Rattle.stretches.proofs.Judging.{Sixth}
use Rattle.stretches.proofs.judge.judge_parities.Given as goal

abbrev pub invariant-loop-from : goal.invariant-loop-from
invariant-loop-from l = Sixth l.n l.gates l.from

abbrev pub decreases-loop-from : goal.decreases-loop-from
decreases-loop-from l = length l.gates + 1 - l.from
