use Prim.Native.Nat.{◌+◌, ◌-◌}
use lib.ListN.{length}
use Rattle.stretches.proofs.Judging.{Eighth}
use Rattle.stretches.proofs.job.judge_room.Given as goal

abbrev pub invariant-loop-from : goal.invariant-loop-from
invariant-loop-from l = Eighth l.n l.gates l.room l.left l.from

abbrev pub decreases-loop-from : goal.decreases-loop-from
decreases-loop-from l = length l.gates + 1 - l.from
