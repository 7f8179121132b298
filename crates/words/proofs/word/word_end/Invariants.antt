use lib.ListN.{length}
use Prim.Native.Nat.{◌-◌}
use Rattle.words.proofs.Steps.{Running}
use Rattle.words.proofs.word.word_end.Given as goal

abbrev pub invariant-loop-i : goal.invariant-loop-i
invariant-loop-i l = Running l.text l.from l.i

abbrev pub decreases-loop-i : goal.decreases-loop-i
decreases-loop-i l = length l.text - l.i
