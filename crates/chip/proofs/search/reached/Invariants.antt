use Prim.Native.Nat.{◌-◌}
use lib.Bits.{bit_xor}
use lib.Count.{ones}
use Rattle.chip.proofs.Searching.{Searching}
use Rattle.chip.proofs.search.reached.Given as goal

abbrev pub invariant-loop-left : goal.invariant-loop-left
invariant-loop-left l = Searching l.near l.within l.from l.reached l.left

abbrev pub decreases-loop-left : goal.decreases-loop-left
decreases-loop-left l = 32 - ones (bit_xor l.reached l.left)
