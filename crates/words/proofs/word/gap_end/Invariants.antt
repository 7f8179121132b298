use mathlib.Core.Path.{◌≡◌}
use lib.ListN.{length, drop}
use Prim.Native.Nat.{◌-◌, ◌≤◌}
use Rattle.words.specs.Words.{words}
use Rattle.words.proofs.word.gap_end.Given as goal

abbrev pub invariant-loop-i : goal.invariant-loop-i
invariant-loop-i l = (l.at ≤ l.i) × (words (drop l.i l.text) ≡ words (drop l.at l.text))

abbrev pub decreases-loop-i : goal.decreases-loop-i
decreases-loop-i l = length l.text - l.i
