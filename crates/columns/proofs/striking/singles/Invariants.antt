use mathlib.Core.Path.{◌≡◌}
use lib.Bits.{bit_or}
use lib.ListN.{drop}
use Rattle.columns.specs.Striking.{singles_of}
use Rattle.columns.proofs.striking.singles.Given as goal

abbrev pub invariant-loop-x : goal.invariant-loop-x
invariant-loop-x l = bit_or l.s (singles_of (drop l.x-index l.cols)) ≡ singles_of l.cols
