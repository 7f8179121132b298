use mathlib.Core.Path.{◌≡◌}
use lib.ListN.{length, drop}
use Prim.Native.Nat.{◌-◌}
use Rattle.words.specs.Words.{words}
use Rattle.statements.specs.Statements.{ends_in}
use Rattle.statements.proofs.gate.ends_in.Given as goal

abbrev pub invariant-loop-b : goal.invariant-loop-b
invariant-loop-b l = ends_in l.closing l.name (words (drop l.at l.text)) ≡ ends_in l.closing l.name (words (drop l.from l.text))

abbrev pub decreases-loop-b : goal.decreases-loop-b
decreases-loop-b l = length l.text - l.at
