use mathlib.Core.Path.{◌≡◌}
use Rattle.std.specs.Prelude.{Some}
use Prim.Native.Nat.{◌≤◌, ◌-◌}
use lib.ListN.{length, drop}
use Rattle.spots.specs.Numbers.{read_number, more_digits}
use Rattle.spots.proofs.spot.number_at.Given as goal

abbrev pub invariant-loop-d : goal.invariant-loop-d
invariant-loop-d l = (l.v ≤ l.most) × (read_number l.most (Some (drop l.from l.text)) ≡ more_digits l.most l.v (drop l.at l.text))

abbrev pub decreases-loop-d : goal.decreases-loop-d
decreases-loop-d l = length l.text - l.at
