use Prim.Native.Nat.{◌-◌}
use lib.ListN.{length, take}
use Rattle.gates.specs.Layout.{gates_of}
use Rattle.ending.specs.Closing.{back_of}
use Rattle.ending.proofs.Writing.{Writes}
use Rattle.ending.proofs.closing.put_back.Given as goal

abbrev pub invariant-loop-x : goal.invariant-loop-x
invariant-loop-x l =
    (goal.iterator-loop-x).can_next l.x-iterator × (goal.iterator-loop-x).is_finite l.x-iterator
    × Writes l.initial.out l.at (back_of (gates_of 20 l.laid)) l.out l.next (back_of (gates_of 20 (take (length l.laid - length l.yielded) l.laid)))
