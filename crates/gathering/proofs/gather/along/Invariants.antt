use Prim.Native.Nat.{◌-◌}
use lib.ListN.{length}
use Rattle.gathering.specs.Order.{members_of}
use Rattle.gathering.specs.Gather.{along_of, moves_in}
use Rattle.gathering.proofs.GatherCode.{Gathered}
use Rattle.gathering.proofs.gather.along.Given as goal

abbrev pub invariant-loop-u : goal.invariant-loop-u
invariant-loop-u l =
    (goal.iterator-loop-u).can_next l.u-iterator × (goal.iterator-loop-u).is_finite l.u-iterator
    × Gathered l.near (members_of l.order) l.moves (length (members_of l.order) - 1 - length l.yielded) l.earlier l.left (moves_in (along_of l.near l.set l.order l.x))
