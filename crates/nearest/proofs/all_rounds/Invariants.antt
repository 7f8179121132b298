use mathlib.Core.Path.{◌≡◌}
use Prim.Native.Nat.{◌-◌}
use Rattle.columns.specs.Pieces.{wrote}
use Rattle.columns.specs.Worked.{Same}
use Rattle.nearest.specs.Nearest.{rounds}
use Rattle.nearest.proofs.all_rounds.Given as goal

abbrev pub invariant-loop : goal.invariant-loop
invariant-loop l =
    Same l.initial.work l.work
    × (wrote l.work.out.now l.work.at (rounds (256 - l.counter) l.orders.near l.work.angles.now l.orders.set l.work.cols.now) ≡ wrote l.initial.work.out.now l.initial.work.at (rounds 256 l.orders.near l.initial.work.angles.now l.orders.set l.initial.work.cols.now))
