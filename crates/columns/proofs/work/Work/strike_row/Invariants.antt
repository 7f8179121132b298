use mathlib.Core.Path.{◌≡◌}
use Prim.Native.Nat.{◌-◌}
use lib.ListN.{length}
use Rattle.columns.specs.Pieces.{wrote}
use Rattle.columns.specs.Striking.{strike_row}
use Rattle.columns.specs.Worked.{Same}
use Rattle.columns.proofs.work.Work.strike_row.Given as goal

abbrev pub invariant-loop-k : goal.invariant-loop-k
invariant-loop-k l =
    Same l.initial.self l.self
    × (wrote l.self.out.now l.self.at (strike_row (length l.initial.self.cols.now - l.k) l.k l.q l.self.angles.now l.self.cols.now) ≡ wrote l.initial.self.out.now l.initial.self.at (strike_row (length l.initial.self.cols.now) 0 l.q l.initial.self.angles.now l.initial.self.cols.now))
