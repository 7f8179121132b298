use mathlib.Core.Path.{◌≡◌}
use Prim.Native.Nat.{◌-◌}
use Rattle.columns.specs.Pieces.{wrote}
use Rattle.columns.specs.Striking.{strike_from, strike_off}
use Rattle.columns.specs.Worked.{Same}
use Rattle.columns.proofs.Singles.{Shows}
use Rattle.columns.proofs.work.Work.strike.Given as goal

abbrev pub invariant-loop-q : goal.invariant-loop-q
invariant-loop-q l =
    Same l.initial.self l.self × Shows l.s l.self.cols.now
    × (wrote l.self.out.now l.self.at (strike_from (20 - l.q) l.q l.self.angles.now l.self.cols.now) ≡ wrote l.initial.self.out.now l.initial.self.at (strike_off l.initial.self.angles.now l.initial.self.cols.now))
