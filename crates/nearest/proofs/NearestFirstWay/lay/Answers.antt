-- Nearest first meets the contract of a way. Assumes nothing.
use mathlib.Core.Path.{◌∙◌, ap₂}
use Rattle.columns.specs.Pieces.{wrote}
use Rattle.gates.specs.Limits.{most_parities}
use Rattle.columns.proofs.Working.{same-then}
use Rattle.nearest.specs.Nearest.{rounds}
use Rattle.nearest.proofs.Entry.{entry-wrote}
use Rattle.nearest.proofs.NearestFirstWay.lay.Goals as goal

pub returns : goal.returns
returns c =
    let a = c.strike.ensures in
    let b = c.all_rounds.ensures in
    let w = c.strike.new.self in
    let e = (rw a.same.angles at b.memory) ∙ ap₂ (λ near Q. wrote w.out.now w.at (rounds most_parities near c.args.work.now.angles.now Q w.cols.now)) c.new.ensures.0 c.new.ensures.1 in
    record { same = same-then a.same b.same; memory = entry-wrote _ _ _ _ _ _ a.memory e }
