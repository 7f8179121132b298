-- The steps meet the contract of a way. Assumes nothing.
use mathlib.Core.Path.{ap, ◌∙◌}
use Rattle.columns.proofs.Working.{same-then}
use Rattle.steps.specs.Selection.{live_of}
use Rattle.steps.proofs.Entry.{entry-wrote}
use Rattle.steps.proofs.ByStepsWay.lay.Goals as goal

pub returns : goal.returns
returns c =
    let a = c.strike.ensures in
    let b = c.base.ensures in
    record { same = same-then a.same b.same; memory = entry-wrote _ _ _ _ _ _ a.memory (c.live-live.ensures ∙ ap live_of c.columns.ensures) c.size.ensures (rw a.same.angles at b.memory) }
