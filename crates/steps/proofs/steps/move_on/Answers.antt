-- `steps::steps::move_on` meets its contract. Assumes nothing.
use Rattle.columns.proofs.Working.{same-then}
use Rattle.steps.proofs.Unfolding.{moved_on}
use Rattle.steps.proofs.steps.move_on.Goals as goal

pub returns : goal.returns
returns c =
    let a = c.cross.ensures in
    let b = c.strike.ensures in
    record { same = same-then a.same b.same; memory = moved_on _ _ _ _ _ _ _ a.memory (rw a.same.angles at b.memory) }
