-- `stretches::judge::over_at` meets its contract. Assumes nothing.
use Rattle.stretches.proofs.Bounding.{over-told}
use Rattle.stretches.proofs.judge.over_at.Goals as goal

pub returns : goal.returns
returns c = over-told _ _ c.tell.result c.tell.ensures
