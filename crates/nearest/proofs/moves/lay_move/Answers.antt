-- `nearest::moves::lay_move` meets its contract. Assumes nothing.
use Rattle.columns.proofs.Working.{same-then}
use Rattle.nearest.proofs.Moving.{move-wrote}
use Rattle.nearest.proofs.moves.lay_move.Goals as goal

pub returns : goal.returns
returns c =
    let a = c.lay_cnot.ensures in
    let b = c.strike.ensures in
    record { same = same-then a.same b.same; memory = move-wrote _ _ _ _ _ _ a.memory (rw a.same.angles at b.memory) }
