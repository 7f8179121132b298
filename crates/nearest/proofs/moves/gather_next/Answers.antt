-- `nearest::moves::gather_next` meets its contract. Assumes nothing.
use Rattle.nearest.proofs.Moving.{next-wrote}
use Rattle.nearest.proofs.moves.gather_next.Goals as goal

pub returns : goal.returns
returns c =
    let w = c.lay_moves.ensures in
    record { same = w.same; memory = next-wrote _ _ _ _ _ _ _ _ _ _ _ (rw c.columns.ensures at c.entry-x.ensures) c.gather-moves.ensures c.as_slice.ensures w.memory }
