-- `table::sums::moved_in` meets its contract. Assumes nothing.
use Rattle.table.proofs.Moving.{moved-turned}
use Rattle.table.proofs.sums.moved_in.Goals as goal

pub returns : goal.returns
returns c = moved-turned _ _ _ _ _ c.requires.0 c.requires.1 c.rotate_right.ensures.after
