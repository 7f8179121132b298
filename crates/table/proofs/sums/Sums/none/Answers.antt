-- `table::sums::Sums::none` meets its contract. Assumes nothing.
use mathlib.Core.Path.{refl}
use Rattle.table.specs.Table.{padded, empty}
use Rattle.table.proofs.sums.Sums.none.Goals as goal

pub returns : goal.returns
unfolding empty padded
returns c = refl
