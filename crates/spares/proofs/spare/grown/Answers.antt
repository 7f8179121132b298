-- `spares::spare::grown` meets its contract. Assumes nothing.
use mathlib.Core.Path.{ap}
use lib.Bits.{bit_and, bit_or}
use Rattle.chip.specs.Graph.{grow}
use Rattle.spares.proofs.spare.grown.Goals as goal

pub returns : goal.returns
unfolding grow
returns c = ap (λ n. bit_or c.args.set (bit_and n c.args.within)) c.beside.ensures
