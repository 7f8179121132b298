-- `steps::choice::rest` meets its contract. Assumes nothing.
use mathlib.Core.Path.{ap}
use lib.Bits.{bit_xor}
use Rattle.steps.specs.Choice.{without}
use Rattle.steps.proofs.choice.rest.Goals as goal

pub returns : goal.returns
unfolding without
returns c = ap (bit_xor c.args.set) c.only.ensures
