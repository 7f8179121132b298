-- `steps::choice::neighbours` meets its contract. Assumes nothing.
use mathlib.Core.Path.{ap₂}
use lib.Bits.{bit_and}
use Rattle.steps.specs.Choice.{beside}
use Rattle.steps.proofs.choice.neighbours.Goals as goal

pub returns : goal.returns
unfolding beside
returns c = ap₂ bit_and c.neighbours.ensures c.rest.ensures
