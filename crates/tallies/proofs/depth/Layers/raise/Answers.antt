-- `tallies::depth::Layers::raise` meets its contract. A layer is at most the highest, so one more fits. Assumes nothing.
use native.Mathlib.Omega.{arith}
use Rattle.tallies.specs.Tally.{raised}
use native.Mathlib.Numerals.{add-one}
use Rattle.tallies.proofs.Layers.{highest-at}
use Rattle.tallies.proofs.depth.Layers.raise.Goals as goal

pub overflow_add-k : goal.overflow_add-k
overflow_add-k c = omega (arith, c.requires, c.max-k.ensures, c.on.ensures, c.on-2.ensures, highest-at)

pub returns : goal.returns
unfolding raised
returns c = cc (c.put-2.ensures, c.put.ensures, c.max-k.ensures, c.on-2.ensures, c.on.ensures, add-one c.max-k.result)
