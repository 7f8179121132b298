use mathlib.Core.Path.{◌≡◌}
use lib.Bits.{bit_or}
use Rattle.chip.specs.Graph.{nbrs}
use Rattle.chip.proofs.Rounds.{from_on}
use Rattle.spares.proofs.spare.beside.Given as goal

abbrev pub invariant-loop-u : goal.invariant-loop-u
invariant-loop-u l = bit_or l.all (from_on l.fn.near l.set l.u) ≡ nbrs l.set l.fn.near
