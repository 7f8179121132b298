-- `nearest::sure::sure` meets its contract. Assumes nothing.
use mathlib.Core.Path.{sym, ◌∙◌}
use Rattle.nearest.proofs.sure.sure.Goals as goal

pub returns-then-mutual : goal.returns-then-mutual
returns-then-mutual c = λ t. (c.«mutual».ensures c.if-mutual.true, sym c.connected.ensures ∙ t, c.if-set-ge-ABOVE.false)
