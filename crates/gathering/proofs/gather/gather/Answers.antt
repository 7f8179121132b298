-- `gathering::gather::gather` meets its contract. Assumes nothing.
use mathlib.Core.Path.{ap, ◌∙◌}
use Rattle.gathering.specs.Gather.{moves_in}
use Rattle.gathering.proofs.GatherCode.{along-order}
use Rattle.gathering.proofs.gather.gather.Goals as goal

pub returns : goal.returns
returns c = c.along.ensures ∙ ap moves_in (along-order _ _ _ _ _ c.by_distance.ensures)
