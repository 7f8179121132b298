-- `ending::rows::fed_all` meets its contract: the rows so far are done, the others stand as they were. Assumes nothing.
use mathlib.Core.List.{[], ◌∷◌}
use native.Mathlib.Omega.{arith}
use Rattle.std.proofs.lemmas.Grind.{common_steps}
use Rattle.std.proofs.lemmas.List.Edits.{map_over_more}
use Rattle.gathering.specs.Gather.{turns}
use Rattle.ending.specs.Mirror.{seen}
use Rattle.ending.proofs.rows.fed_all.Goals as goal

pub loop-x-preserved : goal.loop-x-preserved
loop-x-preserved c = grind (arith, common_steps, map_over_more (turns (seen c.args.mirror (c.args.g ∷ []))))
