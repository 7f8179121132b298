-- `ending::rows::moved_all` meets its contract: the rows so far are done, the others stand as they were. Assumes nothing.
use native.Mathlib.Omega.{arith}
use Rattle.std.proofs.lemmas.Grind.{common_steps}
use Rattle.std.proofs.lemmas.List.Edits.{map_over_more}
use Rattle.gathering.specs.Gather.{cnots_of, turns}
use Rattle.ending.specs.Mirror.{seen}
use Rattle.ending.proofs.rows.moved_all.Goals as goal

pub loop-x-preserved : goal.loop-x-preserved
loop-x-preserved c = grind (arith, common_steps, map_over_more (turns (seen c.args.mirror (cnots_of c.args.moves.now))))
