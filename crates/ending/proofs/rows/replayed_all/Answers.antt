-- `ending::rows::replayed_all` meets its contract: the rows so far, and then the gates that are left. Assumes nothing.
use Rattle.ending.proofs.Loops.{replayed-next, replayed-end}
use borrow.Author.Rules.{rules}
use Rattle.ending.proofs.rows.replayed_all.Goals as goal

pub loop-x-preserved : goal.loop-x-preserved
loop-x-preserved c = replayed-next c.args.mirror c.args.laid.now c.args.rows c.loop-x.x-index c.loop-x.all _ _ (search rules) c.decode.ensures c.fed_all.ensures c.loop-x.invariant

pub returns : goal.returns
returns c = replayed-end c.args.mirror c.args.laid.now c.args.rows c.loop-x.x-index c.loop-x.all (search rules) c.loop-x.invariant
