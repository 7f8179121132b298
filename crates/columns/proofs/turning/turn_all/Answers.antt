-- `columns::turning::turn_all` meets its contract: the columns passed are turned, the others stand as they did. Assumes nothing.
use Rattle.columns.proofs.Turns.{turned_none, turned-next, turned-all}
use borrow.Author.Rules.{rules}
use Rattle.columns.proofs.turning.turn_all.Goals as goal

pub loop-x-init : goal.loop-x-init
loop-x-init c = turned_none _ _ _

pub loop-x-preserved : goal.loop-x-preserved
loop-x-preserved c = turned-next _ _ _ _ _ _ (search rules) c.turned.ensures c.loop-x.invariant

pub returns : goal.returns
returns c = turned-all _ _ _ c.loop-x.x-index _ (search rules) c.loop-x.invariant
