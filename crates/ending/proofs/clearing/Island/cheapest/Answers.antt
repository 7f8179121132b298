-- `ending::clearing::Island::cheapest` meets its contract: the choice that is left to make is the whole choice. Assumes nothing.
use Rattle.ending.proofs.Choosing.{cheapest-start, cheapest-next, cheapest-end}
use borrow.Author.Rules.{rules}
use Rattle.ending.proofs.clearing.Island.cheapest.Goals as goal

pub loop-v-init : goal.loop-v-init
loop-v-init c = cheapest-start _ _ _ _

pub loop-v-preserved : goal.loop-v-preserved
loop-v-preserved c = cheapest-next _ _ _ _ _ _ _ (search rules) c.better-best.ensures c.loop-v.invariant

pub returns : goal.returns
returns c = cheapest-end _ _ _ _ c.loop-v.v _ (search rules) c.loop-v.invariant
