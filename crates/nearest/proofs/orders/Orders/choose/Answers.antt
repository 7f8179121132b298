-- `nearest::orders::Orders::choose` meets its contract: the columns still to try lead to the same choice. Assumes nothing.
use mathlib.Core.Path.{◌∙◌}
use Rattle.nearest.proofs.Choosing.{columns-start, columns-next, columns-end, found-some, found-none}
use borrow.Author.Rules.{rules}
use Rattle.nearest.proofs.orders.Orders.choose.Goals as goal

pub loop-k-init : goal.loop-k-init
loop-k-init c = columns-start _ _ _

pub loop-k-preserved : goal.loop-k-preserved
loop-k-preserved c = columns-next _ _ _ _ c.loop-k.k _ _ (search rules) c.over_column-best.ensures ∙ c.loop-k.invariant

pub returns-then-best-lt-FAR : goal.returns-then-best-lt-FAR
returns-then-best-lt-FAR c = found-some _ _ (columns-end _ _ _ _ c.loop-k.k _ (search rules) ∙ c.loop-k.invariant) c.if-best-lt-FAR.true

pub returns-else-best-lt-FAR : goal.returns-else-best-lt-FAR
returns-else-best-lt-FAR c = found-none _ _ (columns-end _ _ _ _ c.loop-k.k _ (search rules) ∙ c.loop-k.invariant) c.if-best-lt-FAR.false
