-- `gathering::gather::by_distance` meets its contract. The loop's invariant is `Ordering`; the measure is what is left of twenty.
-- Assumes nothing.
use Rattle.gathering.proofs.OrderCode.{ordering-start, ordering-stop, ordering-full, ordering-next}
use borrow.Author.Rules.{rules}
use Rattle.gathering.proofs.gather.by_distance.Goals as goal

pub loop-len-init : goal.loop-len-init
loop-len-init c = ordering-start _ _ _ _ c.only-done.ensures

pub returns-then-left-eq0 : goal.returns-then-left-eq0
returns-then-left-eq0 c = ordering-stop _ _ _ _ _ _ _ c.loop-len.invariant _ c.loop-len-test.true c.layer-left.ensures c.if-left-eq0.true

pub loop-len-preserved : goal.loop-len-preserved
loop-len-preserved c = ordering-next _ _ _ _ _ _ _ c.loop-len.invariant _ _ _ _ c.loop-len-test.true c.layer-left.ensures c.if-left-eq0.false (search rules) c.lowest-u.ensures c.only-done-in-loop-len.ensures c.only-left.ensures

pub returns : goal.returns
returns c = ordering-full _ _ _ _ _ _ _ c.loop-len.invariant c.loop-len-test.false
