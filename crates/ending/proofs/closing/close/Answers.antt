-- `ending::closing::close` meets its contract. Assumes nothing.
use Rattle.gates.specs.Layout.{gates_of}
use Rattle.ending.proofs.Writing.{written_both, written_same}
use Rattle.ending.proofs.Recursion.{closing-back, closing-onward}
use Rattle.ending.proofs.closing.close.Goals as goal

pub returns-then-back_is_shorter : goal.returns-then-back_is_shorter
returns-then-back_is_shorter c =
    written_both _ _ _ _ _ _ _ _ _
    (closing-back _ _ _ _ (gates_of 20 c.args.laid.now) _ _ c.replayed_all.ensures c.replayed_all-2.ensures _ c.length_of-onward.ensures _ c.back_is_shorter.ensures c.if-back_is_shorter.true)
    c.put_back-next.ensures.0 c.put_back-next.ensures.1 c.ending.ensures.0 c.ending.ensures.1

pub returns : goal.returns
returns c =
    written_same _ _ _ _ _ _
    (closing-onward _ _ _ _ (gates_of 20 c.args.laid.now) _ _ c.replayed_all.ensures c.replayed_all-2.ensures _ c.length_of-onward.ensures _ c.back_is_shorter.ensures c.if-back_is_shorter.false)
    c.ending-2.ensures.0 c.ending-2.ensures.1
