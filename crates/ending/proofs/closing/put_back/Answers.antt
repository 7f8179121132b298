-- `ending::closing::put_back` meets its contract: the CNOTs written and those of the records in front. Assumes nothing.
use Rattle.std.proofs.lemmas.List.{length_push}
use Rattle.std.proofs.lemmas.Iterator.Adapters.{YieldsList-from_rev_slice}
use Rattle.std.proofs.lemmas.Iterator.Consumers.{YieldsList-turn, YieldsList-end}
use Rattle.ending.proofs.Writing.{writes-on, writes_end, back_more, back_done}
use Rattle.ending.proofs.closing.put_back.Goals as goal

pub loop-x-preserved : goal.loop-x-preserved
loop-x-preserved c =
    let road = YieldsList-from_rev_slice {s = c.into_iter-x-iterator.result} c.args.laid.now (cc) in
    let t = YieldsList-turn road c.loop-x.yielded _ c.loop-x.yielded_by _ _ c.in-Some.field-0 c.in-Some.is c.next.ensures.steps in
    (tt, tt, rw (length_push c.loop-x.yielded c.in-Some.field-0) (writes-on _ _ _ _ _ _ _ _ _ _ (back_more c.args.laid.now _ _ _ t c.decode.ensures) c.put_cnot_of-next.ensures.0 c.put_cnot_of-next.ensures.1 c.loop-x.invariant.2))

pub returns : goal.returns
returns c =
    let road = YieldsList-from_rev_slice {s = c.into_iter-x-iterator.result} c.args.laid.now (cc) in
    let t = YieldsList-end road c.loop-x.yielded _ c.loop-x.yielded_by _ _ c.in-None.is c.next.ensures.steps in
    writes_end _ _ _ _ _ _ (back_done c.args.laid.now _ t.1) c.loop-x.invariant.2
