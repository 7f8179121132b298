-- `ways::island::replay` meets its contract: the records passed are written. Assumes nothing.
use Rattle.ways.proofs.Replaying.{replayed-none, replayed-next, replayed-all}
use borrow.Author.Rules.{rules}
use Rattle.ways.proofs.island.replay.Goals as goal

pub loop-x-init : goal.loop-x-init
loop-x-init c = replayed-none _ _ _

pub loop-x-preserved : goal.loop-x-preserved
loop-x-preserved c =
    let at = c.loop-x in
    replayed-next c.args.laid.now _ _ at.x-index at.out at.next _ _ _ (search rules) c.decode.ensures c.put_gate-next.auto.out c.put_gate-next.ensures.0 c.put_gate-next.ensures.1 at.invariant

pub returns : goal.returns
returns c =
    let at = c.loop-x in
    replayed-all c.args.laid.now _ _ at.x-index at.out at.next (search rules) at.invariant
