-- `ending::closing::put_moves` meets its contract: the moves written and those to come. Assumes nothing.
use Rattle.ending.proofs.Writing.{writes-on, writes_end, moves_more, moves-done}
use borrow.Author.Rules.{rules}
use Rattle.ending.proofs.closing.put_moves.Goals as goal

pub loop-m-preserved : goal.loop-m-preserved
loop-m-preserved c =
    writes-on _ _ _ _ _ _ _ _ _ _ (moves_more _ _ c.loop-m.m-index _ _ _ (search rules) c.gate.ensures c.seen.ensures) c.put_gate-next.ensures.0 c.put_gate-next.ensures.1 c.loop-m.invariant

pub returns : goal.returns
returns c = writes_end _ _ _ _ _ _ (moves-done _ _ c.loop-m.m-index (search rules)) c.loop-m.invariant
