-- `ending::mirror::mirrored` meets its contract: the rows so far, and then the gates that are left. Assumes nothing.
use Rattle.ending.proofs.Writing.{mirror-start, mirror-next, mirror-end}
use borrow.Author.Rules.{rules}
use Rattle.ending.proofs.mirror.mirrored.Goals as goal

pub loop-x-init : goal.loop-x-init
loop-x-init c = mirror-start c.args.n c.args.gates.now _ c.new.ensures

pub loop-x-preserved : goal.loop-x-preserved
loop-x-preserved c = mirror-next c.args.n c.args.gates.now c.loop-x.x-index _ _ _ (search rules) c.decode.ensures c.after-next.ensures c.loop-x.invariant

pub returns : goal.returns
returns c = mirror-end c.args.n c.args.gates.now c.loop-x.x-index _ (search rules) c.loop-x.invariant
