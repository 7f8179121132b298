-- `ending::clearing::Island::along` meets its contract. Assumes nothing.
use Rattle.ending.specs.Held.{gates_in}
use Rattle.ending.proofs.Choosing.{out-is}
use Rattle.ending.proofs.clearing.Island.along.Goals as goal

pub returns : goal.returns
unfolding gates_in
returns c =
    let left = rw c.as_slice.ensures at c.moved-left.ensures in
    let i = c.args.self.now in
    out-is i.near i.set i.asked i.mirror c.args.choice _ c.requires.1 _ _ _ _ _ c.row.ensures c.along-first.ensures c.row-2.ensures left c.along-second.ensures
