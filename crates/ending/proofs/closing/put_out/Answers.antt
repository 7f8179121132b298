-- `ending::closing::put_out` meets its contract. Assumes nothing.
use Rattle.ending.proofs.Choosing.{gates-both}
use Rattle.ending.proofs.Writing.{written_both}
use Rattle.ending.proofs.closing.put_out.Goals as goal

pub returns : goal.returns
returns c =
    let first = rw c.as_slice.ensures at c.put_moves-mid.ensures in
    let second = rw c.as_slice-2.ensures at c.put_moves.ensures in
    written_both _ _ _ _ _ _ _ _ _ (gates-both c.args.taking.now) first.0 first.1 second.0 second.1
