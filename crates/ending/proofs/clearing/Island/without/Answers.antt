-- `ending::clearing::Island::without` meets its contract. Assumes nothing.
use Rattle.ending.proofs.Choosing.{without-is}
use Rattle.ending.proofs.clearing.Island.without.Goals as goal

pub returns : goal.returns
returns c =
    let n1 = rw c.as_slice.ensures at c.moved_all.ensures in
    let n2 = rw c.as_slice-2.ensures at c.moved_all-2.ensures in
    let c1 = rw c.as_slice-3.ensures at c.moved_all-3.ensures in
    let c2 = rw c.as_slice-4.ensures at c.moved_all-4.ensures in
    without-is c.args.taking.now c.args.self.now c.args.q _ _ _ _ _ c.only.ensures n1 n2 c1 c2
