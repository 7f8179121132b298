-- `chip::search::reached` meets its contract: what is reached and what is left are as the search has them. Assumes nothing.
use mathlib.Core.Path.{subst}
use Rattle.chip.proofs.Searching.{Searching, searching-none, searching-next, searching-all, searching-less, lowest-left}
use borrow.Author.Rules.{rules}
use Rattle.chip.proofs.search.reached.Goals as goal

pub loop-left-init : goal.loop-left-init
loop-left-init c = searching-none _ _ _ (search rules)

pub loop-left-smaller : goal.loop-left-smaller
loop-left-smaller c =
    let a = c.args in
    let at = c.loop-left in
    let l = lowest-left at.left _ _ at.invariant.left-low c.loop-left-test.true c.lowest-u.ensures c.only.ensures in
    let s = searching-next a.near a.within a.from at.reached at.left _ (search rules) (search rules) at.invariant l.0 in
    rw (c.neighbours.ensures, l.1) (searching-less a.near a.within a.from at.reached at.left _ at.invariant s l.0)

pub loop-left-preserved : goal.loop-left-preserved
loop-left-preserved c =
    let a = c.args in
    let at = c.loop-left in
    let l = lowest-left at.left _ _ at.invariant.left-low c.loop-left-test.true c.lowest-u.ensures c.only.ensures in
    rw (c.neighbours.ensures, l.1) (searching-next a.near a.within a.from at.reached at.left _ (search rules) (search rules) at.invariant l.0)

pub returns : goal.returns
returns c =
    let a = c.args in
    let at = c.loop-left in
    searching-all a.near a.within a.from at.reached (subst (Searching a.near a.within a.from at.reached) c.loop-left-test.false at.invariant)
