-- `steps::selection::count` meets its contract: n is the count of the places passed. Assumes nothing.
use mathlib.Core.Path.{sym}
use mathlib.Core.Bool.{true, false}
use native.Mathlib.Omega.{arith}
use Rattle.steps.proofs.Selecting.{counted_none, counted_next, counted-small, counted-all}
use borrow.Author.Rules.{rules}
use Rattle.steps.proofs.selection.count.Goals.{then-chosen, else-chosen}
use Rattle.steps.proofs.selection.count.Goals as goal

pub loop-chosen-init : goal.loop-chosen-init
loop-chosen-init c = counted_none _

pub overflow_add-n : goal.overflow_add-n
overflow_add-n c = let small = counted-small _ _ _ c.loop-chosen.invariant in search rules

pub loop-chosen-preserved : goal.loop-chosen-preserved
loop-chosen-preserved c =
    let at = c.loop-chosen in
    elim c.if-chosen.branch [
      | then-chosen w ↦ counted_next _ at.chosen-index at.n _ true (sym w.if-chosen.true) at.invariant w.n-is
      | else-chosen w ↦ counted_next _ at.chosen-index at.n _ false (sym w.if-chosen.false) at.invariant (omega (arith, w.n-is))
    ]

pub returns : goal.returns
returns c = counted-all _ c.loop-chosen.chosen-index _ (search rules) c.loop-chosen.invariant
