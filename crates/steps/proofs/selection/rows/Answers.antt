-- `steps::selection::rows` meets its contract: the columns passed are tallied. Assumes nothing.
use mathlib.Core.Path.{sym, ◌∙◌, subst}
use Rattle.steps.proofs.Selecting.{RowsCounted, rows_none, rows_few, rows-tallied, rows-passed, rows_all}
use borrow.Author.Rules.{rules}
use Rattle.steps.proofs.selection.rows.Goals.{then-chosen, else-chosen}
use Rattle.steps.proofs.selection.rows.Goals as goal

pub loop-k-init : goal.loop-k-init
loop-k-init c = rows_none _ _

pub tallied-next-requires : goal.tallied-next-requires
tallied-next-requires c = rows_few _ _ c.loop-k.k _ (search rules) c.loop-k.invariant

pub loop-k-preserved : goal.loop-k-preserved
loop-k-preserved c =
    let at = c.loop-k in
    elim c.if-chosen.branch [
      | then-chosen w ↦ rows-tallied _ _ at.k _ at.z _ w.if-chosen.true w.entry.ensures (w.z-is ∙ w.tallied-next.ensures) at.invariant
      | else-chosen w ↦ subst (RowsCounted _ _ _) (sym w.z-is) (rows-passed _ _ at.k at.z w.if-chosen.false at.invariant)
    ]

pub returns : goal.returns
returns c = rows_all _ _ c.loop-k.k _ (search rules) c.loop-k.invariant
