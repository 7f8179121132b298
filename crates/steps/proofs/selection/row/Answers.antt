-- `steps::selection::row` meets its contract: the ones of the places passed are counted. Assumes nothing.
use mathlib.Core.Path.{refl, sym, ◌∙◌}
use mathlib.Core.Bool.{true, false}
use native.Mathlib.Omega.{arith}
use Rattle.steps.proofs.Selecting.{row-none, row_next, row_small, row-front}
use borrow.Author.Rules.{rules}
use Rattle.steps.proofs.selection.row.Goals.{then-is_one, else-is_one}
use Rattle.steps.proofs.selection.row.Goals as goal

pub loop-k-init : goal.loop-k-init
loop-k-init c = (search rules, c.min-n.ensures, row-none _ _ _)

pub overflow_add-ones : goal.overflow_add-ones
overflow_add-ones c = omega (arith, c.loop-k.invariant.1, row_small _ _ _ _ _ c.loop-k.invariant.2)

pub loop-k-preserved : goal.loop-k-preserved
loop-k-preserved c =
    let at = c.loop-k in (
      search rules,
      at.invariant.1,
      elim c.if-is_one.branch [
        | then-is_one w ↦ row_next _ _ _ at.k at.ones _ _ true (sym w.if-is_one.true ∙ c.is_one.ensures) refl at.invariant.2 w.ones-is
        | else-is_one w ↦ row_next _ _ _ at.k at.ones _ _ false (sym w.if-is_one.false ∙ c.is_one.ensures) refl at.invariant.2 (omega (arith, w.ones-is))
      ],
    )

pub returns : goal.returns
returns c = row-front _ _ _ _ c.loop-k.k _ c.loop-k.invariant.1 (search rules) (search rules) c.loop-k.invariant.2
