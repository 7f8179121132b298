-- `steps::selection::zeros` meets its contract: the places passed are marked. Assumes nothing.
use mathlib.Core.Path.{◌∙◌}
use lib.ListN.{length-set}
use Rattle.sets.proofs.Tabling.{marked-none, marked_next}
use Rattle.steps.specs.Selection.{zeros_of, zero_at}
use Rattle.steps.proofs.Selecting.{zero-struck, marked-all}
use borrow.Author.Rules.{rules}
use Rattle.steps.proofs.selection.zeros.Goals as goal

pub loop-k-init : goal.loop-k-init
loop-k-init c = (search rules, c.min-n.ensures, search rules, marked-none _ 256)

pub loop-k-preserved : goal.loop-k-preserved
loop-k-preserved c =
    let at = c.loop-k in
    (search rules, at.invariant.1, length-set at.z _ _ ∙ at.invariant.2, marked_next _ at.k at.z _ (search rules) c.is_zero.ensures at.invariant.3)

pub returns : goal.returns
unfolding zeros_of
returns c = let at = c.loop-k in marked-all (zero_at c.args.r) (zero-struck c.args.r) c.args.sel c.args.cols.now _ at.k at.invariant.1 (search rules) _ at.invariant.2 at.invariant.3
