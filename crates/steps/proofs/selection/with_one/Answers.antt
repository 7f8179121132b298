-- `steps::selection::with_one` meets its contract: the places passed are marked. Assumes nothing.
use mathlib.Core.Path.{◌∙◌}
use lib.ListN.{length-set}
use Rattle.sets.proofs.Tabling.{marked-none, marked_next}
use Rattle.steps.specs.Selection.{ones_of, one_at}
use Rattle.steps.proofs.Selecting.{one-struck, marked-all}
use borrow.Author.Rules.{rules}
use Rattle.steps.proofs.selection.with_one.Goals as goal

pub loop-k-init : goal.loop-k-init
loop-k-init c = (search rules, c.min-n.ensures, search rules, marked-none _ 256)

pub loop-k-preserved : goal.loop-k-preserved
loop-k-preserved c =
    let at = c.loop-k in
    (search rules, at.invariant.1, length-set at.z _ _ ∙ at.invariant.2, marked_next _ at.k at.z _ (search rules) c.is_one.ensures at.invariant.3)

pub returns : goal.returns
unfolding ones_of
returns c = let at = c.loop-k in marked-all (one_at c.args.r) (one-struck c.args.r) c.args.sel c.args.cols.now _ at.k at.invariant.1 (search rules) _ at.invariant.2 at.invariant.3
