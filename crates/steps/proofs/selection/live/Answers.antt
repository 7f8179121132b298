-- `steps::selection::live` meets its contract: the places passed are marked. Assumes nothing.
use mathlib.Core.Path.{refl, ◌∙◌}
use mathlib.Core.Bool.{Bool, not}
use mathlib.Core.List.{[]}
use Prim.Native.Nat.{ℕ}
use lib.Dec.{eqb}
use lib.ListN.{length-set}
use Rattle.sets.proofs.Tabling.{marked-none, marked_next}
use Rattle.steps.specs.Selection.{live_of}
use Rattle.steps.proofs.Selecting.{marked-all}
use borrow.Author.Rules.{rules}
use Rattle.steps.proofs.selection.live.Goals as goal

pub loop-k-init : goal.loop-k-init
loop-k-init c = (search rules, c.min-n.ensures, search rules, marked-none _ 256)

pub loop-k-preserved : goal.loop-k-preserved
loop-k-preserved c =
    let at = c.loop-k in
    (search rules, at.invariant.1, length-set at.z _ _ ∙ at.invariant.2, marked_next _ at.k at.z _ (search rules) refl at.invariant.3)

pub returns : goal.returns
unfolding live_of
returns c = let at = c.loop-k in marked-all (λ (s : Bool) (x : ℕ). not (eqb x 0)) (λ s. refl) [] c.args.cols.now _ at.k at.invariant.1 (search rules) _ at.invariant.2 at.invariant.3
