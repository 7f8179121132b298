-- `laying::lay::lay_on` meets its contract: the islands below q are laid. Assumes nothing.
use mathlib.Core.Path.{sym, ◌∙◌}
use Rattle.laying.proofs.Walking.{walked_none, walked-moved, walked_all, walked-not, walked-led, phase-is, idles}
use borrow.Author.Rules.{rules}
use Rattle.laying.proofs.lay.lay_on.Goals.{then-lowest-q, else-lowest-q}
use Rattle.laying.proofs.lay.lay_on.Goals as goal

pub loop-q-init : goal.loop-q-init
loop-q-init c = walked_none _ _ _ _

pub lay_own-next-requires : goal.lay_own-next-requires
lay_own-next-requires c = let a = c.args in
    idles a.n a.near _ a.gates.now c.requires c.tell-told.result _ c.tell-told.ensures c.mirrored-mirror.ensures c.loop-q.q (search rules) _ c.handed.ensures

pub loop-q-preserved : goal.loop-q-preserved
loop-q-preserved c = let at = c.loop-q in
    let a = c.args in
    elim c.if-lowest-q.branch [
      | then-lowest-q w ↦ walked-moved _ _ _ _ at.q _ _ _ _ w.out-is w.at-is
          (walked-led a.n a.near _ a.gates.now c.requires c.tell-told.result _ c.tell-told.ensures c.mirrored-mirror.ensures at.q (search rules) _ w.handed.ensures
          _ at.out _ _ at.at _ _ w.lay_own-next.ensures.0 w.lay_own-next.ensures.1 w.put_xs-at.ensures.0 w.put_xs-at.ensures.1 (sym c.lowest.ensures ∙ w.if-lowest-q.true) at.invariant)
      | else-lowest-q w ↦ walked-moved _ _ _ _ at.q _ _ _ _ w.out-is w.at-is
          (walked-not a.n a.near _ a.gates.now c.requires c.tell-told.result _ c.tell-told.ensures c.mirrored-mirror.ensures at.q (search rules) _ at.out at.at (λ h. w.if-lowest-q.false (c.lowest.ensures ∙ h)) at.invariant)
    ]

pub shape_of-out : goal.shape_of-out
shape_of-out c = c.loop-q.invariant.size

pub returns : goal.returns
returns c = let a = c.args in
    let w = walked_all _ _ _ _ c.loop-q.q _ _ (search rules) c.loop-q.invariant in
    ((w.0, w.1), phase-is a.n a.near _ a.gates.now c.requires c.tell-told.result _ c.tell-told.ensures c.mirrored-mirror.ensures)
