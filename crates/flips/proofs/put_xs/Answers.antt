use mathlib.Core.Path.{sym, ap, ◌∙◌}
use lib.ListN.{length}
use Rattle.flips.proofs.Putting.{put-none, put-not, put_next, put_all}
use borrow.Author.Rules.{rules}
use Rattle.flips.proofs.put_xs.Goals.{then-asks_flip, else-asks_flip}
use Rattle.flips.proofs.put_xs.Goals as goal

pub loop-q-init : goal.loop-q-init
loop-q-init c = put-none _ _ _ _

pub loop-q-preserved : goal.loop-q-preserved
loop-q-preserved c = let at = c.loop-q in
    let a = c.args in
    elim c.if-asks_flip.branch [
      | then-asks_flip w ↦ put_next a.set a.flip a.out.now a.at at.q at.out at.next (search rules) at.invariant _ _ (sym c.asks_flip.ensures ∙ w.if-asks_flip.true) (ap length w.out-is ∙ w.put_gate-next.auto.out) (w.out-is ∙ w.put_gate-next.ensures.0) (w.next-is ∙ w.put_gate-next.ensures.1)
      | else-asks_flip w ↦ put-not a.set a.flip a.out.now a.at at.q at.out at.next (search rules) at.invariant _ _ (sym c.asks_flip.ensures ∙ w.if-asks_flip.false) w.out-is w.next-is
    ]

pub shape_of-out : goal.shape_of-out
shape_of-out c = c.loop-q.invariant.size

pub returns : goal.returns
returns c = let at = c.loop-q in put_all _ _ _ _ at.q at.out at.next (search rules) at.invariant
