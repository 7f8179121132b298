-- `steps::choice::best` meets its contract: no worth passed is met, and at this worth no qubit passed. Assumes nothing.
use mathlib.Core.Path.{refl, sym, ◌∙◌}
use Prim.Native.Nat.{◌-◌}
use native.Mathlib.Omega.{arith}
use Rattle.steps.proofs.Choosing.{worth-all, worth-here, worth-not, worth-other, best-hit, best_none, best-end}
use borrow.Author.Rules.{rules}
use Rattle.steps.proofs.choice.best.Goals.{then-may-q+else-worth-q, else-may-q}
use Rattle.steps.proofs.choice.best.Goals as goal

pub search-init : goal.search-init
search-init c = (search rules, refl, refl)

pub loop-q-init : goal.loop-q-init
loop-q-init c = (search rules, worth-all _ _ _, c.search.invariant.2)

pub search-preserved : goal.search-preserved
search-preserved c =
    let at = c.loop-q in
    let w = c.search.w in
    (search rules, sym (best_none _ _ w (w - 1) at.q (omega arith) (search rules) at.invariant.1) ∙ c.search.invariant.1, at.invariant.2)

pub loop-q-preserved : goal.loop-q-preserved
loop-q-preserved c =
    let at = c.loop-q in
    let w = c.search.w in (
      search rules,
      elim c.if-may-q.branch [
        | then-may-q+else-worth-q k ↦ sym (worth-other _ _ (w - 1) at.q (search rules) k.if-may-q.true k.if-worth-q.false) ∙ at.invariant.1
        | else-may-q k ↦ sym (worth-not _ _ (w - 1) at.q (search rules) k.if-may-q.false) ∙ at.invariant.1
      ],
      at.invariant.2,
    )

pub returns-after-search : goal.returns-after-search
returns-after-search c = c.search.invariant.2 ∙ sym (best-end _ _ c.search.w (search rules)) ∙ c.search.invariant.1

pub returns-then-worth-q : goal.returns-then-worth-q
returns-then-worth-q c =
    let at = c.loop-q in
    let w = c.search.w in
    sym (best-hit _ _ w (w - 1) at.q (omega arith) (sym at.invariant.1 ∙ worth-here _ _ (w - 1) at.q (search rules) c.if-may-q.true c.if-worth-q.true) (search rules)) ∙ c.search.invariant.1
