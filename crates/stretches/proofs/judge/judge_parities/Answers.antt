-- `stretches::judge::judge_parities` meets its contract: every stretch passed stays within 256 parities. Assumes nothing.
use native.Mathlib.Omega.{arith}
use Rattle.stretches.proofs.Judging.{sixth-none, sixth-over, sixth-next, sixth-end, lent-within}
use borrow.Author.Rules.{rules}
use Rattle.stretches.proofs.judge.judge_parities.Goals as goal

pub loop-from-init : goal.loop-from-init
loop-from-init c = sixth-none _ _

pub overflow_add-result : goal.overflow_add-result
overflow_add-result c = search (rules, lent-within _ _ c.loop-from.from _ c.stretch_at-stretch.ensures c.loop-from-test.true)

pub returns-then-over-stretch : goal.returns-then-over-stretch
returns-then-over-stretch c = sixth-over _ _ c.loop-from.from c.loop-from-test.true _ c.stretch_at-stretch.ensures _ c.over_at-over.ensures c.loop-from.invariant c.if-over-stretch.true

pub overflow_add-from : goal.overflow_add-from
overflow_add-from c = search (rules, lent-within _ _ c.loop-from.from _ c.stretch_at-stretch.ensures c.loop-from-test.true)

pub overflow_add-from-in-loop-from : goal.overflow_add-from-in-loop-from
overflow_add-from-in-loop-from c = search (rules, lent-within _ _ c.loop-from.from _ c.stretch_at-stretch.ensures c.loop-from-test.true)

pub loop-from-smaller : goal.loop-from-smaller
loop-from-smaller c = omega (arith, lent-within _ _ c.loop-from.from _ c.stretch_at-stretch.ensures c.loop-from-test.true)

pub loop-from-preserved : goal.loop-from-preserved
loop-from-preserved c = sixth-next _ _ c.loop-from.from c.loop-from-test.true _ c.stretch_at-stretch.ensures _ c.over_at-over.ensures c.loop-from.invariant c.if-over-stretch.false

pub returns : goal.returns
returns c = sixth-end _ _ c.loop-from.from (search rules) c.loop-from.invariant
