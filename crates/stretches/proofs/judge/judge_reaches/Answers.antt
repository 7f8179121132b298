-- `stretches::judge::judge_reaches` meets its contract: every stretch passed can be reached. Assumes nothing.
use mathlib.Core.Path.{sym, ◌∙◌}
use native.Mathlib.Omega.{arith}
use Rattle.tallies.specs.Tally.{bound_of}
use Rattle.judging.proofs.Judging.{verdict-found}
use Rattle.stretches.proofs.Judging.{err-went, err-stopped, seventh-none, seventh-not, seventh-next, seventh-end, reaches-one, reaches_more, lent-within}
use borrow.Author.Rules.{rules}
use Rattle.stretches.proofs.judge.judge_reaches.Goals as goal

pub returns-then-hadamard_at-eq0 : goal.returns-then-hadamard_at-eq0
unfolding bound_of
returns-then-hadamard_at-eq0 c = reaches-one _ _ _ _ c.hadamard_at.ensures c.if-hadamard_at-eq0.true c.requires _ (verdict-found _ _ _ _ _ _ c.near.ensures c.islands-islands.ensures _ c.judge_on.ensures)

pub loop-from-init : goal.loop-from-init
loop-from-init c = seventh-none _ _ _ c.requires

pub returns-then-is_err : goal.returns-then-is_err
unfolding bound_of
returns-then-is_err c = reaches_more _ _ _ _ c.hadamard_at.ensures c.if-hadamard_at-eq0.false _ (seventh-not _ _ c.args.couplers.now c.loop-from.from c.loop-from-test.true _ c.stretch_at-stretch.ensures _ (verdict-found _ _ _ _ _ _ c.near.ensures c.islands-islands.ensures _ c.judge_on-reach.ensures) c.loop-from.invariant (err-stopped _ (sym c.is_err.ensures.value ∙ c.if-is_err.true)))

pub overflow_add-from : goal.overflow_add-from
overflow_add-from c = search (rules, lent-within _ _ c.loop-from.from _ c.stretch_at-stretch.ensures c.loop-from-test.true)

pub overflow_add-from-in-loop-from : goal.overflow_add-from-in-loop-from
overflow_add-from-in-loop-from c = search (rules, lent-within _ _ c.loop-from.from _ c.stretch_at-stretch.ensures c.loop-from-test.true)

pub loop-from-smaller : goal.loop-from-smaller
loop-from-smaller c = omega (arith, lent-within _ _ c.loop-from.from _ c.stretch_at-stretch.ensures c.loop-from-test.true)

pub loop-from-preserved : goal.loop-from-preserved
unfolding bound_of
loop-from-preserved c = seventh-next _ _ _ c.loop-from.from c.loop-from-test.true _ c.stretch_at-stretch.ensures _ (verdict-found _ _ _ _ _ _ c.near.ensures c.islands-islands.ensures _ c.judge_on-reach.ensures) c.loop-from.invariant (err-went _ (sym c.is_err.ensures.value ∙ c.if-is_err.false))

pub returns : goal.returns
returns c = reaches_more _ _ _ _ c.hadamard_at.ensures c.if-hadamard_at-eq0.false _ (seventh-end _ _ c.args.couplers.now c.loop-from.from (search rules) c.loop-from.invariant)
