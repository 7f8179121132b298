-- `stretches::job::judge_room` meets its contract: what is left of the room, and what is still due. Assumes nothing.
use native.Mathlib.Omega.{arith}
use Rattle.stretches.proofs.Judging.{eighth-none, eighth-counted, eighth-short, eighth-full, eighth-next, eighth-end, lent-within}
use borrow.Author.Rules.{rules}
use Rattle.stretches.proofs.job.judge_room.Goals as goal

pub loop-from-init : goal.loop-from-init
loop-from-init c = eighth-none _ _ _ c.requires.1

pub bound_of-bound-requires : goal.bound_of-bound-requires
bound_of-bound-requires c = (c.requires.0, eighth-counted _ _ c.args.room c.loop-from.left c.loop-from.from c.loop-from-test.true _ c.stretch_at-stretch.ensures c.loop-from.invariant)

pub returns-then-left-bound : goal.returns-then-left-bound
returns-then-left-bound c = eighth-short _ _ c.args.room c.loop-from.left c.loop-from.from c.loop-from-test.true _ c.stretch_at-stretch.ensures c.loop-from.invariant _ c.bound_of-bound.ensures c.if-left-bound.true

pub returns-then-left-hadamards : goal.returns-then-left-hadamards
returns-then-left-hadamards c = eighth-full _ _ c.args.room c.loop-from.left c.loop-from.from c.loop-from-test.true _ c.stretch_at-stretch.ensures c.loop-from.invariant _ c.bound_of-bound.ensures c.if-left-bound.false _ c.hadamard_at-hadamards.ensures c.if-left-hadamards.true

pub overflow_add-from : goal.overflow_add-from
overflow_add-from c = search (rules, lent-within _ _ c.loop-from.from _ c.stretch_at-stretch.ensures c.loop-from-test.true)

pub overflow_add-from-in-loop-from : goal.overflow_add-from-in-loop-from
overflow_add-from-in-loop-from c = search (rules, lent-within _ _ c.loop-from.from _ c.stretch_at-stretch.ensures c.loop-from-test.true)

pub loop-from-smaller : goal.loop-from-smaller
loop-from-smaller c = omega (arith, lent-within _ _ c.loop-from.from _ c.stretch_at-stretch.ensures c.loop-from-test.true)

pub loop-from-preserved : goal.loop-from-preserved
loop-from-preserved c = eighth-next _ _ c.args.room c.loop-from.left c.loop-from.from c.loop-from-test.true _ c.stretch_at-stretch.ensures c.loop-from.invariant _ c.bound_of-bound.ensures c.if-left-bound.false _ c.hadamard_at-hadamards.ensures c.if-left-hadamards.false

pub returns : goal.returns
returns c = eighth-end _ _ c.args.room c.loop-from.left c.loop-from.from (search rules) c.loop-from.invariant
