-- `stretches::job::lay_stretches` meets its contract: what is laid already, and what is still to come. Assumes nothing.
use native.Mathlib.Omega.{arith}
use Rattle.stretches.proofs.Judging.{lent-within}
use Rattle.stretches.proofs.Laying.{laying-none, laying-accepts, laying-fits, behind-fits, laying-next, laying-end}
use borrow.Author.Rules.{rules}
use Rattle.stretches.proofs.job.lay_stretches.Goals as goal

pub loop-from-init : goal.loop-from-init
loop-from-init c = laying-none _ _ _ _ c.requires.0

pub lay_stretch-part-requires : goal.lay_stretch-part-requires
lay_stretch-part-requires c = (laying-accepts _ _ _ c.args.out.now c.loop-from.from c.loop-from.out c.loop-from.at c.loop-from.phase c.loop-from.invariant c.loop-from-test.true _ c.stretch_at-stretch.ensures, laying-fits _ _ _ c.args.out.now c.loop-from.from c.loop-from.out c.loop-from.at c.loop-from.phase c.loop-from.invariant c.loop-from-test.true _ c.stretch_at-stretch.ensures c.requires.1)

pub store_records-at-requires : goal.store_records-at-requires
store_records-at-requires c = behind-fits _ _ _ c.args.out.now c.loop-from.from c.loop-from.out c.loop-from.at c.loop-from.phase c.loop-from.invariant c.loop-from-test.true _ c.stretch_at-stretch.ensures c.requires.1 _ c.lay_stretch-part.ensures.2 _ c.hadamard_at.ensures _ c.lay_stretch-part.ensures.0

pub overflow_add-from : goal.overflow_add-from
overflow_add-from c = search (rules, lent-within _ _ c.loop-from.from _ c.stretch_at-stretch.ensures c.loop-from-test.true)

pub overflow_add-from-in-loop-from : goal.overflow_add-from-in-loop-from
overflow_add-from-in-loop-from c = search (rules, lent-within _ _ c.loop-from.from _ c.stretch_at-stretch.ensures c.loop-from-test.true)

pub loop-from-smaller : goal.loop-from-smaller
loop-from-smaller c = omega (arith, lent-within _ _ c.loop-from.from _ c.stretch_at-stretch.ensures c.loop-from-test.true)

pub loop-from-preserved : goal.loop-from-preserved
loop-from-preserved c = laying-next _ _ _ c.args.out.now c.loop-from.from c.loop-from.out c.loop-from.at c.loop-from.phase c.loop-from.invariant c.loop-from-test.true _ c.stretch_at-stretch.ensures _ _ c.lay_stretch-part.ensures.1 c.together-phase.ensures _ _ _ _ _ c.hadamard_at.ensures c.lay_stretch-part.ensures.2 c.lay_stretch-part.ensures.0 c.store_records-at.ensures.1 c.store_records-at.ensures.0

pub shape_of-out : goal.shape_of-out
shape_of-out c = c.loop-from.invariant.size

pub returns : goal.returns
returns c = laying-end _ _ _ c.args.out.now c.loop-from.from c.loop-from.out c.loop-from.at c.loop-from.phase (search rules) c.loop-from.invariant
