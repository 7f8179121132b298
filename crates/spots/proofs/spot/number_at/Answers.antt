-- `spots::spot::number_at` meets its contract: what is read so far and the digits left give the number. Assumes nothing.
use mathlib.Core.Path.{sym, ◌∙◌}
use native.Mathlib.Omega.{arith}
use Rattle.spots.proofs.Steps.{digit-in, number-none, number-zero, number_more, more-end, more-on, more-over}
use Rattle.spots.proofs.spot.number_at.Goals as goal

pub returns-in_err-first-clause-value : goal.returns-in_err-first-clause-value
returns-in_err-first-clause-value c = rw c.from_residual.ensures (number-none c.args.text.now c.args.from c.args.most c.in_err-first.ensures)

pub overflow_add-result : goal.overflow_add-result
overflow_add-result c = omega (arith, digit-in c.args.text.now c.args.from c.in_ok-first.first c.in_ok-first.ensures)

pub returns-then-is_nought-clause-value : goal.returns-then-is_nought-clause-value
returns-then-is_nought-clause-value c = number-zero c.args.text.now c.args.from c.args.most c.in_ok-first.first c.in_ok-first.ensures c.if-is_nought.true

pub loop-d-init : goal.loop-d-init
loop-d-init c = (omega arith, number_more c.args.text.now c.args.from c.args.most c.in_ok-first.first c.in_ok-first.ensures c.if-is_nought.false)

pub returns-then-most-v-clause-value : goal.returns-then-most-v-clause-value
returns-then-most-v-clause-value c = sym (c.loop-d.invariant.1 ∙ more-over c.args.text.now c.loop-d.at c.args.most c.loop-d.v c.in-Some.d c.in-Some.ensures (omega arith))

pub overflow_add-at : goal.overflow_add-at
overflow_add-at c = omega (arith, digit-in c.args.text.now c.loop-d.at c.in-Some.d c.in-Some.ensures)

pub loop-d-smaller : goal.loop-d-smaller
loop-d-smaller c = omega (arith, digit-in c.args.text.now c.loop-d.at c.in-Some.d c.in-Some.ensures)

pub loop-d-preserved : goal.loop-d-preserved
loop-d-preserved c = (omega arith, c.loop-d.invariant.1 ∙ more-on c.args.text.now c.loop-d.at c.args.most c.loop-d.v c.in-Some.d c.in-Some.ensures (omega arith))

pub returns-clause-value : goal.returns-clause-value
returns-clause-value c = sym (c.loop-d.invariant.1 ∙ more-end c.args.text.now c.loop-d.at c.args.most c.loop-d.v c.in_default.ensures)
