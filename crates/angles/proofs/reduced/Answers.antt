-- `angles::reduced` meets its contract. Assumes nothing.
use native.Mathlib.Omega.{arith}
use Rattle.angles.proofs.Signs.{quotient_fits, more-fits, more-casts, more-count, whole-casts, whole-count}
use Rattle.angles.proofs.reduced.Goals as goal

pub nonzero_rem-rest : goal.nonzero_rem-rest
nonzero_rem-rest c = (omega arith, quotient_fits c.args.count c.ranges.count)

pub overflow_add-result : goal.overflow_add-result
overflow_add-result c = more-fits c.args.count c.ranges.count

pub overflow_cast-result : goal.overflow_cast-result
overflow_cast-result c = more-casts c.args.count c.ranges.count

pub returns-then-is_negative : goal.returns-then-is_negative
returns-then-is_negative c = more-count c.args.count c.ranges.count c.if-is_negative.true

pub overflow_cast-result-2 : goal.overflow_cast-result-2
overflow_cast-result-2 c = whole-casts c.args.count c.ranges.count c.if-is_negative.false

pub returns : goal.returns
returns c = whole-count c.args.count c.ranges.count c.if-is_negative.false
