-- `nearest::orders::Orders::over_qubits` meets its contract: the qubits still to try lead to the same choice. Assumes nothing.
use Rattle.nearest.proofs.Trying.{trying-none, trying-past, trying-has, trying-less, trying-next}
use borrow.Author.Rules.{rules}
use Rattle.nearest.proofs.orders.Orders.over_qubits.Goals as goal

pub returns-then-v-ge-QUBITS : goal.returns-then-v-ge-QUBITS
returns-then-v-ge-QUBITS c = trying-past _ _ _ _ _ _ _ c.loop-left.invariant (search rules) c.loop-left-test.true _ c.lowest-v.ensures c.if-v-ge-QUBITS.true

pub tried-best-requires : goal.tried-best-requires
tried-best-requires c = (search rules, trying-has _ _ _ _ _ _ _ c.loop-left.invariant (search rules) c.loop-left-test.true _ c.lowest-v.ensures)

pub loop-left-smaller : goal.loop-left-smaller
loop-left-smaller c = trying-less _ _ _ _ _ _ _ c.loop-left.invariant (search rules) c.loop-left-test.true _ c.lowest-v.ensures (search rules) _ c.only-left.ensures

pub loop-left-preserved : goal.loop-left-preserved
loop-left-preserved c = trying-next _ _ _ _ _ _ _ c.loop-left.invariant (search rules) c.loop-left-test.true _ c.lowest-v.ensures (search rules) _ c.only-left.ensures _ c.tried-best.ensures

pub returns : goal.returns
returns c = trying-none _ _ _ _ _ _ _ c.loop-left.invariant c.loop-left-test.false
