-- The cycle of calls {base, ones}: each meets its contract. Assumes nothing.
use Rattle.std.proofs.Common.{sym, ◌∙◌, arith}
use Rattle.columns.proofs.Working.{same-still, same-then}
use Rattle.steps.proofs.Selecting.{count-few}
use Rattle.steps.proofs.Unfolding.{base-returns-zero, base-returns-none, base-returns-on, ones-returns-zero, ones-returns-none, ones-returns-on}
use Rattle.steps.proofs.steps.+base_ones.Goals as goal

pub base-returns-then-qubits-eq0 : goal.base-returns-then-qubits-eq0
base-returns-then-qubits-eq0 t c =
    record { same = same-still _; memory = base-returns-zero _ _ _ _ _ _ _ _ c.if-qubits-eq0.true }

pub base-returns-then-count-eq0 : goal.base-returns-then-count-eq0
base-returns-then-count-eq0 t c =
    record { same = same-still _; memory = base-returns-none _ _ _ _ _ _ _ _ (sym c.count.ensures ∙ c.if-count-eq0.true) }

pub base-base-requires : goal.base-base-requires
base-base-requires t c =
    (omega (arith, c.if-qubits-eq0.false), tt)

pub base-ones-requires : goal.base-ones-requires
base-ones-requires t c =
    (omega (arith, c.if-qubits-eq0.false, count-few _ _ c.count-2.ensures), tt)

pub base-returns : goal.base-returns
base-returns t c =
    let a = c.base.ensures in
    let b = c.ones.ensures in
    record {
      same = same-then a.same b.same;
      memory = base-returns-on _ _ _ _ _ _ _ _ _ (rw c.columns.ensures at c.spared-r.ensures) (λ e. c.if-count-eq0.false (c.count.ensures ∙ e)) c.if-qubits-eq0.false _ _ _ c.rest.ensures
          (rw c.columns-2.ensures at c.zeros-zeros.ensures) (rw c.columns-3.ensures at c.with_one-with_one.ensures)
          a.memory c.count-2.ensures (rw a.same.angles at b.memory);
    }

pub ones-returns-then-columns-eq0 : goal.ones-returns-then-columns-eq0
ones-returns-then-columns-eq0 t c =
    record { same = same-still _; memory = ones-returns-zero _ _ _ _ _ _ _ _ _ _ c.if-columns-eq0.true }

pub ones-returns-then-count-eq0 : goal.ones-returns-then-count-eq0
ones-returns-then-count-eq0 t c =
    record { same = same-still _; memory = ones-returns-none _ _ _ _ _ _ _ _ _ _ (sym c.count.ensures ∙ c.if-count-eq0.true) }

pub ones-base-requires : goal.ones-base-requires
ones-base-requires t c =
    (omega arith, tt)

pub ones-overflow_sub-columns : goal.ones-overflow_sub-columns
ones-overflow_sub-columns t c =
    omega (arith, c.if-columns-eq0.false)

pub ones-ones-requires : goal.ones-ones-requires
ones-ones-requires t c =
    (omega (arith, c.if-columns-eq0.false), tt)

pub ones-returns : goal.ones-returns
ones-returns t c =
    let a = c.move_on.ensures in
    let b = c.base.ensures in
    let d = c.ones.ensures in
    record {
      same = same-then a.same (same-then b.same d.same);
      memory = ones-returns-on _ _ _ _ _ _ _ _ _ _ _ (rw c.columns.ensures at c.partnered-m.ensures) (λ e. c.if-count-eq0.false (c.count.ensures ∙ e)) c.if-columns-eq0.false _ (rw c.columns-2.ensures at c.row-row.ensures)
          a.memory _ _ _ c.rest.ensures (rw c.columns-3.ensures at c.zeros-freed.ensures) (rw c.columns-4.ensures at c.with_one-held.ensures)
          (rw a.same.angles at b.memory) (rw (b.same.angles, a.same.angles) at d.memory);
    }
