-- `qasm_reading::run::count` meets its contract. Assumes nothing.
use mathlib.Core.Path.{sym, ◌∙◌}
use lib.ListN.{drop, length-drop}
use native.Mathlib.Omega.{arith}
use Rattle.words.specs.Words.{words}
use Rattle.qasm_reading.proofs.Runs.{gate-short}
use Rattle.qasm_reading.proofs.Loops.{words-length, one-record, no-record, count-start, count_room, count-step, count-done}
use Rattle.qasm_reading.proofs.run.count.Goals as goal

pub loop-p-init : goal.loop-p-init
loop-p-init c = count-start c.args.version c.args.name.now (words (drop c.args.from c.args.text.now))

pub overflow_add-n : goal.overflow_add-n
overflow_add-n c =
    let t = drop c.args.from c.args.text.now in
    let o = one-record c.in-Some.p.record (sym c.is_some-is_gate.ensures ∙ c.if-is_gate.true) in
    omega (arith, count_room _ _ _ _ _ _ c.loop-p.invariant _ (sym c.in-Some.ensures), o, words-length t, length-drop c.args.from c.args.text.now)

pub loop-p-smaller-then-is_gate : goal.loop-p-smaller-then-is_gate
loop-p-smaller-then-is_gate c = gate-short _ _ _ _ (sym c.in-Some.ensures)

pub loop-p-preserved-then-is_gate : goal.loop-p-preserved-then-is_gate
loop-p-preserved-then-is_gate c =
    let o = one-record c.in-Some.p.record (sym c.is_some-is_gate.ensures ∙ c.if-is_gate.true) in
    count-step _ _ _ _ _ _ c.loop-p.invariant _ (sym c.in-Some.ensures) (omega (arith, o)) c.together-phase.ensures

pub loop-p-smaller : goal.loop-p-smaller
loop-p-smaller c = gate-short _ _ _ _ (sym c.in-Some.ensures)

pub loop-p-preserved : goal.loop-p-preserved
loop-p-preserved c =
    let o = no-record c.in-Some.p.record (sym c.is_some-is_gate.ensures ∙ c.if-is_gate.false) in
    count-step _ _ _ _ _ _ c.loop-p.invariant _ (sym c.in-Some.ensures) (omega (arith, o)) c.together-phase.ensures

pub returns : goal.returns
returns c = count-done _ _ _ _ _ _ c.loop-p.invariant (sym c.in_default.ensures)
