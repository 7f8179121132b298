-- `qasm_text::write::write` meets its contract: the first refusal decides, and what fits is written. Assumes nothing.
use mathlib.Core.Path.{refl, sym, ap, ◌∙◌}
use borrow.Author.Tests.{leb-true}
use Rattle.std.specs.Prelude.{Ok, Err}
use Rattle.std.proofs.lemmas.Result.{err_from_is_err_and}
use Rattle.sets.specs.Pick.{pick}
use Rattle.verdicts.specs.declared.verdict.Refusal.TheVariants.{Room}
use Rattle.verdicts.proofs.Answered.{then-ok, then-err, gives-value, gives-refusal}
use Rattle.lines.proofs.Writes.{sets-onto}
use Rattle.qasm_lines.specs.Spelling.{circuit_text}
use Rattle.qasm_text.specs.Writings.{judged_circuit, circuit_writing}
use Rattle.qasm_text.proofs.write.write.Goals as goal

pub returns-in_err-judge_qubits : goal.returns-in_err-judge_qubits
unfolding judged_circuit circuit_writing
returns-in_err-judge_qubits c =
    let p = err_from_is_err_and c.from_residual.result c.from_residual.ensures.1 in
    rw (p.1, p.2) (gives-refusal _ (then-err _ (sym c.judge_qubits.ensures ∙ c.in_err-judge_qubits.was)), refl)

pub returns-in_err-judge_drawn : goal.returns-in_err-judge_drawn
unfolding judged_circuit circuit_writing
returns-in_err-judge_drawn c =
    let p = err_from_is_err_and c.from_residual-in_err-judge_drawn.result c.from_residual-in_err-judge_drawn.ensures.1 in
    let one = sym c.judge_qubits.ensures ∙ c.in_ok-judge_qubits.was in
    rw (p.1, p.2) (gives-refusal _ (then-ok one ∙ then-err _ (sym c.judge_drawn.ensures ∙ c.in_err-judge_drawn.was)), refl)

pub returns-then-not-fits : goal.returns-then-not-fits
unfolding judged_circuit circuit_writing
returns-then-not-fits c =
    let one = sym c.judge_qubits.ensures ∙ c.in_ok-judge_qubits.was in
    let two = sym c.judge_drawn.ensures ∙ c.in_ok-judge_drawn.was in
    (gives-refusal _ (then-ok one ∙ then-ok two ∙ ap (λ t. pick t (Ok tt) (Err Room)) (sym c.fits.ensures ∙ c.if-not-fits.true)), refl)

pub put_circuit-requires : goal.put_circuit-requires
put_circuit-requires c = leb-true _ _ (sym c.fits.ensures ∙ c.if-not-fits.false)

pub returns : goal.returns
unfolding judged_circuit circuit_writing
returns c =
    let a = c.args in
    let p = c.put_circuit in
    let one = sym c.judge_qubits.ensures ∙ c.in_ok-judge_qubits.was in
    let two = sym c.judge_drawn.ensures ∙ c.in_ok-judge_drawn.was in
    let fit = sym c.fits.ensures ∙ c.if-not-fits.false in (
      ap Ok p.ensures.bytes ∙ gives-value _ (then-ok one ∙ then-ok two ∙ ap (λ t. pick t (Ok tt) (Err Room)) fit),
      p.ensures.written ∙ sets-onto (circuit_text a.version a.n a.gates.now a.phase) a.text.now (leb-true _ _ fit),
    )
