-- `qasm_reading::read::body` meets its contract. Assumes nothing.
use mathlib.Core.Path.{◌≡◌, refl, sym, ap, ◌∙◌}
use native.Mathlib.Omega.{arith}
use lib.ListN.{length, drop}
use Rattle.lines.specs.Lent.{onto}
use Rattle.words.specs.Words.{words}
use Rattle.qasm_reading.specs.Parsing.{circuit, statement_run, end_circuit, behind_register}
use Rattle.qasm_reading.specs.Readings.{found_answer, circuit_gates}
use Rattle.qasm_reading.proofs.Answers.{end-angle, end-statement, end-done, room-short, room-long}
use Rattle.qasm_reading.proofs.read.body.Goals as goal

pub returns-then-bad_angle : goal.returns-then-bad_angle
unfolding behind_register
returns-then-bad_angle c =
    let a = c.args in
    let s = a.text.now in
    let r = statement_run a.version a.name.now (words (drop a.at s)) in
    let l = words (drop c.count-g.result.next s) in
    record {
      answer = end-angle s (length a.gates.now) a.version a.name.now a.n r.records r.phase l (sym c.line_of.ensures ∙ c.in-Some.is) (sym c.bad_angle.ensures ∙ c.if-bad_angle.true)
          ∙ ap (λ x. found_answer s (length a.gates.now) (end_circuit a.version a.name.now a.n r.records r.phase x)) c.count-g.ensures.2;
      list = refl;
    }

pub returns-in-Some : goal.returns-in-Some
unfolding behind_register
returns-in-Some c =
    let a = c.args in
    let s = a.text.now in
    let r = statement_run a.version a.name.now (words (drop a.at s)) in
    let l = words (drop c.count-g.result.next s) in
    record {
      answer = end-statement s (length a.gates.now) a.version a.name.now a.n r.records r.phase l (sym c.line_of.ensures ∙ c.in-Some.is) (sym c.bad_angle.ensures ∙ c.if-bad_angle.false)
          ∙ ap (λ x. found_answer s (length a.gates.now) (end_circuit a.version a.name.now a.n r.records r.phase x)) c.count-g.ensures.2;
      list = refl;
    }

pub returns-then-gates-g : goal.returns-then-gates-g
unfolding behind_register
returns-then-gates-g c =
    let a = c.args in
    let s = a.text.now in
    let r = statement_run a.version a.name.now (words (drop a.at s)) in
    let l = words (drop c.count-g.result.next s) in
    let e : end_circuit a.version a.name.now a.n r.records r.phase l ≡ circuit a.version a.n r.records r.phase
    = end-done s (length a.gates.now) a.version a.name.now a.n r.records r.phase l (sym c.line_of.ensures ∙ c.in_default.is) in
    record {
      answer = room-short s (length a.gates.now) a.version a.n r.records r.phase (omega (arith, c.count-g.ensures.0, c.if-gates-g.true))
          ∙ sym (ap (found_answer s (length a.gates.now)) (ap (end_circuit a.version a.name.now a.n r.records r.phase) (sym c.count-g.ensures.2) ∙ e));
      list = refl;
    }

pub returns : goal.returns
unfolding behind_register
returns c =
    let a = c.args in
    let s = a.text.now in
    let r = statement_run a.version a.name.now (words (drop a.at s)) in
    let l = words (drop c.count-g.result.next s) in
    let e : end_circuit a.version a.name.now a.n r.records r.phase l ≡ circuit a.version a.n r.records r.phase
    = end-done s (length a.gates.now) a.version a.name.now a.n r.records r.phase l (sym c.line_of.ensures ∙ c.in_default.is) in
    let d = ap (end_circuit a.version a.name.now a.n r.records r.phase) (sym c.count-g.ensures.2) ∙ e in
    record {
      answer = room-long s (length a.gates.now) a.version a.n r.records r.phase c.count-g.ensures.0 c.count-g.ensures.1 c.if-gates-g.false ∙ sym (ap (found_answer s (length a.gates.now)) d);
      list = c.fill.ensures ∙ sym (ap (λ p. onto (circuit_gates p) a.gates.now) d);
    }
