-- `qasm_reading::read::behind_version` meets its contract. Assumes nothing.
use mathlib.Core.Path.{refl, sym, ap, ◌∙◌}
use lib.ListN.{length, drop}
use Rattle.reading.specs.Readings.{lent_after}
use Rattle.words.specs.Words.{words}
use Rattle.qasm_reading.specs.Readings.{found_answer, circuit_gates}
use Rattle.qasm_reading.proofs.Answers.{head-refused, included-first, included-second, included-body}
use Rattle.qasm_reading.proofs.read.behind_version.Goals as goal

pub returns-in_default : goal.returns-in_default
returns-in_default c =
    let a = c.args in
    let s = a.text.now in
    let t = words (drop a.at s) in
    let e = included-first a.version t c.in_default.ensures refl in
    record { answer = head-refused s t _ c.head_fault.ensures ∙ sym (ap (found_answer s (length a.gates.now)) e); list = refl }

pub returns-in_default-register : goal.returns-in_default-register
returns-in_default-register c =
    let a = c.args in
    let s = a.text.now in
    let u = words (drop c.in-Some.p s) in
    let e = included-second a.version (words (drop a.at s)) c.in-Some.ensures u refl c.in_default-register.ensures.got in
    record { answer = head-refused s u _ c.head_fault-in_default-register.ensures ∙ sym (ap (found_answer s (length a.gates.now)) e); list = refl }

pub returns : goal.returns
returns c =
    let a = c.args in
    let s = a.text.now in
    let old = a.gates.now in
    let u = words (drop c.in-Some.p s) in
    let r = c.in-Some-register.ensures in
    let e = included-body a.version (words (drop a.at s)) c.in-Some.ensures u refl _ _ r.got r.name.2 in
    record {
      answer = c.body.ensures.answer ∙ sym (ap (found_answer s (length old)) e);
      list = c.body.ensures.list ∙ sym (ap (λ p. lent_after c.body.result (circuit_gates p) old) e);
    }
