-- `qasm_reading::read::read` meets its contract. Assumes nothing.
use mathlib.Core.Path.{refl, sym, ap, ◌∙◌}
use lib.ListN.{length}
use Rattle.reading.specs.Readings.{lent_after}
use Rattle.words.specs.Words.{words}
use Rattle.words.specs.Places.{words_at}
use Rattle.qasm_reading.specs.Parsing.{parsed_circuit}
use Rattle.qasm_reading.specs.Readings.{found_answer, circuit_gates}
use Rattle.qasm_reading.proofs.Answers.{reading-long, reading-is, parsed-two, parsed-three, parsed-neither}
use Rattle.qasm_reading.proofs.read.read.Goals as goal

pub returns-then-text-gt-MOST_BYTES : goal.returns-then-text-gt-MOST_BYTES
returns-then-text-gt-MOST_BYTES c = (reading-long c.args.text.now (length c.args.gates.now) c.if-text-gt-MOST_BYTES.true, refl)

pub returns-in-Some : goal.returns-in-Some
unfolding parsed_circuit
returns-in-Some c =
    let s = c.args.text.now in
    let old = c.args.gates.now in
    let e = parsed-two (words s) c.version.ensures _ (ap (words_at s) c.in-Some.is) in (
      c.behind_version.ensures.answer ∙ sym (reading-is s (length old) c.if-text-gt-MOST_BYTES.false ∙ ap (found_answer s (length old)) e),
      c.behind_version.ensures.list ∙ sym (ap (λ p. lent_after c.behind_version.result (circuit_gates p) old) e),
    )

pub returns-in-Some-version : goal.returns-in-Some-version
unfolding parsed_circuit
returns-in-Some-version c =
    let s = c.args.text.now in
    let old = c.args.gates.now in
    let e = parsed-three (words s) c.version.ensures (ap (words_at s) c.in_default.is) c.version-2.ensures _ (ap (words_at s) c.in-Some-version.is) in (
      c.behind_version-in-Some-version.ensures.answer ∙ sym (reading-is s (length old) c.if-text-gt-MOST_BYTES.false ∙ ap (found_answer s (length old)) e),
      c.behind_version-in-Some-version.ensures.list ∙ sym (ap (λ p. lent_after c.behind_version-in-Some-version.result (circuit_gates p) old) e),
    )

pub returns : goal.returns
unfolding parsed_circuit
returns c =
    let s = c.args.text.now in
    let old = c.args.gates.now in
    let e = parsed-neither (words s) c.version.ensures (ap (words_at s) c.in_default.is) c.version-2.ensures (ap (words_at s) c.in_default-version.is) in
    (sym (reading-is s (length old) c.if-text-gt-MOST_BYTES.false ∙ ap (found_answer s (length old)) e), refl)
