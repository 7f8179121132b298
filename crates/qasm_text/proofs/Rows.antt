-- The table of document 01 holds of what writing a circuit answers, row by row. Assumes nothing.
use mathlib.Core.Path.{refl, sym, subst}
use mathlib.Core.Logic.{◌≢◌}
use mathlib.Core.List.{List}
use Prim.Native.Nat.{ℕ, ◌≤◌, ◌<◌}
use native.Mathlib.Omega.{arith}
use lib.ListN.{length}
use Rattle.std.specs.Prelude.{Err}
use Rattle.verdicts.specs.declared.verdict.Refusal.TheVariants.{Room}
use Rattle.verdicts.specs.Verdicts.{Verdict, verdict_in, judged_qubits, judged_drawn}
use Rattle.verdicts.specs.InOrder.{and_then}
use Rattle.verdicts.specs.Rows.{Row, Nowhere, Passes1, PassesDrawn}
use Rattle.verdicts.proofs.Rows.{Tests, row-fails, row-passes, row-then, row_first, Beyond, beyond-not, beyond-test, beyond-then, tests-1, tests-drawn}
use Rattle.reading.specs.Readings.{judged_places}
use Rattle.text.proofs.Rows.{room-tests}
use Rattle.versions.specs.declared.Version.{Version}
use Rattle.qasm_lines.specs.Spelling.{circuit_text}
use Rattle.qasm_text.specs.Writings.{judged_circuit, circuit_writing}
use Rattle.qasm_text.specs.Rows.{CircuitWritingRows}
use Rattle.qasm_text.proofs.Values.{writing-verdict}

module _ (v : Version) (n : ℕ) (gates : List ℕ) (g room : ℕ) where
  abbrev judged_fit : Verdict
  judged_fit = judged_places (length (circuit_text v n gates g)) room

  abbrev behind1 : Verdict
  behind1 = and_then (judged_drawn n gates) judged_fit

  tests-8 : Tests judged_fit 8 (length (circuit_text v n gates g) ≤ room) (room < length (circuit_text v n gates g)) Nowhere
  tests-8 = room-tests (length (circuit_text v n gates g)) room (Err Room) (omega arith) refl

  beyond5 : Beyond 5 judged_fit
  beyond5 = beyond-test tests-8 5 (omega arith)

  beyond1 : Beyond 1 behind1
  beyond1 = beyond-then (tests-drawn n gates) 1 (omega arith) judged_fit (λ p. beyond5)

  past1 : (j : ℕ) {When : Type 0} {At : ℕ → Type 0} → j ≢ 1 → Row behind1 j When At → Row (and_then (judged_qubits n) behind1) j (Passes1 n × When) At
  past1 j ne r = row-then (tests-1 n) behind1 j ne (λ p. r)

  past5 : (j : ℕ) {When : Type 0} {At : ℕ → Type 0} → j ≢ 1 → j ≢ 5 → Row judged_fit j When At → Row (and_then (judged_qubits n) behind1) j (Passes1 n × (PassesDrawn n gates × When)) At
  past5 j a b r = past1 j a (row-then (tests-drawn n gates) judged_fit j b (λ p. r))

  judged-rows : CircuitWritingRows v n gates g room (judged_circuit v n gates g room)
  unfolding judged_circuit
  judged-rows = record {
    row_0 = past5 0 (λ e. omega (arith, e)) (λ e. omega (arith, e)) (row-passes tests-8);
    row_1 = row_first (tests-1 n) behind1 (λ p. beyond-not 1 behind1 (omega arith) beyond1);
    row_5 = past1 5 (λ e. omega (arith, e)) (row_first (tests-drawn n gates) judged_fit (λ p. beyond-not 5 judged_fit (omega arith) beyond5));
    row_8 = past5 8 (λ e. omega (arith, e)) (λ e. omega (arith, e)) (row-fails tests-8);
  }

  pub writing-rows : CircuitWritingRows v n gates g room (verdict_in (circuit_writing v n gates g room))
  writing-rows = subst (CircuitWritingRows v n gates g room) (sym (writing-verdict v n gates g room)) judged-rows
