-- What writing a circuit answers (requests E1 and E5). What it leaves in the lent text is `lent_after` of reading.
use Rattle.std.specs.Prelude.{ℕ, ◌%◌, List, length, Result, Ok}
use Rattle.std.specs.Result.{result_and}
use Rattle.verdicts.specs.declared.verdict.Refusal.{Refusal}
use Rattle.verdicts.specs.Verdicts.{Verdict, judged_qubits, judged_drawn}
use Rattle.verdicts.specs.InOrder.{and_then}
use Rattle.reading.specs.Readings.{judged_places}
use Rattle.angles.specs.declared.Scale.TheVariants.{Halves}
use Rattle.angles.specs.Units.{turn_in}
use Rattle.versions.specs.declared.Version.{Version}
use Rattle.versions.specs.declared.Version.TheVariants.{Two, Three}
use Rattle.qasm_lines.specs.Spelling.{circuit_text}

-- as writing a job tests 1, 5 "and then 8, given exactly when the text is longer than the room"; Hadamards may stand between the gates
unfoldable pub judged_circuit : Version → ℕ → List ℕ → ℕ → ℕ → Verdict
judged_circuit v n gates phase room = and_then (judged_qubits n) (and_then (judged_drawn n gates) (judged_places (length (circuit_text v n gates phase)) room))

unfoldable pub circuit_writing : Version → ℕ → List ℕ → ℕ → ℕ → Result ℕ Refusal
circuit_writing v n gates phase room = result_and (judged_circuit v n gates phase room) (Ok (length (circuit_text v n gates phase)))

-- the common phase that a circuit's text says, in half units; for 2.0 a comment in its place, which says nothing
unfoldable pub read_phase : Version → ℕ → ℕ
read_phase Two g = 0
read_phase Three g = g % turn_in Halves
