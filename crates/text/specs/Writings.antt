-- What writing answers (document 01, "Records and refusals"). What it leaves in the lent text is `lent_after` of reading.
use Rattle.std.specs.Prelude.{ℕ, List, length, Result, Ok}
use Rattle.std.specs.Result.{result_and, result_unwrap_or}
use Rattle.verdicts.specs.declared.verdict.Refusal.{Refusal}
use Rattle.verdicts.specs.Verdicts.{Verdict, judged_qubits, judged_couplers, judged_drawn}
use Rattle.verdicts.specs.InOrder.{and_then}
use Rattle.lines.specs.Lines.{text_of}
use Rattle.reading.specs.Readings.{judged_places}

-- ---- the value of an answer, whose number and place are those of its verdict: "the number of bytes", 0 on refusal

abbrev pub write_bytes : Result ℕ Refusal → ℕ
write_bytes answer = result_unwrap_or answer 0

-- "writing tests 1, 2, 3, 5 and then 8, given exactly when the text is longer than the room"; 5 is that of a job, where Hadamards may stand between the gates
unfoldable pub judged_text : ℕ → List ℕ → List ℕ → ℕ → Verdict
judged_text n couplers gates room =
    and_then (judged_qubits n)
    (and_then (judged_couplers n couplers) (and_then (judged_drawn n gates) (judged_places (length (text_of n couplers gates)) room)))

unfoldable pub writing_of : ℕ → List ℕ → List ℕ → ℕ → Result ℕ Refusal
writing_of n couplers gates room = result_and (judged_text n couplers gates room) (Ok (length (text_of n couplers gates)))
