-- What reading answers, and what it leaves in the lent lists (document 01, "Records and refusals").
use Rattle.std.specs.Prelude.{ℕ, List, [], length, leb, Result, Ok, Err}
use Rattle.std.specs.Result.{result_and, result_unwrap_or}
use Rattle.sets.specs.Pick.{pick, both}
use Rattle.gates.specs.declared.job.Job.{Job}
use Rattle.verdicts.specs.Verdicts.{Verdict}
use Rattle.verdicts.specs.declared.verdict.Refusal.{Refusal}
use Rattle.verdicts.specs.declared.verdict.Refusal.TheVariants.{Room, Line, LongText}
use Rattle.verdicts.specs.InOrder.{and_then}
use Rattle.reading.specs.Limits.{most_bytes}
use Rattle.reading.specs.Parsing.{Parsed, misfit, job, parsed}
use Rattle.lines.specs.Lent.{onto}

-- ---- the values of an answer, whose number and place are those of its verdict: "n and the two numbers of records (all 0 on refusal)"

abbrev pub read_job : Result Job Refusal → Job
read_job answer = result_unwrap_or answer (record { qubits = 0; couplers = 0; gates = 0 })

-- ---- the lists in a text

abbrev pub couplers_in : Parsed → List ℕ
couplers_in (misfit k) = []
couplers_in (job n couplers gates) = couplers

abbrev pub gates_in : Parsed → List ℕ
gates_in (misfit k) = []
gates_in (job n couplers gates) = gates

abbrev pub job_in : Parsed → Job
job_in (misfit k) = record { qubits = 0; couplers = 0; gates = 0 }
job_in (job n couplers gates) = record { qubits = n; couplers = length couplers; gates = length gates }

-- ---- the tests

-- 11: "text over 65,536 bytes"
abbrev pub judged_bytes : List ℕ → Verdict
judged_bytes s = pick (leb (length s) most_bytes) (Ok tt) (Err LongText)

-- 10: "text line doesn't fit"
abbrev pub judged_lines : Parsed → Verdict
judged_lines (misfit k) = Err (Line k)
judged_lines (job n couplers gates) = Ok tt

-- 8: lent memory of `room` places, records or bytes, is shorter than is needed
abbrev pub judged_places : ℕ → ℕ → Verdict
judged_places need room = pick (leb need room) (Ok tt) (Err Room)

-- "either lent list is shorter than its lines need"; they have a and b places
abbrev pub judged_lists : Parsed → ℕ → ℕ → Verdict
judged_lists p a b = pick (both (leb (length (couplers_in p)) a) (leb (length (gates_in p)) b)) (Ok tt) (Err Room)

-- "reading tests 11, 10, 8"
unfoldable pub judged_reading : List ℕ → ℕ → ℕ → Verdict
judged_reading s a b = and_then (judged_bytes s) (and_then (judged_lines (parsed s)) (judged_lists (parsed s) a b))

unfoldable pub reading_of : List ℕ → ℕ → ℕ → Result Job Refusal
reading_of s a b = result_and (judged_reading s a b) (Ok (job_in (parsed s)))

-- lent memory beside an answer, records or bytes: what is new at the front; a refusal leaves it as it was
abbrev pub lent_after : {A : Type 0} → Result A Refusal → List ℕ → List ℕ → List ℕ
lent_after (Ok x) new old = onto new old
lent_after (Err r) new old = old
