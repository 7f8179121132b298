-- What reading a circuit's text answers, and what it leaves in the lent list (requests E1 and E5).
use Rattle.std.specs.Prelude.{◌≡◌, List, [], ◌∷◌, ℕ, length, Option, None, Some, Result, Ok, Err}
use Rattle.std.specs.Result.{result_and, result_unwrap_or}
use Rattle.verdicts.specs.Verdicts.{Verdict}
use Rattle.verdicts.specs.declared.verdict.Refusal.{Refusal}
use Rattle.verdicts.specs.declared.verdict.Refusal.TheVariants.{Angle, Statement, Unversioned}
use Rattle.verdicts.specs.InOrder.{and_then}
use Rattle.reading.specs.Readings.{judged_bytes, judged_places, lent_after}
use Rattle.words.specs.Bytes.{line_at}
use Rattle.words.specs.Words.{Word}
use Rattle.versions.specs.declared.Version.TheVariants.{Two}
use Rattle.qasm_reading.specs.declared.read.Circuit.{Circuit}
use Rattle.qasm_reading.specs.Parsing.{ParsedCircuit, circuit, angle, statement, early, unversioned, parsed_circuit}

-- ---- the values of an answer, whose number and place are those of its verdict: the version, n, the number of records and the common phase (all 0 on refusal)

abbrev pub no_circuit : Circuit
no_circuit = record { version = Two; qubits = 0; gates = 0; phase = 0 }

abbrev pub read_circuit : Result Circuit Refusal → Circuit
read_circuit answer = result_unwrap_or answer no_circuit

-- ---- what is in a text

abbrev pub circuit_gates : ParsedCircuit → List ℕ
circuit_gates (circuit v n gates phase) = gates
circuit_gates (angle l) = []
circuit_gates (statement l) = []
circuit_gates early = []
circuit_gates unversioned = []

abbrev pub circuit_in : ParsedCircuit → Circuit
circuit_in (circuit v n gates phase) = record { version = v; qubits = n; gates = length gates; phase = phase }
circuit_in (angle l) = no_circuit
circuit_in (statement l) = no_circuit
circuit_in early = no_circuit
circuit_in unversioned = no_circuit

-- ---- the tests

-- 14, 12 and 13: "both give the line it starts on (0 if the text ends before the register)"
abbrev pub judged_statements : List ℕ → ParsedCircuit → Verdict
judged_statements s (circuit v n gates phase) = Ok tt
judged_statements s (angle l) = Err (Angle (line_at s l))
judged_statements s (statement l) = Err (Statement (line_at s l))
judged_statements s early = Err (Statement 0)
judged_statements s unversioned = Err Unversioned

-- these of what a text is found to be, then 8 as in reading a job: the lent list is shorter than the gates need
abbrev pub judged_found : List ℕ → ℕ → ParsedCircuit → Verdict
judged_found s room p = and_then (judged_statements s p) (judged_places (length (circuit_gates p)) room)

-- "after 11 and before 1 to 9"
unfoldable pub judged_circuit_text : List ℕ → ℕ → Verdict
judged_circuit_text s room = and_then (judged_bytes s) (judged_found s room (parsed_circuit s))

unfoldable pub circuit_reading : List ℕ → ℕ → Result Circuit Refusal
circuit_reading s room = result_and (judged_circuit_text s room) (Ok (circuit_in (parsed_circuit s)))

-- ---- parts

-- the answer for what a text is found to be, where it is short enough
abbrev pub found_answer : List ℕ → ℕ → ParsedCircuit → Result Circuit Refusal
found_answer s room p = result_and (judged_found s room p) (Ok (circuit_in p))

-- the line of the first of the words
abbrev pub line_of : List ℕ → List Word → Option ℕ
line_of s [] = None
line_of s (w ∷ ws) = Some (line_at s w.left)

-- what is found from a place on
pub record FoundRead (s : List ℕ) (p : ParsedCircuit) (old : List ℕ) (r : Result Circuit Refusal) (new : List ℕ) : Type 0 where
  pub answer : r ≡ found_answer s (length old) p
  pub list : new ≡ lent_after r (circuit_gates p) old
