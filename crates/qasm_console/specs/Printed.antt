-- What the program `qasm` prints for a couplers' text and a circuit's, and the memory that it lends (requests E1 and E5).
use Rattle.std.specs.Prelude.{List, ℕ, ◌+◌, ◌*◌}
use Rattle.tallies.specs.Tally.{largest}
use Rattle.stretches.specs.Tests.{judged_stretches}
use Rattle.circuit.specs.Phase.{phases}
use Rattle.stretches.specs.Laid.{job_records, job_phase}
use Rattle.reading.specs.Readings.{couplers_in}
use Rattle.reading.specs.Listing.{parsed_couplers, judged_couplers_text}
use Rattle.qasm_lines.specs.Spelling.{circuit_text}
use Rattle.qasm_reading.specs.Parsing.{parsed_circuit}
use Rattle.qasm_reading.specs.declared.read.Circuit.{Circuit}
use Rattle.qasm_reading.specs.Readings.{circuit_gates, circuit_in, judged_circuit_text}
use Rattle.console.specs.Printed.{most_coupler_lines, most_gate_lines, unless}

-- ---- what is lent

-- 26 bytes for each gate of the largest stretch and for the Hadamard behind it, as in `u1(65535*pi/32768) q[19];` and LF; the front has fewer than two of them
abbrev pub most_shown : ℕ
most_shown = 26 * (largest + 1)

-- ---- what is printed

-- "the whole common phase": the one that was read, g, and the one that laying returns
unfoldable pub whole_phase : ℕ → List ℕ → ℕ → ℕ
whole_phase n gates g = phases g (job_phase n gates)

-- a circuit that was read, laid on these couplers: the same tests 1 to 7 as a job's. "The output has the version of the input"
unfoldable pub laid_circuit : Circuit → List ℕ → List ℕ → List ℕ
laid_circuit c couplers gates =
    unless (judged_stretches c.qubits couplers gates) (circuit_text c.version c.qubits (job_records c.qubits couplers gates) (whole_phase c.qubits gates c.phase))

-- what is printed for the text t of a circuit: what is said of the circuit on these couplers, unless reading refuses
abbrev pub drawing_for : (Circuit → List ℕ → List ℕ → List ℕ) → List ℕ → List ℕ → List ℕ
drawing_for said couplers t = unless (judged_circuit_text t most_gate_lines) (said (circuit_in (parsed_circuit t)) couplers (circuit_gates (parsed_circuit t)))

unfoldable pub laid_drawing : List ℕ → List ℕ → List ℕ
laid_drawing couplers t = drawing_for laid_circuit couplers t

-- the couplers' text s is read first: its 11 and 10 come before everything that is said of the circuit
abbrev pub texts_for : (List ℕ → List ℕ → List ℕ) → List ℕ → List ℕ → List ℕ
texts_for said s t = unless (judged_couplers_text s most_coupler_lines) (said (couplers_in (parsed_couplers s)) t)

unfoldable pub laid_texts : List ℕ → List ℕ → List ℕ
laid_texts s t = texts_for laid_drawing s t
