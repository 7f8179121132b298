-- The front of what the program prints, its parts, one for each stretch, and last its common phase. proofs/InParts.antt shows that together they are the whole.
use Rattle.std.specs.Prelude.{◌≡◌, List, ◌++◌, ℕ, ◌+◌, eqb, length}
use Rattle.sets.specs.Pick.{pick}
use Rattle.gates.specs.declared.job.Job.{Job}
use Rattle.verdicts.specs.Verdicts.{number_of}
use Rattle.stretches.specs.Tests.{judged_stretches}
use Rattle.reading.specs.Readings.{couplers_in, lent_after}
use Rattle.reading.specs.Listing.{parsed_couplers, judged_couplers_text, couplers_reading}
use Rattle.versions.specs.declared.Version.{Version}
use Rattle.qasm_lines.specs.Spelling.{head_text, gates_text, phase_text}
use Rattle.qasm_reading.specs.declared.read.Circuit.{Circuit}
use Rattle.qasm_reading.specs.Parsing.{parsed_circuit}
use Rattle.qasm_reading.specs.Readings.{no_circuit, circuit_gates, circuit_in, judged_circuit_text, circuit_reading}
use Rattle.console.specs.Printed.{most_coupler_lines, most_gate_lines, Prints, unless}
use Rattle.console.specs.Parts.{first_part, parts_from, phase_from}
use Rattle.qasm_console.specs.declared.printing.BegunCircuit.{BegunCircuit}
use Rattle.qasm_console.specs.Printed.{most_shown, drawing_for, texts_for}

-- ---- the front: a refusal, or the statements before the gates. No refusal comes behind it

unfoldable pub front_circuit : Circuit → List ℕ → List ℕ → List ℕ
front_circuit c couplers gates = unless (judged_stretches c.qubits couplers gates) (head_text c.version c.qubits)

unfoldable pub front_drawing : List ℕ → List ℕ → List ℕ
front_drawing couplers t = drawing_for front_circuit couplers t

unfoldable pub front_texts : List ℕ → List ℕ → List ℕ
front_texts s t = texts_for front_drawing s t

-- ---- what is handed on: the circuit with its couplers, the place where the first part begins, and the common phase that was read

pub record Handed : Type 0 where
  pub version : Version
  pub job : Job
  pub from : ℕ
  pub phase : ℕ

-- of a refused text nothing, and a part would begin above the number of gates
abbrev pub nothing_handed : Handed
nothing_handed = record { version = no_circuit.version; job = record { qubits = 0; couplers = 0; gates = 0 }; from = 1; phase = 0 }

-- of a refused circuit there is no part, and no common phase
unfoldable pub handed_circuit : Circuit → List ℕ → List ℕ → Handed
handed_circuit c couplers gates = record {
  version = c.version;
  job = record { qubits = c.qubits; couplers = length couplers; gates = length gates };
  from = first_part c.qubits couplers gates;
  phase = pick (eqb (number_of (judged_stretches c.qubits couplers gates)) 0) c.phase 0;
}

unfoldable pub handed_drawing : List ℕ → List ℕ → Handed
handed_drawing couplers t = pick (eqb (number_of (judged_circuit_text t most_gate_lines)) 0) (handed_circuit (circuit_in (parsed_circuit t)) couplers (circuit_gates (parsed_circuit t))) nothing_handed

unfoldable pub handed_texts : List ℕ → List ℕ → Handed
handed_texts s t = pick (eqb (number_of (judged_couplers_text s most_coupler_lines)) 0) (handed_drawing (couplers_in (parsed_couplers s)) t) nothing_handed

-- in the code it comes with the number of bytes printed
abbrev pub handed_in : BegunCircuit → Handed
handed_in r = record { version = r.version; job = r.job; from = r.from; phase = r.phase }

-- the list that is lent for the gates, which the circuit's text t alone changes
abbrev pub gates_after : List ℕ → List ℕ → List ℕ
gates_after t gates = lent_after (circuit_reading t most_gate_lines) (circuit_gates (parsed_circuit t)) gates

-- what beginning a circuit leaves: the front in `out`, and its gates at the front of their list
pub record BeginsCircuit (couplers t gates out : List ℕ) (r : BegunCircuit) (gates' out' : List ℕ) : Type 0 where
  pub prints : Prints most_shown (front_drawing couplers t) out r.bytes out'
  pub handed : handed_in r ≡ handed_drawing couplers t
  pub gates_read : gates' ≡ gates_after t gates

-- the same of both texts: a circuit that stands behind a refused couplers' text is not read
pub record BeginsTexts (s t couplers gates out : List ℕ) (r : BegunCircuit) (couplers' gates' out' : List ℕ) : Type 0 where
  pub prints : Prints most_shown (front_texts s t) out r.bytes out'
  pub handed : handed_in r ≡ handed_texts s t
  pub couplers_read : couplers' ≡ lent_after (couplers_reading s most_coupler_lines) (couplers_in (parsed_couplers s)) couplers
  pub gates_read : gates' ≡ pick (eqb (number_of (judged_couplers_text s most_coupler_lines)) 0) (gates_after t gates) gates

-- what comes behind the front of what is handed on: the parts, and last the whole common phase
unfoldable pub behind_text : Handed → List ℕ → List ℕ → List ℕ
behind_text h couplers gates =
    parts_from (gates_text h.version) h.job.qubits couplers gates (length gates + 1) h.from
    ++ phase_text h.version (phase_from h.job.qubits couplers gates (length gates + 1) h.from h.phase)
