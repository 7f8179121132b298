-- "What we write, up to 65,536 bytes, reads back as the same records", and in 3.0 with the same common phase, said of the definitions that `read` and `write` promise. Assumes nothing.
use mathlib.Core.Path.{◌≡◌, refl, sym, ap, ◌∙◌, subst}
use mathlib.Core.List.{List}
use Prim.Native.Nat.{ℕ, ◌≤◌}
use native.Mathlib.Omega.{arith}
use lib.ListN.{length, take}
use lib.Seq.{take-append_seam}
use Rattle.verdicts.specs.Verdicts.{number_of, judged_qubits, judged_drawn}
use Rattle.verdicts.proofs.Rows.{row-passes, tests-1, tests-drawn}
use Rattle.lines.specs.Lent.{onto}
use Rattle.reading.specs.Readings.{lent_after}
use Rattle.reading.specs.Limits.{most_bytes}
use Rattle.std.specs.Prelude.{Ok}
use Rattle.versions.specs.declared.Version.{Version}
use Rattle.qasm_reading.specs.declared.read.Circuit.{Circuit}
use Rattle.qasm_reading.specs.Parsing.{circuit, parsed_circuit}
use Rattle.qasm_reading.specs.Readings.{circuit_gates, circuit_reading, found_answer}
use Rattle.qasm_reading.specs.Texts.{CircuitText}
use Rattle.qasm_reading.proofs.Parsed.{circuit-parsed}
use Rattle.qasm_reading.proofs.Answers.{reading-is, room-long}
use Rattle.qasm_lines.specs.Spelling.{circuit_text}
use Rattle.qasm_text.specs.Writings.{circuit_writing, read_phase}
use Rattle.qasm_text.proofs.Judging.{written}
use Rattle.qasm_text.proofs.Written.{text-circuit}

-- ---- what stands in the lent memory: the first `bytes` bytes that writing left, the first records that reading left

abbrev pub circuit_written_in : Version → ℕ → List ℕ → ℕ → List ℕ → ℕ → List ℕ
circuit_written_in v n gates g memory bytes = take bytes (lent_after (Ok bytes) (circuit_text v n gates g) memory)

abbrev pub circuit_gates_read : List ℕ → Circuit → List ℕ → List ℕ
circuit_gates_read s c list = take c.gates (lent_after (Ok c) (circuit_gates (parsed_circuit s)) list)

-- ---- THE THEOREMS

-- what passes tests 1 and 5 is written as its own text, however long
pub good-circuit : (v : Version) (n : ℕ) (gates : List ℕ) (g : ℕ) → number_of (judged_qubits n) ≡ 0 → number_of (judged_drawn n gates) ≡ 0
    → CircuitText (circuit_text v n gates g) v n gates (read_phase v g)
good-circuit v n gates g a b =
    let few = (row-passes (tests-1 n)).exactly.0 a in
    text-circuit v n gates g (omega (arith, few.1)) ((row-passes (tests-drawn n gates)).exactly.0 b)

-- what the writer leaves at the front of the lent memory is the text of n, the gates and the common phase
pub written-text : (v : Version) (n : ℕ) (gates : List ℕ) (g : ℕ) (memory : List ℕ) (bytes : ℕ) → circuit_writing v n gates g (length memory) ≡ Ok bytes
    → circuit_written_in v n gates g memory bytes ≡ circuit_text v n gates g
written-text v n gates g memory bytes e =
    let w = written v n gates g (length memory) bytes e in
    ap (λ k. take k (onto (circuit_text v n gates g) memory)) w.0 ∙ take-append_seam (circuit_text v n gates g) _

pub record CircuitReadBack (s : List ℕ) (v : Version) (n : ℕ) (gates : List ℕ) (g : ℕ) (list : List ℕ) : Type 0 where
  pub found : Circuit
  pub answer : circuit_reading s (length list) ≡ Ok found
  pub same_version : found.version ≡ v
  pub same_qubits : found.qubits ≡ n
  pub same_gates : circuit_gates_read s found list ≡ gates
  pub same_phase : found.phase ≡ read_phase v g

pub circuit-reads-back : (v : Version) (n : ℕ) (gates : List ℕ) (g : ℕ) (memory list : List ℕ) (bytes : ℕ) → circuit_writing v n gates g (length memory) ≡ Ok bytes
    → bytes ≤ most_bytes → length gates ≤ length list → CircuitReadBack (circuit_written_in v n gates g memory bytes) v n gates g list
circuit-reads-back v n gates g memory list bytes e short long =
    let w = written v n gates g (length memory) bytes e in
    let s = circuit_text v n gates g in
    let p : parsed_circuit s ≡ circuit v n gates (read_phase v g) = circuit-parsed s v n gates (read_phase v g) (good-circuit v n gates g w.1.qubits w.1.gates) in
    subst (λ t. CircuitReadBack t v n gates g list) (sym (written-text v n gates g memory bytes e)) (record {
      found = record { version = v; qubits = n; gates = length gates; phase = read_phase v g };
      answer = reading-is s (length list) (omega (arith, w.0)) ∙ ap (found_answer s (length list)) p ∙ sym (room-long s (length list) v n gates (read_phase v g) refl refl long);
      same_version = refl;
      same_qubits = refl;
      same_gates = ap (λ r. take (length gates) (onto (circuit_gates r) list)) p ∙ take-append_seam gates _;
      same_phase = refl;
    })
