-- The demands from OpenQASM to OpenQASM: "Demands 2 and 3 then hold from OpenQASM to OpenQASM" (request E1), the common phase included (request E5). All is said of texts: of what is
-- read as a circuit, however it is drawn, and of what is printed for it.
use Rattle.std.specs.Prelude.{◌≡◌, List, ◌++◌, ℕ, ◌≤◌, length}
use Rattle.verdicts.specs.Verdicts.{number_of}
use Rattle.stretches.specs.Tests.{judged_stretches}
use Rattle.stretches.specs.Laid.{job_phase}
use Rattle.stretches.specs.Demands.{FaithfulJob}
use Rattle.reading.specs.Limits.{most_bytes}
use Rattle.versions.specs.declared.Version.{Version}
use Rattle.versions.specs.declared.Version.TheVariants.{Three}
use Rattle.qasm_lines.specs.Spelling.{phase_text}
use Rattle.qasm_reading.specs.Texts.{CircuitText}
use Rattle.qasm_text.specs.Writings.{read_phase}
use Rattle.qasm_console.specs.Printed.{whole_phase, laid_drawing}

-- t is the text of a circuit on n qubits with these gates and the common phase g, short enough to be read, and the circuit is accepted on the couplers
pub record Drawn (couplers t : List ℕ) (v : Version) (n : ℕ) (gates : List ℕ) (g : ℕ) : Type 0 where
  pub text : CircuitText t v n gates g
  pub short : length t ≤ most_bytes
  pub accepted : number_of (judged_stretches n couplers gates) ≡ 0

-- demand 2: what is printed for it is the text of a circuit on n qubits, in the same version, with the same meaning: each CNOT on a coupler; within the bound; in 3.0 with the same
-- whole common phase; in 2.0, which has no statement for it, up to the common phase that its last line names
pub record Kept (couplers t : List ℕ) (v : Version) (n : ℕ) (gates : List ℕ) (g : ℕ) (laid : List ℕ) : Type 0 where
  pub text : CircuitText (laid_drawing couplers t) v n laid (read_phase v (whole_phase n gates g))
  pub faithful : FaithfulJob n couplers (job_phase n gates) gates laid
  pub phase : v ≡ Three → whole_phase n laid (read_phase v (whole_phase n gates g)) ≡ whole_phase n gates g
  pub front : List ℕ
  pub last : laid_drawing couplers t ≡ front ++ phase_text v (whole_phase n gates g)
