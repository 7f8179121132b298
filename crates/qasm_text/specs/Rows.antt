-- Document 01's table, "Records and refusals", of writing a circuit in OpenQASM (requests E1 and E5): each row as one statement, "When, and exactly then", and the place.
use Rattle.std.specs.Prelude.{List, ℕ, ◌≤◌, ◌<◌, length}
use Rattle.verdicts.specs.Verdicts.{Verdict}
use Rattle.verdicts.specs.Rows.{Row, Nowhere, Some, First, Passes1, BadDrawn, PassesDrawn}
use Rattle.versions.specs.declared.Version.{Version}
use Rattle.qasm_lines.specs.Spelling.{circuit_text}

-- 1, 5 and then 8, "given exactly when the text is longer than the room": `said` is what writing answers
pub record CircuitWritingRows (v : Version) (n : ℕ) (gates : List ℕ) (phase room : ℕ) (said : Verdict) : Type 0 where
  pub row_0 : Row said 0 (Passes1 n × (PassesDrawn n gates × (length (circuit_text v n gates phase) ≤ room))) Nowhere
  pub row_1 : Row said 1 (Passes1 n → ⊥) Nowhere
  pub row_5 : Row said 5 (Passes1 n × Some (BadDrawn n) gates) (First (BadDrawn n) gates)
  pub row_8 : Row said 8 (Passes1 n × (PassesDrawn n gates × (room < length (circuit_text v n gates phase)))) Nowhere
