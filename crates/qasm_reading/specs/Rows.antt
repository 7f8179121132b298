-- The rows of the table that reading a circuit's text answers (requests E1 and E5): each as one statement, "When, and exactly then", and the place.
use Rattle.std.specs.Prelude.{◌≡◌, List, ℕ, ◌≤◌, ◌<◌, length}
use Rattle.verdicts.specs.Verdicts.{Verdict}
use Rattle.verdicts.specs.Rows.{Row, Nowhere}
use Rattle.reading.specs.Limits.{most_bytes}
use Rattle.versions.specs.declared.Version.{Version}
use Rattle.qasm_reading.specs.Texts.{CircuitText, WithoutVersion, WrongAngle, WrongStatement}

-- the text is within its limit
abbrev pub Short : List ℕ → Type 0
Short s = length s ≤ most_bytes

-- a list of `room` places is lent; `said` is what reading answers
pub record CircuitReadingRows (s : List ℕ) (room : ℕ) (said : Verdict) : Type 0 where
  pub row_0 : Row said 0 (Short s × ((v : Version) × (n : ℕ) × (gates : List ℕ) × (phase : ℕ) × CircuitText s v n gates phase × (length gates ≤ room))) Nowhere
  pub row_11 : Row said 11 (most_bytes < length s) Nowhere
  pub row_14 : Row said 14 (Short s × WithoutVersion s) (λ k. k ≡ 1)
  pub row_13 : Row said 13 (Short s × ((k : ℕ) × WrongStatement s k)) (WrongStatement s)
  pub row_12 : Row said 12 (Short s × ((k : ℕ) × WrongAngle s k)) (WrongAngle s)
  pub row_8 : Row said 8 (Short s × ((v : Version) × (n : ℕ) × (gates : List ℕ) × (phase : ℕ) × CircuitText s v n gates phase × (room < length gates))) Nowhere
