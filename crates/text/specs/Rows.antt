-- Document 01's table, "Records and refusals", of reading and of writing, and the same of reading a couplers' text (request E1): each row as one statement, "When, and exactly then", and the place.
use Rattle.std.specs.Prelude.{◌⊎◌, List, ℕ, ◌≤◌, ◌<◌, length}
use Rattle.gates.specs.Limits.{most_couplers}
use Rattle.verdicts.specs.Verdicts.{Verdict}
use Rattle.verdicts.specs.Rows.{Row, Nowhere, Some, First, Passes1, Passes2, WrongRecord, Passes3, BadDrawn, PassesDrawn}
use Rattle.lines.specs.Lines.{text_of}
use Rattle.reading.specs.Limits.{most_bytes}
use Rattle.reading.specs.Misfit.{JobText, Misfit}
use Rattle.reading.specs.Listing.{CouplersText, MisfitCoupler}

-- 8 of reading: the lent lists, of a and b places, are as long as the lines of the text need
abbrev pub Suffices : List ℕ → ℕ → ℕ → Type 0
Suffices s a b = (j : JobText s) → (length j.couplers ≤ a) × (length j.gates ≤ b)

-- "either lent list is shorter than its lines need"
abbrev pub TooShort : List ℕ → ℕ → ℕ → Type 0
TooShort s a b = (j : JobText s) → (a < length j.couplers) ⊎ (b < length j.gates)

-- "reading tests 11, 10, 8": v is what reading answers
pub record ReadingRows (s : List ℕ) (a b : ℕ) (v : Verdict) : Type 0 where
  pub row_0 : Row v 0 ((length s ≤ most_bytes) × (JobText s × Suffices s a b)) Nowhere
  pub row_11 : Row v 11 (most_bytes < length s) Nowhere
  pub row_10 : Row v 10 ((length s ≤ most_bytes) × ((k : ℕ) × Misfit s k)) (Misfit s)
  pub row_8 : Row v 8 ((length s ≤ most_bytes) × (JobText s × TooShort s a b)) Nowhere

-- the same of a couplers' text, of which one list is lent, of `room` places; v is what `read_couplers` answers
pub record CouplersRows (s : List ℕ) (room : ℕ) (v : Verdict) : Type 0 where
  pub row_0 : Row v 0 ((length s ≤ most_bytes) × (CouplersText s × ((c : CouplersText s) → length c.couplers ≤ room))) Nowhere
  pub row_11 : Row v 11 (most_bytes < length s) Nowhere
  pub row_10 : Row v 10 ((length s ≤ most_bytes) × ((k : ℕ) × MisfitCoupler s k)) (MisfitCoupler s)
  pub row_8 : Row v 8 ((length s ≤ most_bytes) × (CouplersText s × ((c : CouplersText s) → room < length c.couplers))) Nowhere

-- "writing tests 1, 2, 3, 5 and then 8, given exactly when the text is longer than the room": v is what writing answers
pub record WritingRows (n : ℕ) (couplers gates : List ℕ) (room : ℕ) (v : Verdict) : Type 0 where
  pub row_0 : Row v 0 (Passes1 n × (Passes2 couplers × (Passes3 n couplers × (PassesDrawn n gates × (length (text_of n couplers gates) ≤ room))))) Nowhere
  pub row_1 : Row v 1 (Passes1 n → ⊥) Nowhere
  pub row_2 : Row v 2 (Passes1 n × (most_couplers < length couplers)) Nowhere
  pub row_3 : Row v 3 (Passes1 n × (Passes2 couplers × Some (WrongRecord n) couplers)) (First (WrongRecord n) couplers)
  pub row_5 : Row v 5 (Passes1 n × (Passes2 couplers × (Passes3 n couplers × Some (BadDrawn n) gates))) (First (BadDrawn n) gates)
  pub row_8 : Row v 8 (Passes1 n × (Passes2 couplers × (Passes3 n couplers × (PassesDrawn n gates × (room < length (text_of n couplers gates)))))) Nowhere
