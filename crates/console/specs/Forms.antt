-- Gates printed one behind another, in any form: the lines of a job, or the statements of a circuit.
use Rattle.std.specs.Prelude.{◌≡◌, ◌≢◌, List, [], ◌∷◌, ◌++◌, ℕ, ◌+◌, ◌≤◌, ◌<◌, length}
use Rattle.verdicts.specs.Verdicts.{Verdict, number_of}
use Rattle.tallies.specs.Tally.{largest}
use Rattle.judging.specs.Tests.{verdict_of}
use Rattle.stretches.specs.Stretches.{stretch_at}
use Rattle.stretches.specs.Laid.{stretch_records}
use Rattle.stretches.specs.Parts.{hadamard_at}
use Rattle.lines.specs.Lent.{Fitted, FittedLines}
use Rattle.console.specs.Printed.{most_refused, refusal_of}

-- `text` writes a list of gates one behind another, each as `line` does; in so much room there is enough for a refusal, and for a laid stretch with the Hadamard behind it
pub record PartsFit (line : ℕ → List ℕ) (text : List ℕ → List ℕ) (room : ℕ) : Type 0 where
  pub none : text [] ≡ []
  pub more : (x : ℕ) (xs : List ℕ) → text (x ∷ xs) ≡ line x ++ text xs
  pub refused : most_refused ≤ room
  pub part : (n : ℕ) (couplers s gates : List ℕ) (k : ℕ) → number_of (verdict_of n couplers s largest) ≡ 0
      → length (text (stretch_records n couplers s)) + length (text (hadamard_at n gates k)) ≤ room

-- ---- in a room of any size

-- of the lines of xs, one behind another, those that fit; where v refuses, its line, if that fits
pub record FittedUnless (line : ℕ → List ℕ) (v : Verdict) (xs out : List ℕ) (r : ℕ) (out' : List ℕ) : Type 0 where
  pub passed : number_of v ≡ 0 → FittedLines line out 0 xs out' r
  pub refused : number_of v ≢ 0 → Fitted out 0 (refusal_of v) out' r

-- the same of the part that begins at k: a stretch laid, and the Hadamard behind it; nothing above the number of gates
pub record FittedPart (line : ℕ → List ℕ) (n : ℕ) (couplers gates : List ℕ) (k : ℕ) (out : List ℕ) (r : ℕ) (out' : List ℕ) : Type 0 where
  pub within : k ≤ length gates
      → FittedUnless line (verdict_of n couplers (stretch_at n gates k) largest) (stretch_records n couplers (stretch_at n gates k) ++ hadamard_at n gates k) out r out'
  pub past : length gates < k → (r ≡ 0) × (out' ≡ out)
