-- What an answer of `read` says of the text, and one of `read_couplers`. Assumes nothing.
use mathlib.Core.Path.{◌≡◌}
use mathlib.Core.List.{List}
use Prim.Native.Nat.{ℕ}
use Rattle.std.specs.Prelude.{Ok, Err}
use Rattle.gates.specs.declared.job.Job.{Job}
use Rattle.verdicts.specs.declared.verdict.Refusal.{Refusal}
use Rattle.verdicts.specs.Verdicts.{number_of}
use Rattle.verdicts.proofs.Answered.{answered-value, answered-refusal}
use Rattle.reading.specs.Parsing.{parsed}
use Rattle.reading.specs.Readings.{job_in, judged_reading, reading_of}
use Rattle.reading.specs.Listing.{parsed_couplers, judged_couplers_text, couplers_reading}

module _ (s : List ℕ) (a b : ℕ) where
  pub read-says : (j : Job) → reading_of s a b ≡ Ok j → (number_of (judged_reading s a b) ≡ 0) × (j ≡ job_in (parsed s))
  unfolding reading_of
  read-says j e = answered-value (judged_reading s a b) (job_in (parsed s)) j e

  pub unread-says : (r : Refusal) → reading_of s a b ≡ Err r → (number_of (judged_reading s a b) ≡ 0 → ⊥) × (Err r ≡ judged_reading s a b)
  unfolding reading_of
  unread-says r e = answered-refusal (judged_reading s a b) (job_in (parsed s)) r e

module _ (s : List ℕ) (room : ℕ) where
  pub listed-says : (j : Job) → couplers_reading s room ≡ Ok j → (number_of (judged_couplers_text s room) ≡ 0) × (j ≡ job_in (parsed_couplers s))
  unfolding couplers_reading
  listed-says j e = answered-value (judged_couplers_text s room) (job_in (parsed_couplers s)) j e

  pub unlisted-says : (r : Refusal) → couplers_reading s room ≡ Err r → (number_of (judged_couplers_text s room) ≡ 0 → ⊥) × (Err r ≡ judged_couplers_text s room)
  unfolding couplers_reading
  unlisted-says r e = answered-refusal (judged_couplers_text s room) (job_in (parsed_couplers s)) r e
