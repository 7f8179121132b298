-- Which texts list couplers and nothing else, which line of any other is refused, and what reading one answers (request E1).
use Rattle.std.specs.Prelude.{◌≡◌, List, [], ◌∷◌, ℕ, ◌+◌, ◌≤◌, ◌<◌, length, Result, Ok}
use Rattle.std.specs.Result.{result_and}
use Rattle.gates.specs.declared.job.Job.{Job}
use Rattle.verdicts.specs.Verdicts.{Verdict}
use Rattle.verdicts.specs.declared.verdict.Refusal.{Refusal}
use Rattle.verdicts.specs.InOrder.{and_then}
use Rattle.lines.specs.Lines.{records_text}
use Rattle.reading.specs.Misfit.{first_lines, FitsLine}
use Rattle.sets.specs.Lists.{All}
use Rattle.reading.specs.Parsing.{Parsed, misfit, job, run_of}
use Rattle.reading.specs.Readings.{couplers_in, job_in, judged_bytes, judged_lines, judged_places}
use Rattle.reading.specs.declared.sort.Sort.TheVariants.{Couplers}

-- ---- said of the text alone

-- the text is that of couplers; there may be none
pub record CouplersText (s : List ℕ) : Type 0 where
  pub couplers : List ℕ
  pub fit : All (FitsLine Couplers) couplers
  pub same : s ≡ records_text couplers

-- the first line that cannot continue one: up to the line before it the text lists couplers, and with it no more. A last line without LF is one
pub record MisfitCoupler (s : List ℕ) (k : ℕ) : Type 0 where
  pub counted : 1 ≤ k
  pub before : (j : ℕ) → j < k → CouplersText (first_lines j s)
  pub here : CouplersText (first_lines k s) → ⊥

-- ---- how it is read, in the terms of a job's text

-- behind the couplers stands nothing; a line that stands there has the couplers before it
unfoldable pub end_couplers : List ℕ → List ℕ → Parsed
end_couplers couplers [] = job 0 couplers []
end_couplers couplers (x ∷ s) = misfit (1 + length couplers)

unfoldable pub parsed_couplers : List ℕ → Parsed
parsed_couplers s = let couplers = run_of Couplers s in end_couplers couplers.records couplers.left

-- ---- what is answered: 11, 10, and 8 where the lent list, of `room` places, is shorter than the lines need

unfoldable pub judged_couplers_text : List ℕ → ℕ → Verdict
judged_couplers_text s room = and_then (judged_bytes s) (and_then (judged_lines (parsed_couplers s)) (judged_places (length (couplers_in (parsed_couplers s))) room))

unfoldable pub couplers_reading : List ℕ → ℕ → Result Job Refusal
couplers_reading s room = result_and (judged_couplers_text s room) (Ok (job_in (parsed_couplers s)))
