-- What reading a couplers' text answers, from the steps that lead to it. Assumes nothing.
use mathlib.Core.Path.{◌≡◌, refl, ap, ap₂, ◌∙◌}
use mathlib.Core.Bool.{Bool, true, false}
use mathlib.Core.List.{List, [], ◌∷◌}
use Prim.Native.Nat.{ℕ, ◌+◌, ◌≤◌, ◌<◌}
use native.Mathlib.Omega.{arith}
use lib.Dec.{leb}
use lib.ListN.{length}
use borrow.Author.Tests.{le-leb, lt-leb}
use Rattle.std.specs.Prelude.{Result, Ok, Err}
use Rattle.std.specs.Result.{result_and}
use Rattle.sets.specs.Pick.{pick}
use Rattle.gates.specs.declared.job.Job.{Job}
use Rattle.verdicts.specs.declared.verdict.Refusal.{Refusal}
use Rattle.verdicts.specs.declared.verdict.Refusal.TheVariants.{Room, Line, LongText}
use Rattle.verdicts.specs.InOrder.{and_then}
use Rattle.reading.specs.Limits.{most_bytes}
use Rattle.reading.specs.Parsing.{run_of, Parsed, misfit, job}
use Rattle.reading.specs.Readings.{couplers_in, job_in, judged_lines}
use Rattle.reading.specs.Listing.{end_couplers, parsed_couplers, judged_couplers_text, couplers_reading}
use Rattle.reading.specs.declared.sort.Sort.TheVariants.{Couplers}
use Rattle.reading.proofs.Listings.{couplers-found}

-- l is left behind the couplers
module _ (s l : List ℕ) (el : l ≡ (run_of Couplers s).left) where
  ended : parsed_couplers s ≡ end_couplers (run_of Couplers s).records l
  unfolding parsed_couplers
  ended = rw el

  pub listed-misfit : 0 < length l → parsed_couplers s ≡ misfit (1 + length (run_of Couplers s).records)
  unfolding end_couplers
  listed-misfit h = ended ∙ go l h
    where
      go : (l : List ℕ) → 0 < length l → end_couplers (run_of Couplers s).records l ≡ misfit (1 + length (run_of Couplers s).records)
      go [] h = absurd (omega arith)
      go (x ∷ l) h = refl

  pub listed-whole : l ≡ [] → parsed_couplers s ≡ job 0 (run_of Couplers s).records []
  unfolding end_couplers
  listed-whole e = ended ∙ rw e

module _ (s : List ℕ) (room : ℕ) where
  pub listing-long : most_bytes < length s → Err LongText ≡ couplers_reading s room
  unfolding couplers_reading judged_couplers_text
  listing-long h = rw (lt-leb (length s) most_bytes h)

  pub listing-line : (k : ℕ) → length s ≤ most_bytes → parsed_couplers s ≡ misfit k → Err (Line k) ≡ couplers_reading s room
  unfolding couplers_reading judged_couplers_text
  listing-line k h e = rw (le-leb (length s) most_bytes h, e)

  module _ (es : List ℕ) (h : length s ≤ most_bytes) (e : parsed_couplers s ≡ job 0 es []) where
    pub listing-room : room < length es → Err Room ≡ couplers_reading s room
    unfolding couplers_reading judged_couplers_text
    listing-room k = rw (le-leb (length s) most_bytes h, e, lt-leb (length es) room k)

    pub listing-read : {x : ℕ} → x ≡ length es → x ≤ room → Ok (record { qubits = 0; couplers = x; gates = 0 }) ≡ couplers_reading s room
    unfolding couplers_reading judged_couplers_text
    listing-read {x} p k =
        let k' : length es ≤ room = omega arith in
        rw (p, le-leb (length s) most_bytes h, e, le-leb (length es) room k')

-- ---- from the answers to what was found

-- the answer by the tests: the text is short enough, what was found, the list is long enough
abbrev pub answer_by : Bool → Parsed → Bool → Result Job Refusal
answer_by t p u = result_and (and_then (pick t (Ok tt) (Err LongText)) (and_then (judged_lines p) (pick u (Ok tt) (Err Room)))) (Ok (job_in p))

pub listed-job : (s : List ℕ) (room : ℕ) (j : Job) → couplers_reading s room ≡ Ok j → parsed_couplers s ≡ job 0 (couplers_in (parsed_couplers s)) []
unfolding couplers_reading judged_couplers_text
listed-job s room j e = go (leb (length s) most_bytes) (parsed_couplers s) (leb (length (couplers_in (parsed_couplers s))) room) refl e
  where
    go : (t : Bool) (p : Parsed) (u : Bool) → parsed_couplers s ≡ p → answer_by t p u ≡ Ok j → p ≡ job 0 (couplers_in p) []
    go true (job n es gs) true q e = let f = couplers-found s n es gs q in ap₂ (λ k l. job k es l) f.no_qubits f.no_gates
    go true (job n es gs) false q e = cc
    go true (misfit k) u q e = cc
    go false p u q e = cc

pub listed-line : (s : List ℕ) (room k : ℕ) → couplers_reading s room ≡ Err (Line k) → parsed_couplers s ≡ misfit k
unfolding couplers_reading judged_couplers_text
listed-line s room k e = go (leb (length s) most_bytes) (parsed_couplers s) (leb (length (couplers_in (parsed_couplers s))) room) e
  where
    go : (t : Bool) (p : Parsed) (u : Bool) → answer_by t p u ≡ Err (Line k) → p ≡ misfit k
    go true (job n es gs) true e = cc
    go true (job n es gs) false e = cc
    go true (misfit i) u e = let z : i ≡ k = cc e in ap misfit z
    go false p u e = cc
