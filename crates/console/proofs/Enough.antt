-- The programs lend enough, and read enough. Assumes nothing.
use mathlib.Core.Path.{◌≡◌, refl, sym, ap, ◌∙◌}
use mathlib.Core.Logic.{◌≢◌}
use mathlib.Core.Bool.{Bool, true, false}
use mathlib.Core.List.{List, ◌∷◌}
use Prim.Native.Nat.{ℕ, ◌+◌, ◌/◌, ◌≤◌, ◌<◌}
use native.Mathlib.Omega.{arith}
use lib.Dec.{eqb, leb, ltb}
use lib.ListN.{length, get_or, take}
use lib.Seq.{take_all, length-take-le}
use borrow.Author.Tests.{eqb-true, leb-true, leb-false, ltb-true, ltb-false}
use Rattle.std.specs.Prelude.{Err}
use Rattle.sets.specs.Pick.{pick}
use Rattle.verdicts.specs.declared.verdict.Refusal.TheVariants.{LongText}
use Rattle.verdicts.specs.Verdicts.{Verdict, number_of, place_of, verdict_in}
use Rattle.verdicts.proofs.Judged.{no_nine}
use Rattle.tallies.specs.Tally.{largest}
use Rattle.judging.specs.Tests.{verdict_of}
use Rattle.sets.specs.Lists.{All}
use Rattle.stretches.specs.Stretches.{stretches_of}
use Rattle.stretches.specs.Tests.{job_bound, judged_stretches}
use Rattle.stretches.proofs.Passing.{job-passed}
use Rattle.stretches.proofs.Enough.{job-never-8, judged-enough}
use Rattle.lines.specs.Lines.{fields_text, line_text, text_of, refusal_text, counts_text}
use Rattle.lines.proofs.Digits.{digits-small, digits-big}
use Rattle.reading.specs.Limits.{most_bytes}
use Rattle.reading.specs.Parsing.{parsed}
use Rattle.reading.specs.Readings.{couplers_in, gates_in, job_in, judged_reading}
use Rattle.reading.proofs.Answers.{answer-long}
use Rattle.reading.proofs.Enough as reads
use Rattle.text.proofs.Values.{reading-verdict}
use Rattle.console.specs.Printed.{most_coupler_lines, most_gate_lines, refusal_of, unless, laid_job, counted_job, laid_text, counted_text}
use Rattle.console.proofs.Choosing.{unless-refused}
use Rattle.console.proofs.Whole.{number-few}

-- ---- the records that are lent to the reader and to the laying

-- a longer text is refused with 11
pub reading-never-8 : (s : List ℕ) → number_of (judged_reading s most_coupler_lines most_gate_lines) ≢ 8
reading-never-8 s = reads.reads-never-8 s most_coupler_lines most_gate_lines (omega arith) (omega arith)

-- tests 1 to 7 are those of laying with as much room as it needs
pub judging-never-8 : (n : ℕ) (couplers gates : List ℕ) → number_of (judged_stretches n couplers gates) ≢ 8
judging-never-8 n couplers gates e =
    job-never-8 n couplers gates (job_bound n gates) (omega arith) (ap number_of (judged-enough n couplers gates (job_bound n gates) (omega arith)) ∙ e)

-- and a stretch of a job that passes them is never refused, so that no refusal comes behind the front
pub part-never-refused : (n : ℕ) (couplers gates : List ℕ) → number_of (judged_stretches n couplers gates) ≡ 0 → All (λ s. number_of (verdict_of n couplers s largest) ≡ 0) (stretches_of n gates)
part-never-refused n couplers gates z = (job-passed n couplers gates z).accepts

-- ---- what is printed

-- there is something of it, and it is no `x` line with number 8 or 9
pub record Printable (text : List ℕ) : Type 0 where
  pub some : 0 < length text
  pub never_8 : (place : ℕ) → text ≢ refusal_text 8 place
  pub never_9 : (place : ℕ) → text ≢ refusal_text 9 place

-- behind the tab of an `x` line stands the first digit of its number
digit : (k place : ℕ) → k < 10 → get_or (refusal_text k place) 2 0 ≡ 48 + k
unfolding refusal_text line_text fields_text
digit k place h = rw (digits-small k h)

digit-ten : (k place : ℕ) → 10 ≤ k → k < 20 → get_or (refusal_text k place) 2 0 ≡ 49
unfolding refusal_text line_text fields_text
digit-ten k place a b = let q : k / 10 ≡ 1 = omega arith in rw (digits-big k a, q, digits-small 1 (omega arith))

other-number : (v : Verdict) (k place : ℕ) → 2 ≤ k → k < 10 → number_of v ≢ k → refusal_of v ≢ refusal_text k place
unfolding refusal_of
other-number v k place a b ne e = go (ltb (number_of v) 10) refl
  where
    same : get_or (refusal_text (number_of v) (place_of v)) 2 0 ≡ 48 + k
    same = ap (λ (l : List ℕ). get_or l 2 0) e ∙ digit k place b

    go : (t : Bool) → ltb (number_of v) 10 ≡ t → ⊥
    go true q = ne (omega (arith, same, digit (number_of v) (place_of v) (ltb-true (number_of v) 10 q)))
    go false q = omega (arith, same, digit-ten (number_of v) (place_of v) (ltb-false (number_of v) 10 q) (omega (arith, number-few v)))

pub refusal-printable : (v : Verdict) → number_of v ≢ 8 → Printable (refusal_of v)
unfolding refusal_of refusal_text line_text
refusal-printable v a = record {
  some = omega arith;
  never_8 = λ place. other-number v 8 place (omega arith) (omega arith) a;
  never_9 = λ place. other-number v 9 place (omega arith) (omega arith) (no_nine v);
}

-- a text that begins with another letter
pub letter-printable : (letter : ℕ) (text : List ℕ) → letter ≢ 120 → Printable (letter ∷ text)
unfolding refusal_text line_text
letter-printable letter text ne = record {
  some = omega arith;
  never_8 = λ place e. ne (ap (λ (l : List ℕ). get_or l 0 0) e);
  never_9 = λ place e. ne (ap (λ (l : List ℕ). get_or l 0 0) e);
}

pub either-printable : (v : Verdict) (text : List ℕ) → (number_of v ≡ 0 → Printable text) → Printable (refusal_of v) → Printable (unless v text)
unfolding unless
either-printable v text p q = go (eqb (number_of v) 0) refl
  where
    go : (b : Bool) → eqb (number_of v) 0 ≡ b → Printable (pick b text (refusal_of v))
    go true e = p (eqb-true (number_of v) 0 e)
    go false e = q

module _ (n : ℕ) (couplers gates : List ℕ) where
  pub refused-printable : Printable (refusal_of (judged_stretches n couplers gates))
  refused-printable = refusal-printable (judged_stretches n couplers gates) (judging-never-8 n couplers gates)

  job-printable : Printable (laid_job n couplers gates)
  unfolding laid_job text_of line_text
  job-printable = either-printable (judged_stretches n couplers gates) _ (λ z. letter-printable 113 _ (λ e. omega arith)) refused-printable

  counts-printable : Printable (counted_job n couplers gates)
  unfolding counted_job counts_text line_text
  counts-printable = either-printable (judged_stretches n couplers gates) _ (λ z. letter-printable 115 _ (λ e. omega arith)) refused-printable

module _ (s : List ℕ) where
  unread-printable : Printable (refusal_of (judged_reading s most_coupler_lines most_gate_lines))
  unread-printable = refusal-printable (judged_reading s most_coupler_lines most_gate_lines) (reading-never-8 s)

  pub laid-printable : Printable (laid_text s)
  unfolding laid_text
  laid-printable =
      either-printable (judged_reading s most_coupler_lines most_gate_lines) _ (λ z. job-printable (job_in (parsed s)).qubits (couplers_in (parsed s)) (gates_in (parsed s))) unread-printable

  pub counted-printable : Printable (counted_text s)
  unfolding counted_text
  counted-printable =
      either-printable (judged_reading s most_coupler_lines most_gate_lines) _ (λ z. counts-printable (job_in (parsed s)).qubits (couplers_in (parsed s)) (gates_in (parsed s))) unread-printable

-- ---- the bytes that are read

-- a text above its limit is refused with 11, whatever it holds
module _ (s : List ℕ) (long : most_bytes < length s) where
  judged-long : judged_reading s most_coupler_lines most_gate_lines ≡ Err LongText
  judged-long = sym (reading-verdict s most_coupler_lines most_gate_lines) ∙ sym (ap verdict_in (answer-long s most_coupler_lines most_gate_lines long))

  refused-long : (text : List ℕ) → unless (judged_reading s most_coupler_lines most_gate_lines) text ≡ refusal_of (Err LongText)
  refused-long text =
      sym (unless-refused (judged_reading s most_coupler_lines most_gate_lines) text (λ z. let y : ◌≡◌ {A = ℕ} 11 0 = sym (ap number_of judged-long) ∙ z in omega arith))
      ∙ ap refusal_of judged-long

  laid-long : laid_text s ≡ refusal_of (Err LongText)
  unfolding laid_text
  laid-long = refused-long _

  counted-long : counted_text s ≡ refusal_of (Err LongText)
  unfolding counted_text
  counted-long = refused-long _

-- one byte more than a text may have is enough: what lies behind it changes nothing
module _ (s : List ℕ) where
  abbrev seen : List ℕ
  seen = take (most_bytes + 1) s

  pub either-length : (f : List ℕ → List ℕ) → ((t : List ℕ) → most_bytes < length t → f t ≡ refusal_of (Err LongText)) → f (take (most_bytes + 1) s) ≡ f s
  either-length f long = go (leb (length s) (most_bytes + 1)) refl
    where
      go : (b : Bool) → leb (length s) (most_bytes + 1) ≡ b → f seen ≡ f s
      go true e = ap f (take_all (most_bytes + 1) s (leb-true (length s) (most_bytes + 1) e))
      go false e =
          let h : most_bytes + 1 < length s = leb-false (length s) (most_bytes + 1) e in
          long seen (omega (arith, length-take-le (most_bytes + 1) s (omega arith))) ∙ sym (long s (omega arith))

  pub laid-enough : laid_text (take (most_bytes + 1) s) ≡ laid_text s
  laid-enough = either-length laid_text laid-long

  pub counted-enough : counted_text (take (most_bytes + 1) s) ≡ counted_text s
  counted-enough = either-length counted_text counted-long
