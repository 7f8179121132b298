-- Reading's answer from the steps that lead to it. Assumes nothing.
use Rattle.std.specs.Prelude.{None, Some}
use mathlib.Core.Path.{◌≡◌, refl, ap, ◌∙◌}
use mathlib.Core.List.{List, [], ◌∷◌}
use Prim.Native.Nat.{ℕ, ◌+◌, ◌≤◌, ◌<◌}
use native.Mathlib.Omega.{arith}
use lib.ListN.{length, length-append}
use borrow.Author.Tests.{le-leb, lt-leb}
use Rattle.std.specs.Prelude.{Ok, Err}
use Rattle.verdicts.specs.declared.verdict.Refusal.TheVariants.{Room, Line, LongText}
use Rattle.spots.specs.Numbers.{Got}
use Rattle.reading.specs.Limits.{most_bytes}
use Rattle.lines.specs.Lines.{line_text, record_text, records_text}
use Rattle.reading.specs.Parsing.{run_of, read_head, misfit, job, end_of, body_of, parsed}
use Rattle.reading.specs.Readings.{judged_reading, reading_of}
use Rattle.reading.specs.declared.sort.Sort.{Sort}
use Rattle.reading.specs.declared.sort.Sort.TheVariants.{Couplers, Gates}
use Rattle.reading.proofs.Runs.{line-run-whole}

longer : (rs : List ℕ) → length rs ≤ length (records_text rs)
unfolding records_text record_text line_text
longer [] = omega arith
longer (r ∷ rs) = simp length-append (omega (arith, longer rs))

pub line-run-length : (g : Sort) (s : List ℕ) → length (run_of g s).records + length (run_of g s).left ≤ length s
line-run-length g s = omega (arith, longer (run_of g s).records, simp length-append at (ap length (line-run-whole g s).same))

module _ (s : List ℕ) (a b : ℕ) where
  pub answer-long : most_bytes < length s → Err LongText ≡ reading_of s a b
  unfolding reading_of judged_reading
  answer-long h = rw (lt-leb (length s) most_bytes h)

  pub answer-line : (k : ℕ) → length s ≤ most_bytes → parsed s ≡ misfit k → Err (Line k) ≡ reading_of s a b
  unfolding reading_of judged_reading
  answer-line k h e = rw (le-leb (length s) most_bytes h, e)

pub parsed-first : (s : List ℕ) → read_head s ≡ None → parsed s ≡ misfit 1
unfolding parsed body_of
parsed-first s e = rw e

-- h is the first line, m is left behind the couplers, l behind the gates
module _ (s m l : List ℕ) (h : Got ℕ) (f : read_head s ≡ Some h) (em : m ≡ (run_of Couplers h.rest).left) (el : l ≡ (run_of Gates m).left) where
  ended : parsed s ≡ end_of h.value (run_of Couplers h.rest).records (run_of Gates m).records l
  unfolding parsed body_of
  ended = rw (el, f, em)

  pub parsed-misfit : 0 < length l → parsed s ≡ misfit (2 + length (run_of Couplers h.rest).records + length (run_of Gates m).records)
  unfolding end_of
  parsed-misfit p = ended ∙ go l p
    where
      go : (l : List ℕ) → 0 < length l → end_of h.value (run_of Couplers h.rest).records (run_of Gates m).records l ≡ misfit (2 + length (run_of Couplers h.rest).records + length (run_of Gates m).records)
      go [] h = absurd (omega arith)
      go (x ∷ l) h = refl

  pub parsed-job : l ≡ [] → parsed s ≡ job h.value (run_of Couplers h.rest).records (run_of Gates m).records
  unfolding end_of
  parsed-job e = ended ∙ rw e

module _ (s : List ℕ) (a b n : ℕ) (es gs : List ℕ) (h : length s ≤ most_bytes) (e : parsed s ≡ job n es gs) where
  pub answer-room : a < length es → Err Room ≡ reading_of s a b
  unfolding reading_of judged_reading
  answer-room k = rw (le-leb (length s) most_bytes h, e, lt-leb (length es) a k)

  pub answer-room-too : length es ≤ a → b < length gs → Err Room ≡ reading_of s a b
  unfolding reading_of judged_reading
  answer-room-too j k = rw (le-leb (length s) most_bytes h, e, le-leb (length es) a j, lt-leb (length gs) b k)

  pub answer-job : {x y : ℕ} → x ≡ length es → y ≡ length gs → x ≤ a → y ≤ b → Ok (record { qubits = n; couplers = x; gates = y }) ≡ reading_of s a b
  unfolding reading_of judged_reading
  answer-job {x} {y} p q j k =
      let j' : length es ≤ a = omega arith in
      let k' : length gs ≤ b = omega arith in
      rw (p, q, le-leb (length s) most_bytes h, e, le-leb (length es) a j', le-leb (length gs) b k')
