-- What document 01, "The job text", promises of reading and writing, said of the definitions that `read` and `write` promise. Assumes nothing.
use mathlib.Core.Path.{◌≡◌, refl, sym, ap, ◌∙◌, subst}
use mathlib.Core.Bool.{Bool, true, false}
use mathlib.Core.List.{List, [], ◌∷◌, ◌++◌}
use Prim.Native.Nat.{ℕ, ◌+◌, ◌≤◌}
use native.Mathlib.Omega.{arith}
use lib.Dec.{leb}
use lib.ListN.{length, take}
use lib.Seq.{take-append_seam}
use Rattle.sets.proofs.Lists.{all_none}
use Rattle.sets.specs.Pick.{both}
use Rattle.gates.specs.declared.job.Job.{Job}
use Rattle.std.specs.Prelude.{Ok, Err}
use Rattle.verdicts.specs.declared.verdict.Refusal.TheVariants.{Line}
use Rattle.reading.specs.Limits.{most_bytes}
use Rattle.lines.specs.Lines.{text_of}
use Rattle.reading.specs.Misfit.{JobText, NoLf, Misfit}
use Rattle.reading.specs.Parsing.{Parsed, misfit, job, end_of, parsed}
use Rattle.lines.specs.Lent.{onto}
use Rattle.reading.specs.Readings.{judged_reading, reading_of, couplers_in, gates_in, job_in, lent_after}
use Rattle.reading.specs.declared.sort.Sort.TheVariants.{Couplers, Gates}
use Rattle.text.specs.Writings.{writing_of}
use Rattle.text.proofs.Accepted.{qubits-fit, couplers_fit, gates_fit}
use Rattle.reading.proofs.ListingAnswers.{answer_by}
use Rattle.reading.proofs.Answers.{answer-line, answer-job, parsed-first}
use Rattle.reading.proofs.Fronts.{unended-none, unended-head}
use Rattle.text.proofs.Judging.{written}
use Rattle.reading.proofs.Misfits.{job-found, misfit-first, misfit-parsed}
use Rattle.reading.proofs.Runs.{parsed-forth, text-parsed}

-- ---- what stands in the lent memory: the first `bytes` bytes that writing left, the first records that reading left

abbrev pub written_in : ℕ → List ℕ → List ℕ → List ℕ → ℕ → List ℕ
written_in n couplers gates memory bytes = take bytes (lent_after (Ok bytes) (text_of n couplers gates) memory)

abbrev pub couplers_read : List ℕ → Job → List ℕ → List ℕ
couplers_read s j memory = take j.couplers (lent_after (Ok j) (couplers_in (parsed s)) memory)

abbrev pub gates_read : List ℕ → Job → List ℕ → List ℕ
gates_read s j memory = take j.gates (lent_after (Ok j) (gates_in (parsed s)) memory)

-- ---- from the answers to what was found

record JobRead (s : List ℕ) (j : Job) : Type 0 where
  found : parsed s ≡ job j.qubits (couplers_in (parsed s)) (gates_in (parsed s))
  couplers_all : j.couplers ≡ length (couplers_in (parsed s))
  gates_all : j.gates ≡ length (gates_in (parsed s))

job_read : (s : List ℕ) (a b : ℕ) (j : Job) → reading_of s a b ≡ Ok j → JobRead s j
unfolding reading_of judged_reading
job_read s a b j e = go (leb (length s) most_bytes) (parsed s) (both (leb (length (couplers_in (parsed s))) a) (leb (length (gates_in (parsed s))) b)) refl e
  where
    go : (t : Bool) (p : Parsed) (u : Bool) → parsed s ≡ p → answer_by t p u ≡ Ok j → JobRead s j
    go true (job n es gs) true q e =
        let z : job_in (job n es gs) ≡ j = cc e in
        subst (JobRead s) z (record {
          found = q ∙ sym (ap (λ r. job n (couplers_in r) (gates_in r)) q);
          couplers_all = sym (ap (λ r. length (couplers_in r)) q);
          gates_all = sym (ap (λ r. length (gates_in r)) q);
        })
    go true (job n es gs) false q e = cc
    go true (misfit k) u q e = cc
    go false p u q e = cc

line_read : (s : List ℕ) (a b k : ℕ) → reading_of s a b ≡ Err (Line k) → parsed s ≡ misfit k
unfolding reading_of judged_reading
line_read s a b k e = go (leb (length s) most_bytes) (parsed s) (both (leb (length (couplers_in (parsed s))) a) (leb (length (gates_in (parsed s))) b)) e
  where
    go : (t : Bool) (p : Parsed) (u : Bool) → answer_by t p u ≡ Err (Line k) → p ≡ misfit k
    go true (job n es gs) true e = cc
    go true (job n es gs) false e = cc
    go true (misfit i) u e = let z : i ≡ k = cc e in ap misfit z
    go false p u e = cc

-- ---- THE THEOREMS

-- what the writer leaves at the front of the lent memory is the text of the lists
pub written-text : (n : ℕ) (couplers gates memory : List ℕ) (bytes : ℕ) → writing_of n couplers gates (length memory) ≡ Ok bytes
    → written_in n couplers gates memory bytes ≡ text_of n couplers gates
written-text n couplers gates memory bytes e =
    let w = written n couplers gates (length memory) bytes e in
    ap (λ k. take k (onto (text_of n couplers gates) memory)) w.0 ∙ take-append_seam (text_of n couplers gates) _

-- "Lists that the writer accepts read back the same when their text has at most 65,536 bytes and the room suffices"
pub record ReadBack (s : List ℕ) (n : ℕ) (couplers gates cs gs : List ℕ) : Type 0 where
  pub job : Job
  pub answer : reading_of s (length cs) (length gs) ≡ Ok job
  pub same_qubits : job.qubits ≡ n
  pub same_couplers : couplers_read s job cs ≡ couplers
  pub same_gates : gates_read s job gs ≡ gates

pub lists-read-back : (n : ℕ) (couplers gates memory cs gs : List ℕ) (bytes : ℕ) → writing_of n couplers gates (length memory) ≡ Ok bytes
    → bytes ≤ most_bytes → length couplers ≤ length cs → length gates ≤ length gs → ReadBack (written_in n couplers gates memory bytes) n couplers gates cs gs
lists-read-back n couplers gates memory cs gs bytes e short a b =
    let w = written n couplers gates (length memory) bytes e in
    let p : parsed (text_of n couplers gates) ≡ job n couplers gates
    = text-parsed n couplers gates (qubits-fit n w.1.qubits) (couplers_fit n couplers w.1.couplers) (gates_fit n gates w.1.gates) in
    subst (λ s. ReadBack s n couplers gates cs gs) (sym (written-text n couplers gates memory bytes e)) (record {
      job = record { qubits = n; couplers = length couplers; gates = length gates };
      answer = sym (answer-job (text_of n couplers gates) (length cs) (length gs) n couplers gates (omega (arith, w.0)) p refl refl a b);
      same_qubits = refl;
      same_couplers = ap (λ r. take (length couplers) (onto (couplers_in r) cs)) p ∙ take-append_seam couplers _;
      same_gates = ap (λ r. take (length gates) (onto (gates_in r) gs)) p ∙ take-append_seam gates _;
    })

-- "a text whose lists the writer accepts is written back byte for byte"
pub text-written-back : (s cs gs memory : List ℕ) (j : Job) (bytes : ℕ) → reading_of s (length cs) (length gs) ≡ Ok j
    → writing_of j.qubits (couplers_read s j cs) (gates_read s j gs) (length memory) ≡ Ok bytes
    → written_in j.qubits (couplers_read s j cs) (gates_read s j gs) memory bytes ≡ s
text-written-back s cs gs memory j bytes e w =
    let r = job_read s (length cs) (length gs) j e in
    let c : couplers_read s j cs ≡ couplers_in (parsed s) = ap (λ k. take k (onto (couplers_in (parsed s)) cs)) r.couplers_all ∙ take-append_seam (couplers_in (parsed s)) _ in
    let g : gates_read s j gs ≡ gates_in (parsed s) = ap (λ k. take k (onto (gates_in (parsed s)) gs)) r.gates_all ∙ take-append_seam (gates_in (parsed s)) _ in
    written-text j.qubits (couplers_read s j cs) (gates_read s j gs) memory bytes w ∙ ap (λ l. text_of j.qubits l (gates_read s j gs)) c ∙ ap (λ l. text_of j.qubits (couplers_in (parsed s)) l) g
    ∙ sym (job-found s j.qubits (couplers_in (parsed s)) (gates_in (parsed s)) r.found).same

-- "the first line that cannot continue a job decides": the line of refusal 10 is that line ..
pub refused-line : (s : List ℕ) (a b k : ℕ) → reading_of s a b ≡ Err (Line k) → Misfit s k
refused-line s a b k e = misfit-first s k (line_read s a b k e)

-- .. and where a text of at most 65,536 bytes has such a line, it is refused there
pub line_refused : (s : List ℕ) (a b k : ℕ) → length s ≤ most_bytes → Misfit s k → reading_of s a b ≡ Err (Line k)
line_refused s a b k h m = sym (answer-line s a b k h (misfit-parsed s k m))

-- "Empty text is refused at line 1"
pub empty-refused : (a b : ℕ) → reading_of [] a b ≡ Err (Line 1)
empty-refused a b = sym (answer-line [] a b 1 (omega arith) (parsed-first [] (unended-head [] (all_none _))))

-- "a last line without LF included": whatever it holds, it is refused where it is the first line ..
pub unended-first-refused : (t : List ℕ) (a b : ℕ) → length t ≤ most_bytes → NoLf t → reading_of t a b ≡ Err (Line 1)
unended-first-refused t a b h no-lf = sym (answer-line t a b 1 h (parsed-first t (unended-head t no-lf)))

-- .. and behind the text of a job
pub unended-refused : (s : List ℕ) (x : ℕ) (t : List ℕ) (a b : ℕ) (j : JobText s) → length (s ++ (x ∷ t)) ≤ most_bytes → NoLf (x ∷ t)
    → reading_of (s ++ (x ∷ t)) a b ≡ Err (Line (2 + length j.couplers + length j.gates))
unfolding end_of
unended-refused s x t a b j h no-lf =
    sym (answer-line (s ++ (x ∷ t)) a b _ h (ap (λ l. parsed (l ++ (x ∷ t))) j.same
    ∙ parsed-forth j.qubits j.couplers j.gates (x ∷ t) j.few j.couplers_fit j.gates_fit (λ z. unended-none Couplers (x ∷ t) no-lf) (unended-none Gates (x ∷ t) no-lf)))

-- a text that is read is a job's text
pub read-job-text : (s : List ℕ) (a b : ℕ) (j : Job) → reading_of s a b ≡ Ok j → JobText s
read-job-text s a b j e =
    let r = job_read s a b j e in
    let f = job-found s j.qubits (couplers_in (parsed s)) (gates_in (parsed s)) r.found in
    record { qubits = j.qubits; couplers = couplers_in (parsed s); gates = gates_in (parsed s); few = f.few; couplers_fit = f.couplers; gates_fit = f.gates; same = f.same }
