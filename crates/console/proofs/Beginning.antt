-- The front of what is printed, and where the first part begins. Assumes nothing.
use mathlib.Core.Path.{◌≡◌, refl, sym, ap, ap₂, ◌∙◌}
use mathlib.Core.Bool.{Bool}
use mathlib.Core.List.{List, []}
use Prim.Native.Nat.{ℕ, ◌+◌, ◌≤◌}
use native.Mathlib.Omega.{arith}
use lib.ListN.{length, take}
use lib.Seq.{length-take-le}
use borrow.Author.Tests.{eq-eqb, ne_eqb}
use Rattle.std.specs.Prelude.{Result, Ok, Err}
use Rattle.verdicts.specs.declared.verdict.Refusal.{Refusal}
use Rattle.sets.specs.Pick.{pick}
use Rattle.gates.specs.declared.job.Job.{Job}
use Rattle.verdicts.specs.Verdicts.{Verdict, number_of}
use Rattle.chip.specs.Couplers.{near_of}
use Rattle.chip.specs.Ordered.{ordered_list}
use Rattle.stretches.specs.Tests.{judged_stretches}
use Rattle.lines.specs.Lines.{text_of}
use Rattle.reading.specs.Parsing.{parsed}
use Rattle.reading.specs.Readings.{couplers_in, gates_in, job_in, read_job, judged_reading, reading_of, lent_after}
use Rattle.reading.proofs.Said.{read-says}
use Rattle.console.specs.Printed.{most_coupler_lines, most_gate_lines, most_printed, Prints, refusal_of}
use Rattle.console.specs.Parts.{front_job, front_text, first_part, first_of_text, Begins}
use Rattle.console.specs.declared.printing.Begun.{Begun}
use Rattle.console.proofs.Choosing.{unless-passed, unless-refused, prints-same}
use Rattle.console.proofs.Fronts.{front_fits}
use Rattle.console.proofs.Reading.{couplers-counted, gates-counted, the-job, passed, the-couplers, the-gates, text-read, text-unread, none_read}

module _ (n : ℕ) (xs ys : List ℕ) where
  pub front-refused : (v : Verdict) → v ≡ judged_stretches n xs ys → (number_of (judged_stretches n xs ys) ≡ 0 → ⊥) → refusal_of v ≡ front_job n xs ys
  unfolding front_job
  front-refused v e ne = ap refusal_of e ∙ unless-refused (judged_stretches n xs ys) _ ne

  pub front-passed : number_of (judged_stretches n xs ys) ≡ 0 → text_of n (ordered_list (near_of n xs)) [] ≡ front_job n xs ys
  unfolding front_job
  front-passed z = unless-passed (judged_stretches n xs ys) _ z

  pub first-refused : (number_of (judged_stretches n xs ys) ≡ 0 → ⊥) → length ys + 1 ≡ first_part n xs ys
  unfolding first_part
  first-refused ne = sym (ap (λ (b : Bool). pick b 0 (length ys + 1)) (ne_eqb (number_of (judged_stretches n xs ys)) 0 ne))

  pub first-passed : number_of (judged_stretches n xs ys) ≡ 0 → 0 ≡ first_part n xs ys
  unfolding first_part
  first-passed z = sym (ap (λ (b : Bool). pick b 0 (length ys + 1)) (eq-eqb (number_of (judged_stretches n xs ys)) 0 z))

-- ---- a text

module _ (s cs₀ gs₀ cs gs : List ℕ) (lc : length cs₀ ≡ most_coupler_lines) (lg : length gs₀ ≡ most_gate_lines) (r : Result Job Refusal)
    (e : r ≡ reading_of s (length cs₀) (length gs₀)) (f : cs ≡ lent_after r (couplers_in (parsed s)) cs₀) (g : gs ≡ lent_after r (gates_in (parsed s)) gs₀) (out out' : List ℕ) (bytes from : ℕ) where
  reading : r ≡ reading_of s most_coupler_lines most_gate_lines
  reading = e ∙ ap₂ (reading_of s) lc lg

  couplers-are : cs ≡ lent_after (reading_of s most_coupler_lines most_gate_lines) (couplers_in (parsed s)) cs₀
  couplers-are = f ∙ ap (λ (x : Result Job Refusal). lent_after x (couplers_in (parsed s)) cs₀) reading

  gates-are : gs ≡ lent_after (reading_of s most_coupler_lines most_gate_lines) (gates_in (parsed s)) gs₀
  gates-are = g ∙ ap (λ (x : Result Job Refusal). lent_after x (gates_in (parsed s)) gs₀) reading

  pub begun-read : (j : Job) → r ≡ Ok j → Prints most_printed (front_job j.qubits (take j.couplers cs) (take j.gates gs)) out bytes out' → from ≡ first_part j.qubits (take j.couplers cs) (take j.gates gs)
      → Begins s cs₀ gs₀ out (record { job = j; bytes = bytes; from = from }) cs gs out'
  unfolding front_text first_of_text
  begun-read j d p k = record {
    prints = prints-same (text-read s cs₀ gs₀ cs gs lc lg r j e d f g front_job) p;
    job = ap read_job (sym d ∙ reading);
    from = k ∙ ap (λ (i : Job). first_part i.qubits (take j.couplers cs) (take j.gates gs)) (the-job s cs₀ gs₀ cs gs lc lg r j e d f g)
        ∙ ap₂ (first_part (job_in (parsed s)).qubits) (the-couplers s cs₀ gs₀ cs gs lc lg r j e d f g) (the-gates s cs₀ gs₀ cs gs lc lg r j e d f g)
        ∙ sym (ap (λ (b : Bool). pick b (first_part (job_in (parsed s)).qubits (couplers_in (parsed s)) (gates_in (parsed s))) 1)
        (eq-eqb (number_of (judged_reading s most_coupler_lines most_gate_lines)) 0 (passed s cs₀ gs₀ cs gs lc lg r j e d f g)));
    couplers_read = couplers-are;
    gates_read = gates-are;
  }

  pub begun-unread : (v : Refusal) → r ≡ Err v → Prints most_printed (refusal_of (Err v)) out bytes out'
      → Begins s cs₀ gs₀ out (record { job = record { qubits = 0; couplers = 0; gates = 0 }; bytes = bytes; from = 1 }) cs gs out'
  unfolding front_text first_of_text
  begun-unread v d p = record {
    prints = prints-same (text-unread s (length cs₀) (length gs₀) lc lg r v e d _) p;
    job = ap read_job (sym d ∙ reading);
    from = sym (ap (λ (b : Bool). pick b (first_part (job_in (parsed s)).qubits (couplers_in (parsed s)) (gates_in (parsed s))) 1)
        (ne_eqb (number_of (judged_reading s most_coupler_lines most_gate_lines)) 0 (none_read s (length cs₀) (length gs₀) lc lg r v e d)));
    couplers_read = couplers-are;
    gates_read = gates-are;
  }

-- ---- what beginning leaves can be lent on: the lists of the job, at the front of their memories

module _ {s cs gs out cs' gs' out' : List ℕ} {r : Begun} (b : Begins s cs gs out r cs' gs' out') where
  abbrev said : Result Job Refusal
  said = reading_of s most_coupler_lines most_gate_lines

  counted : (w : Result Job Refusal) → said ≡ w → (r.job.couplers ≤ length cs') × (r.job.gates ≤ length gs')
  counted (Ok j) e =
      let q : r.job ≡ job_in (parsed s) = b.job ∙ ap read_job e ∙ (read-says s most_coupler_lines most_gate_lines j e).1 in (
        front_fits (couplers_in (parsed s)) cs cs' r.job.couplers (ap (λ (i : Job). i.couplers) q ∙ couplers-counted (parsed s)) (b.couplers_read ∙ ap (λ (x : Result Job Refusal). lent_after x (couplers_in (parsed s)) cs) e),
        front_fits (gates_in (parsed s)) gs gs' r.job.gates (ap (λ (i : Job). i.gates) q ∙ gates-counted (parsed s)) (b.gates_read ∙ ap (λ (x : Result Job Refusal). lent_after x (gates_in (parsed s)) gs) e),
      )
  counted (Err v) e =
      let q : r.job ≡ record { qubits = 0; couplers = 0; gates = 0 } = b.job ∙ ap read_job e in
      (omega (arith, ap (λ (i : Job). i.couplers) q), omega (arith, ap (λ (i : Job). i.gates) q))

  pub couplers-lent : r.job.couplers ≤ length cs'
  couplers-lent = (counted said refl).0

  pub couplers-whole : r.job.couplers ≡ length (take r.job.couplers cs')
  couplers-whole = sym (length-take-le r.job.couplers cs' couplers-lent)

  pub gates-lent : r.job.gates ≤ length gs'
  gates-lent = (counted said refl).1

  pub gates-whole : r.job.gates ≡ length (take r.job.gates gs')
  gates-whole = sym (length-take-le r.job.gates gs' gates-lent)
