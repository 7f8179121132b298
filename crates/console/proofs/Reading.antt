-- What the programs know of a text that was read, or refused. Assumes nothing.
use mathlib.Core.Path.{◌≡◌, refl, sym, ap, ap₂, ◌∙◌}
use mathlib.Core.List.{List}
use Prim.Native.Nat.{ℕ, ◌≤◌}
use lib.ListN.{length, take}
use Rattle.std.specs.Prelude.{Result, Ok, Err}
use Rattle.verdicts.specs.declared.verdict.Refusal.{Refusal}
use Rattle.gates.specs.declared.job.Job.{Job}
use Rattle.verdicts.specs.Verdicts.{number_of}
use Rattle.lines.specs.Lent.{onto}
use Rattle.reading.specs.Parsing.{Parsed, misfit, job, parsed}
use Rattle.reading.specs.Readings.{couplers_in, gates_in, job_in, judged_reading, reading_of, lent_after}
use Rattle.reading.proofs.Said.{read-says, unread-says}
use Rattle.console.specs.Printed.{most_coupler_lines, most_gate_lines, refusal_of, unless}
use Rattle.console.proofs.Fronts.{front_fits, front_long, front-is}
use Rattle.console.proofs.Choosing.{unless-passed, unless-refused}

pub couplers-counted : (p : Parsed) → (job_in p).couplers ≡ length (couplers_in p)
couplers-counted (misfit k) = refl
couplers-counted (job n es gs) = refl

pub gates-counted : (p : Parsed) → (job_in p).gates ≡ length (gates_in p)
gates-counted (misfit k) = refl
gates-counted (job n es gs) = refl

-- a text that was read: j, and the lists at the front of cs and gs
module _ (s cs₀ gs₀ cs gs : List ℕ) (lc : length cs₀ ≡ most_coupler_lines) (lg : length gs₀ ≡ most_gate_lines) (r : Result Job Refusal) (j : Job)
    (e : r ≡ reading_of s (length cs₀) (length gs₀)) (d : r ≡ Ok j) (f : cs ≡ lent_after r (couplers_in (parsed s)) cs₀) (g : gs ≡ lent_after r (gates_in (parsed s)) gs₀) where
  both_read : (number_of (judged_reading s most_coupler_lines most_gate_lines) ≡ 0) × (j ≡ job_in (parsed s))
  both_read = read-says s most_coupler_lines most_gate_lines j (sym (ap₂ (reading_of s) lc lg) ∙ sym e ∙ d)

  pub the-job : j ≡ job_in (parsed s)
  the-job = both_read.1

  pub passed : number_of (judged_reading s most_coupler_lines most_gate_lines) ≡ 0
  passed = both_read.0

  couplers-count : j.couplers ≡ length (couplers_in (parsed s))
  couplers-count = ap (λ (k : Job). k.couplers) the-job ∙ couplers-counted (parsed s)

  gates-count : j.gates ≡ length (gates_in (parsed s))
  gates-count = ap (λ (k : Job). k.gates) the-job ∙ gates-counted (parsed s)

  couplers-there : cs ≡ onto (couplers_in (parsed s)) cs₀
  couplers-there = f ∙ ap (λ (x : Result Job Refusal). lent_after x (couplers_in (parsed s)) cs₀) d

  gates-there : gs ≡ onto (gates_in (parsed s)) gs₀
  gates-there = g ∙ ap (λ (x : Result Job Refusal). lent_after x (gates_in (parsed s)) gs₀) d

  pub couplers-within : j.couplers ≤ length cs
  couplers-within = front_fits (couplers_in (parsed s)) cs₀ cs j.couplers couplers-count couplers-there

  pub couplers-long : j.couplers ≡ length (take j.couplers cs)
  couplers-long = front_long (couplers_in (parsed s)) cs₀ cs j.couplers couplers-count couplers-there

  pub gates-within : j.gates ≤ length gs
  gates-within = front_fits (gates_in (parsed s)) gs₀ gs j.gates gates-count gates-there

  pub gates-long : j.gates ≡ length (take j.gates gs)
  gates-long = front_long (gates_in (parsed s)) gs₀ gs j.gates gates-count gates-there

  pub the-couplers : take j.couplers cs ≡ couplers_in (parsed s)
  the-couplers = front-is (couplers_in (parsed s)) cs₀ cs j.couplers couplers-count couplers-there

  pub the-gates : take j.gates gs ≡ gates_in (parsed s)
  the-gates = front-is (gates_in (parsed s)) gs₀ gs j.gates gates-count gates-there

  -- what is said of the job that was read is said of the text
  pub text-read : (f : ℕ → List ℕ → List ℕ → List ℕ) → f j.qubits (take j.couplers cs) (take j.gates gs)
      ≡ unless (judged_reading s most_coupler_lines most_gate_lines) (f (job_in (parsed s)).qubits (couplers_in (parsed s)) (gates_in (parsed s)))
  text-read f =
      ap (λ (k : Job). f k.qubits (take j.couplers cs) (take j.gates gs)) the-job
      ∙ ap₂ (λ (x y : List ℕ). f (job_in (parsed s)).qubits x y) the-couplers the-gates
      ∙ unless-passed (judged_reading s most_coupler_lines most_gate_lines) _ passed

-- a text that was refused
module _ (s : List ℕ) (a b : ℕ) (la : a ≡ most_coupler_lines) (lb : b ≡ most_gate_lines) (r : Result Job Refusal) (v : Refusal) (e : r ≡ reading_of s a b) (d : r ≡ Err v) where
  no : (number_of (judged_reading s most_coupler_lines most_gate_lines) ≡ 0 → ⊥) × (Err v ≡ judged_reading s most_coupler_lines most_gate_lines)
  no = unread-says s most_coupler_lines most_gate_lines v (sym (ap₂ (reading_of s) la lb) ∙ sym e ∙ d)

  pub text-unread : (text : List ℕ) → refusal_of (Err v) ≡ unless (judged_reading s most_coupler_lines most_gate_lines) text
  text-unread text = ap refusal_of no.1 ∙ unless-refused (judged_reading s most_coupler_lines most_gate_lines) text no.0

  -- a text that is no job's has none
  pub none_read : (number_of (judged_reading s most_coupler_lines most_gate_lines) ≡ 0 → ⊥)
  none_read = no.0
