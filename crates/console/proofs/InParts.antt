-- "The program prints stretch by stretch": the front and the parts in order are the whole text, which is one definition. Assumes nothing.
use mathlib.Core.Path.{◌≡◌, refl, sym, ap, ap₂, ◌∙◌, subst}
use mathlib.Core.Bool.{Bool}
use mathlib.Core.List.{List, [], ◌∷◌, ◌++◌, append-nil, append_assoc}
use Prim.Native.Nat.{ℕ, ◌+◌}
use native.Mathlib.Omega.{arith}
use native.Mathlib.Decide.{ℕ_discrete}
use lib.ListN.{length, take, get_or}
use borrow.Author.Tests.{eq-eqb, ne_eqb}
use Rattle.std.specs.Prelude.{Option, Result, Ok, Err}
use Rattle.std.specs.Io.KnownBytes.{Appends}
use Rattle.std.proofs.KnownBytes.{Appends-trans}
use Rattle.verdicts.specs.declared.verdict.Refusal.{Refusal}
use Rattle.sets.specs.Pick.{pick}
use Rattle.circuit.specs.Phase.{phases}
use Rattle.gates.specs.declared.job.Job.{Job}
use Rattle.verdicts.specs.Verdicts.{number_of}
use Rattle.chip.specs.Couplers.{near_of}
use Rattle.chip.specs.Ordered.{ordered_list}
use Rattle.sets.specs.Lists.{All}
use Rattle.stretches.specs.Tests.{judged_stretches}
use Rattle.stretches.specs.Asked.{Accepts}
use Rattle.stretches.specs.Laid.{job_records}
use Rattle.stretches.proofs.Going.{rest-start}
use Rattle.stretches.proofs.Parting.{parts_all}
use Rattle.stretches.proofs.Passing.{job-passed}
use Rattle.lines.specs.Lines.{line_text, records_text, text_of}
use Rattle.lines.proofs.Writes.{records-append}
use Rattle.reading.specs.Parsing.{parsed}
use Rattle.reading.specs.Readings.{couplers_in, gates_in, job_in, read_job, judged_reading, reading_of, lent_after}
use Rattle.console.specs.Printed.{most_coupler_lines, most_gate_lines, unless, laid_job, laid_text}
use Rattle.console.specs.Parts.{front_job, front_text, first_part, first_of_text, Begins, parts_from, phase_from, phase_of_text}
use Rattle.console.specs.declared.printing.Begun.{Begun}
use Rattle.reading.proofs.Said.{read-says, unread-says}
use Rattle.console.proofs.Choosing.{unless-passed, unless-refused}
use Rattle.console.proofs.Fronts.{front-is}
use Rattle.console.proofs.Reading.{couplers-counted, gates-counted}
use Rattle.console.proofs.Beginning.{first-passed, first-refused, gates-whole}
use Rattle.console.proofs.Partly.{parts-past, parts_are}
use Rattle.console.proofs.Going.{phase-past}

module _ (n : ℕ) (xs ys : List ℕ) where
  none : records_text [] ≡ []
  unfolding records_text
  none = refl

  text-parted : (es : List ℕ) (gs : List ℕ) → text_of n es gs ≡ text_of n es [] ++ records_text gs
  unfolding text_of records_text
  text-parted es gs =
      sym (append_assoc (line_text 113 (n ∷ [])) (records_text es ++ []) (records_text gs)
      ∙ ap (λ (x : List ℕ). line_text 113 (n ∷ []) ++ (x ++ records_text gs)) (append-nil (records_text es)))

  -- a job: its front, and its parts from where the first begins
  job-in-parts : laid_job n xs ys ≡ front_job n xs ys ++ parts_from records_text n xs ys (length ys + 1) (first_part n xs ys)
  job-in-parts = go (ℕ_discrete (number_of (judged_stretches n xs ys)) 0)
    where
      go : Dec (number_of (judged_stretches n xs ys) ≡ 0) → laid_job n xs ys ≡ front_job n xs ys ++ parts_from records_text n xs ys (length ys + 1) (first_part n xs ys)
      go (yes z) =
          unfold laid_job front_job in
          sym (unless-passed (judged_stretches n xs ys) (text_of n (ordered_list (near_of n xs)) (job_records n xs ys)) z) ∙ text-parted (ordered_list (near_of n xs)) (job_records n xs ys)
          ∙ ap₂ (λ (x y : List ℕ). x ++ y) (unless-passed (judged_stretches n xs ys) (text_of n (ordered_list (near_of n xs)) []) z)
          (ap records_text (sym (parts_all n xs ys))
          ∙ sym (parts_are records_text n xs ys none records-append (length ys + 1) 0 (omega arith) (subst (All (Accepts n xs)) (sym (rest-start n ys)) (job-passed n xs ys z).accepts))
          ∙ ap (parts_from records_text n xs ys (length ys + 1)) (first-passed n xs ys z))
      go (no ne) =
          unfold laid_job front_job in
          sym (unless-refused (judged_stretches n xs ys) (text_of n (ordered_list (near_of n xs)) (job_records n xs ys)) ne)
          ∙ unless-refused (judged_stretches n xs ys) (text_of n (ordered_list (near_of n xs)) []) ne
          ∙ sym (append-nil (unless (judged_stretches n xs ys) (text_of n (ordered_list (near_of n xs)) [])))
          ∙ ap (λ (x : List ℕ). unless (judged_stretches n xs ys) (text_of n (ordered_list (near_of n xs)) []) ++ x)
          (sym (ap (parts_from records_text n xs ys (length ys + 1)) (sym (first-refused n xs ys ne)) ∙ parts-past records_text n xs ys (length ys + 1) (length ys + 1) (omega arith)))

-- ---- a text, as beginning leaves it

module _ {s couplers gates out couplers' gates' out' : List ℕ} {r : Begun} (b : Begins s couplers gates out r couplers' gates' out') where
  abbrev reading : Result Job Refusal
  reading = reading_of s most_coupler_lines most_gate_lines

  abbrev rest : List ℕ
  rest = parts_from records_text r.job.qubits (take r.job.couplers couplers') (take r.job.gates gates') (r.job.gates + 1) r.from

  abbrev n : ℕ
  n = (job_in (parsed s)).qubits

  abbrev xs : List ℕ
  xs = couplers_in (parsed s)

  abbrev ys : List ℕ
  ys = gates_in (parsed s)

  -- what is said of the job that is handed on, and of the place of its first part, is said of the job in the text ..
  read-as : (P : ℕ → List ℕ → List ℕ → ℕ → ℕ → List ℕ) (j : Job) → reading ≡ Ok j
      → P r.job.qubits (take r.job.couplers couplers') (take r.job.gates gates') r.job.gates r.from ≡ P (job_in (parsed s)).qubits (couplers_in (parsed s)) (gates_in (parsed s)) (length (gates_in (parsed s))) (first_part (job_in (parsed s)).qubits (couplers_in (parsed s)) (gates_in (parsed s)))
  unfolding first_of_text
  read-as P j e =
      let said = read-says s most_coupler_lines most_gate_lines j e in
      let q : r.job ≡ job_in (parsed s) = b.job ∙ ap read_job e ∙ said.1 in
      let cs : take r.job.couplers couplers' ≡ xs =
      front-is xs couplers couplers' r.job.couplers (ap (λ (i : Job). i.couplers) q ∙ couplers-counted (parsed s)) (b.couplers_read ∙ ap (λ (x : Result Job Refusal). lent_after x xs couplers) e) in
      let gs : take r.job.gates gates' ≡ ys =
      front-is ys gates gates' r.job.gates (ap (λ (i : Job). i.gates) q ∙ gates-counted (parsed s)) (b.gates_read ∙ ap (λ (x : Result Job Refusal). lent_after x ys gates) e) in
      let k : r.from ≡ first_part n xs ys =
      b.from ∙ ap (λ (t : Bool). pick t (first_part n xs ys) 1) (eq-eqb (number_of (judged_reading s most_coupler_lines most_gate_lines)) 0 said.0) in
      ap₂ (λ (i m : ℕ). P i (take r.job.couplers couplers') (take r.job.gates gates') m r.from) (ap (λ (i : Job). i.qubits) q) (ap (λ (i : Job). i.gates) q ∙ gates-counted (parsed s))
      ∙ ap₂ (λ (x y : List ℕ). P n x y (length ys) r.from) cs gs ∙ ap (P n xs ys (length ys)) k

  -- .. and where the text is refused, of nothing
  unread-as : (P : ℕ → List ℕ → List ℕ → ℕ → ℕ → List ℕ) (v : Refusal) → reading ≡ Err v → P r.job.qubits (take r.job.couplers couplers') (take r.job.gates gates') r.job.gates r.from ≡ P 0 [] [] 0 1
  unfolding first_of_text
  unread-as P v e =
      let j : r.job ≡ record { qubits = 0; couplers = 0; gates = 0 } = b.job ∙ ap read_job e in
      let k : r.from ≡ 1 =
      b.from ∙ ap (λ (t : Bool). pick t (first_part n xs ys) 1) (ne_eqb (number_of (judged_reading s most_coupler_lines most_gate_lines)) 0 (unread-says s most_coupler_lines most_gate_lines v e).0) in
      ap₂ (λ (i : Job) (m : ℕ). P i.qubits (take i.couplers couplers') (take i.gates gates') i.gates m) j k

  abbrev parts : ℕ → List ℕ → List ℕ → ℕ → ℕ → List ℕ
  parts i us ws m k = parts_from records_text i us ws (m + 1) k

  refused-parts : (v : Refusal) → reading ≡ Err v → laid_text s ≡ front_text s ++ rest
  unfolding laid_text front_text
  refused-parts v e =
      let no : number_of (judged_reading s most_coupler_lines most_gate_lines) ≡ 0 → ⊥ = (unread-says s most_coupler_lines most_gate_lines v e).0 in
      let none : rest ≡ [] = unread-as parts v e ∙ parts-past records_text 0 [] [] 1 1 (omega arith) in
      sym (unless-refused (judged_reading s most_coupler_lines most_gate_lines) _ no) ∙ unless-refused (judged_reading s most_coupler_lines most_gate_lines) _ no
      ∙ sym (append-nil (front_text s)) ∙ ap (λ (x : List ℕ). front_text s ++ x) (sym none)

  read-parts : (j : Job) → reading ≡ Ok j → laid_text s ≡ front_text s ++ rest
  unfolding laid_text front_text
  read-parts j e =
      let z = (read-says s most_coupler_lines most_gate_lines j e).0 in
      sym (unless-passed (judged_reading s most_coupler_lines most_gate_lines) _ z) ∙ job-in-parts n xs ys
      ∙ ap₂ (λ (x y : List ℕ). x ++ y) (unless-passed (judged_reading s most_coupler_lines most_gate_lines) _ z) (sym (read-as parts j e))

  -- the front that beginning prints, and then the parts that the program goes on with until the place is above the number of gates: together the whole text
  pub in_parts : laid_text s ≡ front_text s ++ rest
  in_parts = go reading refl
    where
      go : (w : Result Job Refusal) → reading ≡ w → laid_text s ≡ front_text s ++ rest
      go (Ok j) e = read-parts j e
      go (Err v) e = refused-parts v e

  -- and the shares of the common phase are those of the text
  abbrev shares : ℕ → List ℕ → List ℕ → ℕ → ℕ → List ℕ
  shares i us ws m k = phases (phase_from i us ws (m + 1) k 0) 0 ∷ []

  pub in_shares : phases (phase_from r.job.qubits (take r.job.couplers couplers') (take r.job.gates gates') (r.job.gates + 1) r.from 0) 0 ≡ phases (phase_of_text s) 0
  unfolding phase_of_text
  in_shares = go reading refl
    where
      go : (w : Result Job Refusal) → reading ≡ w → phases (phase_from r.job.qubits (take r.job.couplers couplers') (take r.job.gates gates') (r.job.gates + 1) r.from 0) 0 ≡ phases (phase_of_text s) 0
      go (Ok j) e =
          ap (λ (l : List ℕ). get_or l 0 0) (read-as shares j e)
          ∙ sym (ap (λ (t : Bool). phases (pick t (phase_from n xs ys (length ys + 1) (first_part n xs ys) 0) 0) 0) (eq-eqb (number_of (judged_reading s most_coupler_lines most_gate_lines)) 0 (read-says s most_coupler_lines most_gate_lines j e).0))
      go (Err v) e =
          ap (λ (l : List ℕ). get_or l 0 0) (unread-as shares v e) ∙ phase-past 0 [] [] 1 1 0 (omega arith)
          ∙ sym (ap (λ (t : Bool). phases (pick t (phase_from n xs ys (length ys + 1) (first_part n xs ys) 0) 0) 0) (ne_eqb (number_of (judged_reading s most_coupler_lines most_gate_lines)) 0 (unread-says s most_coupler_lines most_gate_lines v e).0))

  -- a writer that gets the front and then these parts gets the whole text; fs is the front, and ms and os are the lists that are handed on
  module _ {fs ms os : List ℕ} (f : fs ≡ take r.bytes out') (c : ms ≡ take r.job.couplers couplers') (g : os ≡ take r.job.gates gates') where
    counted-as : {A : Type 0} (P : List ℕ → List ℕ → ℕ → A) → P ms os (length os) ≡ P (take r.job.couplers couplers') (take r.job.gates gates') r.job.gates
    counted-as P = ap₂ (λ (us ws : List ℕ). P us ws (length ws)) c g ∙ ap (P (take r.job.couplers couplers') (take r.job.gates gates')) (sym (gates-whole b))

    pub text-written : (old now now' : Option (List ℕ)) → Appends old now fs → Appends now now' (parts_from records_text r.job.qubits ms os (length os + 1) r.from) → Appends old now' (laid_text s)
    text-written old now now' p q =
        subst (Appends old now') (sym in_parts)
        (Appends-trans old now now' _ _ (subst (Appends old now) (f ∙ front-is _ _ _ _ b.prints.bytes b.prints.memory) p)
        (subst (Appends now now') (counted-as (λ (us ws : List ℕ) (m : ℕ). parts_from records_text r.job.qubits us ws (m + 1) r.from)) q))

    pub text-shared : (h : ℕ) → phases h 0 ≡ phases (phase_from r.job.qubits ms os (length os + 1) r.from 0) 0 → phases h 0 ≡ phases (phase_of_text s) 0
    text-shared h e = e ∙ counted-as (λ (us ws : List ℕ) (m : ℕ). phases (phase_from r.job.qubits us ws (m + 1) r.from 0) 0) ∙ in_shares
