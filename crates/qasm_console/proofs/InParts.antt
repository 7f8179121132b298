-- The front, the parts in order and last the common phase are the whole text, which is one definition. Assumes nothing.
use mathlib.Core.Path.{◌≡◌, refl, sym, ap, ap₂, ◌∙◌, subst}
use mathlib.Core.Bool.{Bool}
use mathlib.Core.List.{List, [], ◌∷◌, ◌++◌, append-nil}
use Prim.Native.Nat.{ℕ, zero, suc, ◌+◌, ◌%◌, ◌≤◌, ◌<◌}
use native.Mathlib.Omega.{arith}
use native.Mathlib.Decide.{ℕ_discrete, dec_lt}
use lib.Dec.{eqb}
use lib.ListN.{length, take}
use borrow.Author.Tests.{eq-eqb}
use Rattle.std.specs.Prelude.{Option, Result, Ok, Err}
use Rattle.std.specs.Io.KnownBytes.{Appends}
use Rattle.std.proofs.KnownBytes.{Appends-trans}
use Rattle.verdicts.specs.declared.verdict.Refusal.{Refusal}
use Rattle.sets.specs.Pick.{pick}
use Rattle.verdicts.specs.Verdicts.{number_of}
use Rattle.gates.specs.Layout.{gates_of}
use Rattle.circuit.specs.Phase.{phase_of, phases}
use Rattle.circuit.proofs.Phases.{phases-again, phases-over}
use Rattle.tallies.specs.Tally.{largest}
use Rattle.sets.specs.Lists.{All}
use Rattle.stretches.specs.Stretches.{stretches_of, stretch_at, rest_from}
use Rattle.stretches.specs.Tests.{judged_stretches}
use Rattle.stretches.specs.Asked.{Accepts}
use Rattle.stretches.specs.Laid.{phases_of, job_phase}
use Rattle.stretches.specs.Parts.{hadamard_at}
use Rattle.sets.proofs.Lists.{all_head, all_tail}
use Rattle.stretches.proofs.Going.{rest-start, rest-past}
use Rattle.stretches.proofs.Judging.{lent-step}
use Rattle.stretches.proofs.Parting.{parts_all}
use Rattle.stretches.proofs.Passing.{job-passed}
use Rattle.stretches.proofs.Records.{stretch-share}
use Rattle.reading.specs.Readings.{couplers_in}
use Rattle.reading.specs.Listing.{parsed_couplers, judged_couplers_text, couplers_reading}
use Rattle.reading.proofs.Said.{listed-says, unlisted-says}
use Rattle.gates.specs.declared.job.Job.{Job}
use Rattle.versions.specs.declared.Version.{Version}
use Rattle.qasm_lines.specs.Spelling.{head_text, gates_text, phase_pattern, phase_text, circuit_text}
use Rattle.lines.specs.Pattern.{filled}
use Rattle.qasm_lines.proofs.Placed.{gates-append}
use Rattle.console.proofs.Fronts.{front-is}
use Rattle.qasm_reading.specs.declared.read.Circuit.{Circuit}
use Rattle.qasm_reading.specs.Parsing.{parsed_circuit}
use Rattle.qasm_reading.specs.Readings.{circuit_gates, circuit_in, judged_circuit_text, circuit_reading}
use Rattle.qasm_reading.proofs.Said.{circuit-read-says, circuit-unread-says}
use Rattle.console.specs.Printed.{most_coupler_lines, most_gate_lines, unless}
use Rattle.console.specs.Parts.{next_part, share_part, parts_from, phase_from}
use Rattle.console.proofs.Choosing.{unless-passed, unless-refused}
use Rattle.console.proofs.Going.{phase-past}
use Rattle.console.proofs.Partly.{part-next, part-share, parts-past, parts_are}
use Rattle.qasm_console.specs.declared.printing.BegunCircuit.{BegunCircuit}
use Rattle.qasm_console.specs.Printed.{whole_phase, laid_circuit, laid_drawing, laid_texts}
use Rattle.qasm_console.specs.Parts.{front_circuit, front_drawing, front_texts, Handed, nothing_handed, handed_circuit, handed_drawing, handed_in, gates_after, BeginsCircuit, BeginsTexts, behind_text}
use Rattle.qasm_console.proofs.Reading.{gates-front, couplers-front}
use Rattle.qasm_console.proofs.Beginning.{front-texts-is, handed-passed, handed-refused, drawn-read, drawn-unread, texts-read, texts-unread}

-- the line of a common phase is that of its rest within a turn
pub phase-text : (v : Version) (g h : ℕ) → phases g 0 ≡ phases h 0 → phase_text v g ≡ phase_text v h
unfolding phase_text phases
phase-text v g h e = let z : g % 131072 ≡ h % 131072 = omega arith in ap (λ (k : ℕ). pick (eqb k 0) [] (filled (phase_pattern v) (k ∷ []))) z

-- ---- a circuit

none : (v : Version) → gates_text v [] ≡ []
unfolding gates_text
none v = refl

module _ (n : ℕ) (xs ys : List ℕ) where
  -- the shares of all stretches from k on
  phase-are : (f k g : ℕ) → length ys + 1 ≤ f + k → All (Accepts n xs) (rest_from n ys k) → phases (phase_from n xs ys f k g) 0 ≡ phases g (phases_of n (rest_from n ys k))
  unfolding phase_from phases_of
  phase-are zero k g h a = sym (ap (λ (ss : List (List ℕ)). phases g (phases_of n ss)) (rest-past n ys k (omega (arith, h))))
  phase-are (suc f) k g h a = go (phase-are f) (dec_lt (length ys) k)
    where
      go : ((i e : ℕ) → length ys + 1 ≤ f + i → All (Accepts n xs) (rest_from n ys i) → phases (phase_from n xs ys f i e) 0 ≡ phases e (phases_of n (rest_from n ys i))) → Dec (length ys < k)
          → phases (phase_from n xs ys f (next_part n ys k) (phases g (share_part n xs ys k))) 0 ≡ phases g (phases_of n (rest_from n ys k))
      go rest (yes l) = phase-past n xs ys (suc f) k g l ∙ sym (ap (λ (ss : List (List ℕ)). phases g (phases_of n ss)) (rest-past n ys k l))
      go rest (no m) =
          let l : k ≤ length ys = omega (arith, m) in
          let s : List ℕ = stretch_at n ys k in
          let i : ℕ = k + length s + 1 in
          let step = lent-step n ys k s refl l in
          let each : All (Accepts n xs) (s ∷ rest_from n ys i) = subst (All (Accepts n xs)) step a in
          ap₂ (λ (i j : ℕ). phases (phase_from n xs ys f i (phases g j)) 0) (sym (part-next n xs ys k l s (hadamard_at n ys k) refl refl))
          (sym (part-share n xs ys k l s (hadamard_at n ys k) refl refl) ∙ stretch-share n xs s largest (all_head (Accepts n xs) s (rest_from n ys i) each))
          ∙ rest i (phases g (phase_of (gates_of n s))) (omega (arith, h)) (all_tail (Accepts n xs) s (rest_from n ys i) each)
          ∙ phases-over g (phase_of (gates_of n s)) (phases_of n (rest_from n ys i)) ∙ sym (ap (λ (ss : List (List ℕ)). phases g (phases_of n ss)) step)

  -- the whole common phase, where all of them are accepted
  phase-whole : (g : ℕ) → number_of (judged_stretches n xs ys) ≡ 0 → phases (phase_from n xs ys (length ys + 1) 0 g) 0 ≡ phases (whole_phase n ys g) 0
  unfolding whole_phase job_phase
  phase-whole g z =
      phase-are (length ys + 1) 0 g (omega arith) (subst (All (Accepts n xs)) (sym (rest-start n ys)) (job-passed n xs ys z).accepts)
      ∙ ap (λ (ss : List (List ℕ)). phases g (phases_of n ss)) (rest-start n ys) ∙ sym (phases-again g (phases_of n (stretches_of n ys)))

-- behind a refusal comes nothing: neither a part nor a common phase
none-printed : (v : Version) (n : ℕ) (xs ys : List ℕ) (f k : ℕ) → length ys < k → parts_from (gates_text v) n xs ys f k ++ phase_text v (phase_from n xs ys f k 0) ≡ []
unfolding phase_text
none-printed v n xs ys f k l = ap₂ (λ (x y : List ℕ). x ++ y) (parts-past (gates_text v) n xs ys f k l) (phase-text v (phase_from n xs ys f k 0) 0 (phase-past n xs ys f k 0 l))

none-behind : (h : Handed) (cs gs : List ℕ) → h ≡ nothing_handed → behind_text h cs (take h.job.gates gs) ≡ []
unfolding behind_text
none-behind h cs gs e = ap (λ (i : Handed). behind_text i cs (take i.job.gates gs)) e ∙ none-printed nothing_handed.version 0 cs (take 0 gs) 1 1 (omega arith)

-- its front, and what comes behind it
circuit-parts : (c : Circuit) (xs ys : List ℕ) → laid_circuit c xs ys ≡ front_circuit c xs ys ++ behind_text (handed_circuit c xs ys) xs ys
circuit-parts c xs ys = go (ℕ_discrete (number_of (judged_stretches c.qubits xs ys)) 0)
  where
    go : Dec (number_of (judged_stretches c.qubits xs ys) ≡ 0) → laid_circuit c xs ys ≡ front_circuit c xs ys ++ behind_text (handed_circuit c xs ys) xs ys
    go (yes z) =
        unfold laid_circuit front_circuit behind_text circuit_text in
        sym (unless-passed (judged_stretches c.qubits xs ys) _ z)
        ∙ ap₂ (λ (x y : List ℕ). x ++ y) (unless-passed (judged_stretches c.qubits xs ys) (head_text c.version c.qubits) z)
        (ap₂ (λ (x y : List ℕ). x ++ y)
        (ap (gates_text c.version) (sym (parts_all c.qubits xs ys))
        ∙ sym (parts_are (gates_text c.version) c.qubits xs ys (none c.version) (gates-append c.version) (length ys + 1) 0 (omega arith) (subst (All (Accepts c.qubits xs)) (sym (rest-start c.qubits ys)) (job-passed c.qubits xs ys z).accepts)))
        (phase-text c.version _ _ (sym (phase-whole c.qubits xs ys c.phase z)))
        ∙ ap (λ (h : Handed). parts_from (gates_text h.version) h.job.qubits xs ys (length ys + 1) h.from ++ phase_text h.version (phase_from h.job.qubits xs ys (length ys + 1) h.from h.phase))
        (handed-passed c xs ys z))
    go (no ne) =
        unfold laid_circuit front_circuit behind_text phase_text phases in
        sym (unless-refused (judged_stretches c.qubits xs ys) _ ne) ∙ unless-refused (judged_stretches c.qubits xs ys) (head_text c.version c.qubits) ne
        ∙ sym (append-nil (unless (judged_stretches c.qubits xs ys) (head_text c.version c.qubits)))
        ∙ ap (λ (x : List ℕ). unless (judged_stretches c.qubits xs ys) (head_text c.version c.qubits) ++ x)
        (sym (none-printed c.version c.qubits xs ys (length ys + 1) (length ys + 1) (omega arith))
        ∙ ap (λ (h : Handed). parts_from (gates_text h.version) h.job.qubits xs ys (length ys + 1) h.from ++ phase_text h.version (phase_from h.job.qubits xs ys (length ys + 1) h.from h.phase))
        (handed-refused c xs ys ne))

-- ---- a circuit's text: h is handed on, with the couplers cs

module _ (xs t gates gates' cs : List ℕ) (h : Handed) (he : h ≡ handed_drawing xs t) (g : gates' ≡ gates_after t gates) (same : number_of (judged_circuit_text t most_gate_lines) ≡ 0 → cs ≡ xs) where
  abbrev rest : List ℕ
  rest = behind_text h cs (take h.job.gates gates')

  refused-parts : (v : Refusal) → circuit_reading t most_gate_lines ≡ Err v → laid_drawing xs t ≡ front_drawing xs t ++ rest
  unfolding laid_drawing front_drawing
  refused-parts v e =
      let ne = (circuit-unread-says t most_gate_lines v e).0 in
      sym (unless-refused (judged_circuit_text t most_gate_lines) _ ne) ∙ unless-refused (judged_circuit_text t most_gate_lines) _ ne
      ∙ sym (append-nil (front_drawing xs t)) ∙ ap (λ (x : List ℕ). front_drawing xs t ++ x) (sym (none-behind h cs gates' (he ∙ drawn-unread xs t ne)))

  read-parts : (c : Circuit) → circuit_reading t most_gate_lines ≡ Ok c → laid_drawing xs t ≡ front_drawing xs t ++ rest
  unfolding laid_drawing front_drawing handed_circuit
  read-parts c e =
      let z = (circuit-read-says t most_gate_lines c e).0 in
      let ys : List ℕ = circuit_gates (parsed_circuit t) in
      let d : h ≡ handed_circuit (circuit_in (parsed_circuit t)) xs ys = he ∙ drawn-read xs t z in
      let m : h.job.gates ≡ length ys = ap (λ (i : Handed). i.job.gates) d in
      let l : take h.job.gates gates' ≡ ys = ap (λ (i : ℕ). take i gates') m ∙ gates-front t c gates gates' e g in
      let all : rest ≡ behind_text (handed_circuit (circuit_in (parsed_circuit t)) xs ys) xs ys = ap₂ (behind_text h) (same z) l ∙ ap (λ (i : Handed). behind_text i xs ys) d in
      sym (unless-passed (judged_circuit_text t most_gate_lines) _ z) ∙ circuit-parts (circuit_in (parsed_circuit t)) xs ys ∙ ap₂ (λ (x y : List ℕ). x ++ y) (unless-passed (judged_circuit_text t most_gate_lines) _ z) (sym all)

  drawing-parts : laid_drawing xs t ≡ front_drawing xs t ++ rest
  drawing-parts = go (circuit_reading t most_gate_lines) refl
    where
      go : (w : Result Circuit Refusal) → circuit_reading t most_gate_lines ≡ w → laid_drawing xs t ≡ front_drawing xs t ++ rest
      go (Ok c) e = read-parts c e
      go (Err v) e = refused-parts v e

-- as beginning leaves it: the front, the parts that are gone on with until the place is above the number of gates, and the common phase are together the whole text
pub drawing-in-parts : {xs t gates out gates' out' : List ℕ} {r : BegunCircuit} → BeginsCircuit xs t gates out r gates' out'
    → laid_drawing xs t ≡ front_drawing xs t ++ behind_text (handed_in r) xs (take r.job.gates gates')
drawing-in-parts {xs} {t} {gates} {gates' = gates'} {r = r} b = drawing-parts xs t gates gates' xs (handed_in r) b.handed b.gates_read (λ z. refl)

-- ---- both texts

module _ {s t couplers gates out couplers' gates' out' : List ℕ} {r : BegunCircuit} (b : BeginsTexts s t couplers gates out r couplers' gates' out') where
  abbrev going : List ℕ
  going = behind_text (handed_in r) (take r.job.couplers couplers') (take r.job.gates gates')

  unlisted-parts : (v : Refusal) → couplers_reading s most_coupler_lines ≡ Err v → laid_texts s t ≡ front_texts s t ++ going
  unfolding laid_texts
  unlisted-parts v e =
      let ne = (unlisted-says s most_coupler_lines v e).0 in
      sym (unless-refused (judged_couplers_text s most_coupler_lines) _ ne) ∙ unless-refused (judged_couplers_text s most_coupler_lines) _ ne ∙ sym (front-texts-is s t)
      ∙ sym (append-nil (front_texts s t)) ∙ ap (λ (x : List ℕ). front_texts s t ++ x) (sym (none-behind (handed_in r) (take r.job.couplers couplers') gates' (b.handed ∙ texts-unread s t ne)))

  listed-parts : (i : Job) → couplers_reading s most_coupler_lines ≡ Ok i → laid_texts s t ≡ front_texts s t ++ going
  unfolding laid_texts handed_circuit
  listed-parts i e =
      let z = (listed-says s most_coupler_lines i e).0 in
      let xs : List ℕ = couplers_in (parsed_couplers s) in
      let h : handed_in r ≡ handed_drawing xs t = b.handed ∙ texts-read s t z in
      let g : gates' ≡ gates_after t gates = b.gates_read ∙ ap (λ (u : Bool). pick u (gates_after t gates) gates) (eq-eqb (number_of (judged_couplers_text s most_coupler_lines)) 0 z) in
      let front : take (length xs) couplers' ≡ xs = couplers-front s i couplers couplers' e b.couplers_read in
      let same : number_of (judged_circuit_text t most_gate_lines) ≡ 0 → take r.job.couplers couplers' ≡ xs =
      λ y. ap (λ (k : ℕ). take k couplers') (ap (λ (k : Handed). k.job.couplers) (h ∙ drawn-read xs t y)) ∙ front in
      sym (unless-passed (judged_couplers_text s most_coupler_lines) _ z) ∙ drawing-parts xs t gates gates' (take r.job.couplers couplers') (handed_in r) h g same
      ∙ ap (λ (x : List ℕ). x ++ going) (unless-passed (judged_couplers_text s most_coupler_lines) _ z ∙ sym (front-texts-is s t))

  pub in_parts : laid_texts s t ≡ front_texts s t ++ behind_text (handed_in r) (take r.job.couplers couplers') (take r.job.gates gates')
  in_parts = go (couplers_reading s most_coupler_lines) refl
    where
      go : (w : Result Job Refusal) → couplers_reading s most_coupler_lines ≡ w → laid_texts s t ≡ front_texts s t ++ going
      go (Ok i) e = listed-parts i e
      go (Err v) e = unlisted-parts v e

  -- a writer that gets the front, then these parts and last the line of the common phase gets the whole text; fs is the front, es the line, and ms and os are the lists that are handed on
  module _ {fs ms os : List ℕ} (f : fs ≡ take r.bytes out') (c : ms ≡ take r.job.couplers couplers') (g : os ≡ take r.job.gates gates') where
    pub texts-written : (old begun parted now' : Option (List ℕ)) (es : List ℕ) (h : ℕ) → Appends old begun fs → Appends begun parted (parts_from (gates_text r.version) r.job.qubits ms os (length os + 1) r.from)
        → phases h 0 ≡ phases (phase_from r.job.qubits ms os (length os + 1) r.from r.phase) 0 → es ≡ phase_text r.version h → Appends parted now' es → Appends old now' (laid_texts s t)
    unfolding behind_text
    texts-written old begun parted now' es h p q e d w =
        let behind : List ℕ → List ℕ → List ℕ = λ us ws.
        parts_from (gates_text r.version) r.job.qubits us ws (length ws + 1) r.from ++ phase_text r.version (phase_from r.job.qubits us ws (length ws + 1) r.from r.phase) in
        subst (Appends old now') (ap (λ (x : List ℕ). front_texts s t ++ x) (ap₂ behind c g) ∙ sym in_parts)
        (Appends-trans old begun now' _ _ (subst (Appends old begun) (f ∙ front-is _ _ _ _ b.prints.bytes b.prints.memory) p)
        (Appends-trans begun parted now' _ _ q (subst (Appends parted now') (d ∙ phase-text r.version _ _ e) w)))
