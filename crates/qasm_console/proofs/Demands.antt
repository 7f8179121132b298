-- Demands 2 and 3 from OpenQASM to OpenQASM, as theorems about texts. Assumes nothing.
use mathlib.Core.Path.{◌≡◌, refl, sym, ap, ap₂, ◌∙◌, subst}
use mathlib.Core.Bool.{true, false}
use mathlib.Core.List.{List, [], ◌∷◌, ◌++◌, append_assoc, map}
use Prim.Native.Nat.{ℕ, ◌≤◌}
use native.Mathlib.Omega.{arith}
use lib.ListN.{length}
use borrow.Author.Tests.{le-ltb}
use Rattle.gates.specs.declared.gate.Gate.{Gate}
use Rattle.gates.specs.Layout.{gate_of, is_bad, record_of, Good}
use Rattle.gates.specs.Hadamards.{is_hadamard}
use Rattle.sets.specs.Lists.{All}
use Rattle.sets.proofs.Deciding.{both-no}
use Rattle.gates.proofs.Records.{gate-record, good-not-bad}
use Rattle.verdicts.specs.Verdicts.{number_of, is_neither}
use Rattle.verdicts.proofs.Judged.{then-on}
use Rattle.verdicts.proofs.Passing.{drawn-accepted}
use Rattle.tallies.specs.Tally.{largest}
use Rattle.laying.specs.Demands.{Island, SameCouplers}
use Rattle.stretches.specs.Cut.{weave}
use Rattle.stretches.specs.Stretches.{stretches_of, hadamards_of}
use Rattle.stretches.specs.Tests.{judged_stretches, judged_bound, job_bound, job_verdict}
use Rattle.stretches.specs.Asked.{Accepts}
use Rattle.stretches.specs.Laid.{stretch_records, job_records}
use Rattle.stretches.specs.Meaning.{AlikeJob}
use Rattle.stretches.specs.Demands.{AgreeJob, records_on}
use Rattle.sets.proofs.Lists.{all-mapped, all_map, all-place, all_append}
use Rattle.stretches.proofs.Laying.{phases-small}
use Rattle.stretches.proofs.Passing.{Passed, job-passed}
use Rattle.stretches.proofs.Demands.{laid-faithful, demand-3, all-hadamards}
use Rattle.stretches.proofs.Archive.{same-records}
use Rattle.laying.specs.Answers.{circuit_of}
use Rattle.laying.proofs.Demands.{demand-2}
use Rattle.reading.specs.Limits.{most_bytes}
use Rattle.reading.specs.Readings.{couplers_in}
use Rattle.reading.specs.Listing.{CouplersText, parsed_couplers, judged_couplers_text}
use Rattle.reading.proofs.Sizes.{couplers-least}
use Rattle.reading.proofs.Listings.{couplers-parsed}
use Rattle.text.proofs.Rows.{couplers-rows}
use Rattle.qasm_reading.specs.Parsing.{circuit, parsed_circuit}
use Rattle.qasm_reading.specs.Readings.{circuit_in, circuit_gates, judged_circuit_text}
use Rattle.qasm_reading.specs.Texts.{CircuitText}
use Rattle.qasm_reading.proofs.Parsed.{circuit-parsed, circuit-once}
use Rattle.qasm_reading.proofs.Rows.{judged-good}
use Rattle.qasm_reading.proofs.Enough.{gates-few}
use Rattle.circuit.specs.Phase.{phases}
use Rattle.versions.specs.declared.Version.{Version}
use Rattle.versions.specs.declared.Version.TheVariants.{Three}
use Rattle.qasm_lines.specs.Spelling.{head_text, gates_text, phase_text, circuit_text}
use Rattle.qasm_text.specs.Writings.{read_phase}
use Rattle.qasm_text.proofs.RoundTrip.{good-circuit}
use Rattle.console.specs.Printed.{most_coupler_lines, most_gate_lines}
use Rattle.console.proofs.Choosing.{unless-passed}
use Rattle.qasm_console.specs.Printed.{whole_phase, laid_circuit, laid_drawing, laid_texts}
use Rattle.qasm_console.specs.Demands.{Drawn, Kept}

-- ---- what is laid can be written

abbrev Writable : ℕ → ℕ → Type 0
Writable n x = is_neither n x ≡ false

gate-fine : (n : ℕ) (g : Gate) → n ≤ 256 → Good n g → Writable n (record_of g)
unfolding is_neither
gate-fine n g few good = rw (gate-record n g few good, good-not-bad n g good)

hadamard-fine : (n x : ℕ) → is_hadamard n x ≡ true → Writable n x
unfolding is_neither
hadamard-fine n x e = rw e (both-no (is_bad (gate_of n x)) false refl)

woven-all : (P : ℕ → Type 0) (ss : List (List ℕ)) (hs : List ℕ) → All (All P) ss → All P hs → All P (weave ss hs)
unfolding weave All
woven-all P [] hs a b = tt
woven-all P (s ∷ ss) [] a b = a.0
woven-all P (s ∷ ss) (h ∷ hs) a b = all_append P s (h ∷ weave ss hs) a.0 (b.0, woven-all P ss hs a.1 b.1)

gates-fine : (n : ℕ) (gs : List Gate) → n ≤ 256 → All (Good n) gs → All (Writable n) (map record_of gs)
gates-fine n gs few a = all-mapped (Good n) (Writable n) record_of (λ g good. gate-fine n g few good) gs a

module _ (n : ℕ) (couplers gates : List ℕ) (p : Passed n couplers gates) where
  laid-fine : All (Writable n) (job_records n couplers gates)
  unfolding job_records
  laid-fine =
      woven-all (Writable n) (map (stretch_records n couplers) (stretches_of n gates)) (hadamards_of n gates)
      (all-mapped (Accepts n couplers) (All (Writable n)) (stretch_records n couplers) (λ s a. gates-fine n (circuit_of n couplers s) (omega (arith, p.few)) (demand-2 n couplers s largest a).good) (stretches_of n gates) p.accepts)
      (all_map (λ x. is_hadamard n x ≡ true) (Writable n) (hadamard-fine n) (hadamards_of n gates) (all-hadamards n couplers gates p))

  -- the text of what is laid is that of a circuit, however long
  laid-text : (v : Version) (g : ℕ) → CircuitText (circuit_text v n (job_records n couplers gates) g) v n (job_records n couplers gates) (read_phase v g)
  laid-text v g =
      good-circuit v n (job_records n couplers gates) g p.qubits
      (ap number_of (drawn-accepted n (job_records n couplers gates) (all-place (Writable n) (job_records n couplers gates) laid-fine)))

-- ---- what is printed for a text

-- a job accepted by tests 1 to 7 is accepted by all where B records are lent
at_bound : (n : ℕ) (couplers gates : List ℕ) → number_of (judged_stretches n couplers gates) ≡ 0 → number_of (job_verdict n couplers gates (job_bound n gates)) ≡ 0
unfolding job_verdict judged_bound
at_bound n couplers gates z = sym (ap number_of (then-on (judged_stretches n couplers gates) (judged_bound n gates (job_bound n gates)) z)) ∙ rw (le-ltb (job_bound n gates) (job_bound n gates) (omega arith))

module _ (couplers t : List ℕ) (v : Version) (n : ℕ) (gates : List ℕ) (g : ℕ) (d : Drawn couplers t v n gates g) where
  abbrev laid : List ℕ
  laid = job_records n couplers gates

  found : parsed_circuit t ≡ circuit v n gates g
  found = circuit-parsed t v n gates g d.text

  few : length gates ≤ most_gate_lines
  few = omega (arith, gates-few t d.short, ap (λ r. length (circuit_gates r)) found)

  pub printed : laid_drawing couplers t ≡ circuit_text v n (job_records n couplers gates) (whole_phase n gates g)
  unfolding laid_drawing laid_circuit
  printed =
      sym (unless-passed (judged_circuit_text t most_gate_lines) (laid_circuit (circuit_in (parsed_circuit t)) couplers (circuit_gates (parsed_circuit t))) (ap number_of (judged-good t most_gate_lines d.short v n gates g d.text few)))
      ∙ ap (λ r. laid_circuit (circuit_in r) couplers (circuit_gates r)) found ∙ sym (unless-passed (judged_stretches n couplers gates) (circuit_text v n (job_records n couplers gates) (whole_phase n gates g)) d.accepted)

  passed : Passed n couplers gates
  passed = job-passed n couplers gates d.accepted

  -- what is printed reads as the records laid and, in 3.0, the whole common phase, and as nothing else
  pub printed-text : CircuitText (laid_drawing couplers t) v n (job_records n couplers gates) (read_phase v (whole_phase n gates g))
  printed-text = subst (λ u. CircuitText u v n laid (read_phase v (whole_phase n gates g))) (sym printed) (laid-text n couplers gates passed v (whole_phase n gates g))

  pub printed-only : (w : Version) (m : ℕ) (records : List ℕ) (h : ℕ) → CircuitText (laid_drawing couplers t) w m records h
      → (w ≡ v) × (m ≡ n) × (records ≡ job_records n couplers gates) × (h ≡ read_phase v (whole_phase n gates g))
  printed-only w m records h c = circuit-once (laid_drawing couplers t) w v m n records laid h (read_phase v (whole_phase n gates g)) c printed-text

  -- in 3.0 the whole common phase of what is printed is that of what was read
  printed-phase : v ≡ Three → whole_phase n (job_records n couplers gates) (read_phase v (whole_phase n gates g)) ≡ whole_phase n gates g
  unfolding whole_phase read_phase phases
  printed-phase e =
      let z = (laid-faithful n couplers gates passed).same.phase in
      ap (λ w. whole_phase n laid (read_phase w (whole_phase n gates g))) e ∙ omega (arith, z, phases-small n couplers gates (stretches_of n gates), phases-small n couplers gates (stretches_of n laid))

  -- THEOREM, demand 2: what is printed is the text of a circuit with the meaning of the one that was read
  pub demand-2-texts : Kept couplers t v n gates g (job_records n couplers gates)
  unfolding circuit_text
  demand-2-texts = record {
    text = printed-text;
    faithful = laid-faithful n couplers gates passed;
    phase = printed-phase;
    front = head_text v n ++ gates_text v laid;
    last = printed ∙ sym (append_assoc (head_text v n) (gates_text v laid) (phase_text v (whole_phase n gates g)));
  }

-- ---- two texts

module _ (couplers couplers' t t' : List ℕ) (v w : Version) (n m : ℕ) (gates gates' : List ℕ) (g h : ℕ) (d : Drawn couplers t v n gates g) (e : Drawn couplers' t' w m gates' h) where
  -- THEOREM, demand 3: two texts, in any layout, with any names, whose circuits agree on an island: the circuits that are printed for them have the same gates there, in order; their
  -- versions and common phases may differ
  pub demand-3-texts : (S q r : ℕ) → Island n couplers S q → Island m couplers' S r → AgreeJob S n m couplers couplers' gates gates'
      → (laid laid' : List ℕ) (f k : ℕ) → CircuitText (laid_drawing couplers t) v n laid f → CircuitText (laid_drawing couplers' t') w m laid' k → records_on n S laid ≡ records_on m S laid'
  demand-3-texts S q r i j agree laid laid' f k c c' =
      ap (records_on n S) (printed-only couplers t v n gates g d v n laid f c).2
      ∙ (demand-3 n m couplers couplers' gates gates' (job_bound n gates) (job_bound m gates') (at_bound n couplers gates d.accepted) (at_bound m couplers' gates' e.accepted) S q r i j agree).1
      ∙ sym (ap (records_on m S) (printed-only couplers' t' w m gates' h e w m laid' k c').2)

-- THEOREM: on the same chip, in the same version, with the same meaning, the whole common phase included, the same bytes
pub same_bytes : (couplers couplers' t t' : List ℕ) (v : Version) (n : ℕ) (gates gates' : List ℕ) (g h : ℕ) → Drawn couplers t v n gates g → Drawn couplers' t' v n gates' h → SameCouplers couplers couplers'
    → AlikeJob n gates gates' → whole_phase n gates g ≡ whole_phase n gates' h → laid_drawing couplers t ≡ laid_drawing couplers' t'
same_bytes couplers couplers' t t' v n gates gates' g h d e chip alike phase =
    printed couplers t v n gates g d
    ∙ ap₂ (circuit_text v n) (same-records n couplers couplers' gates gates' (job-passed n couplers gates d.accepted) (job-passed n couplers' gates' e.accepted) chip alike) phase
    ∙ sym (printed couplers' t' v n gates' h e)

-- ---- the program, which reads the couplers from a text too

-- a couplers' text is read as its couplers, so that all that is said above holds of what the program prints
pub listed : (s t : List ℕ) (c : CouplersText s) → length s ≤ most_bytes → laid_texts s t ≡ laid_drawing c.couplers t
unfolding laid_texts
listed s t c short =
    sym (unless-passed (judged_couplers_text s most_coupler_lines) (laid_drawing (couplers_in (parsed_couplers s)) t) ((couplers-rows s most_coupler_lines).row_0.exactly.1 (short, (c, held))))
    ∙ ap (λ p. laid_drawing (couplers_in p) t) (couplers-parsed s c)
  where
    held : (i : CouplersText s) → length i.couplers ≤ most_coupler_lines
    held i = omega (arith, couplers-least i.couplers i.fit, ap length i.same)
