-- The front of what is printed, and what is handed on behind it. Assumes nothing.
use mathlib.Core.Path.{◌≡◌, refl, sym, ap, ap₂, ◌∙◌, subst}
use mathlib.Core.Bool.{Bool}
use mathlib.Core.List.{List}
use Prim.Native.Nat.{ℕ, ◌+◌}
use lib.ListN.{length, take}
use borrow.Author.Tests.{eq-eqb, ne_eqb}
use Rattle.std.specs.Prelude.{Result, Ok, Err}
use Rattle.verdicts.specs.declared.verdict.Refusal.{Refusal}
use Rattle.sets.specs.Pick.{pick}
use Rattle.gates.specs.declared.job.Job.{Job}
use Rattle.verdicts.specs.Verdicts.{Verdict, number_of}
use Rattle.stretches.specs.Tests.{judged_stretches}
use Rattle.reading.specs.Readings.{couplers_in, lent_after}
use Rattle.reading.specs.Listing.{parsed_couplers, judged_couplers_text, couplers_reading}
use Rattle.reading.proofs.Said.{listed-says, unlisted-says}
use Rattle.qasm_lines.specs.Spelling.{head_text}
use Rattle.qasm_reading.specs.declared.read.Circuit.{Circuit}
use Rattle.qasm_reading.specs.Parsing.{parsed_circuit}
use Rattle.qasm_reading.specs.Readings.{circuit_gates, circuit_in, judged_circuit_text, circuit_reading}
use Rattle.qasm_reading.proofs.Said.{circuit-counted, circuit-read-says, circuit-unread-says}
use Rattle.console.specs.Printed.{unless, most_coupler_lines, most_gate_lines, Prints, refusal_of}
use Rattle.console.proofs.Beginning.{first-passed, first-refused}
use Rattle.console.proofs.Choosing.{unless-passed, unless-refused, prints-same}
use Rattle.qasm_console.specs.declared.printing.BegunCircuit.{BegunCircuit}
use Rattle.qasm_console.specs.Printed.{most_shown}
use Rattle.qasm_console.specs.Parts.{front_circuit, front_drawing, front_texts, Handed, nothing_handed, handed_circuit, handed_drawing, handed_texts, handed_in, gates_after, BeginsCircuit, BeginsTexts}
use Rattle.qasm_console.proofs.Reading.{gates-front, listed-count, couplers-front}

-- ---- a circuit

module _ (c : Circuit) (xs ys : List ℕ) where
  abbrev judged : Verdict
  judged = judged_stretches c.qubits xs ys

  pub circuit-refused : (v : Verdict) → v ≡ judged_stretches c.qubits xs ys → (number_of (judged_stretches c.qubits xs ys) ≡ 0 → ⊥) → refusal_of v ≡ front_circuit c xs ys
  unfolding front_circuit
  circuit-refused v e ne = ap refusal_of e ∙ unless-refused judged _ ne

  pub circuit-passed : number_of (judged_stretches c.qubits xs ys) ≡ 0 → head_text c.version c.qubits ≡ front_circuit c xs ys
  unfolding front_circuit
  circuit-passed z = unless-passed judged _ z

  -- what is handed on, with its first part at f and the common phase g
  abbrev handing : ℕ → ℕ → Handed
  handing f g = record { version = c.version; job = record { qubits = c.qubits; couplers = length xs; gates = length ys }; from = f; phase = g }

  pub handed-passed : number_of (judged_stretches c.qubits xs ys) ≡ 0 → handing 0 c.phase ≡ handed_circuit c xs ys
  unfolding handed_circuit
  handed-passed z = ap₂ handing (first-passed c.qubits xs ys z) (sym (ap (λ (b : Bool). pick b c.phase 0) (eq-eqb (number_of judged) 0 z)))

  pub handed-refused : (number_of (judged_stretches c.qubits xs ys) ≡ 0 → ⊥) → handing (length ys + 1) 0 ≡ handed_circuit c xs ys
  unfolding handed_circuit
  handed-refused ne = ap₂ handing (first-refused c.qubits xs ys ne) (sym (ap (λ (b : Bool). pick b c.phase 0) (ne_eqb (number_of judged) 0 ne)))

-- ---- the text t of a circuit, on the couplers xs

module _ (xs t : List ℕ) where
  abbrev drawing : Verdict
  drawing = judged_circuit_text t most_gate_lines

  -- what is handed on where it is read ..
  pub drawn-read : number_of (judged_circuit_text t most_gate_lines) ≡ 0 → handed_drawing xs t ≡ handed_circuit (circuit_in (parsed_circuit t)) xs (circuit_gates (parsed_circuit t))
  unfolding handed_drawing
  drawn-read z = ap (λ (b : Bool). pick b (handed_circuit (circuit_in (parsed_circuit t)) xs (circuit_gates (parsed_circuit t))) nothing_handed) (eq-eqb (number_of drawing) 0 z)

  -- .. and where it is refused
  pub drawn-unread : (number_of (judged_circuit_text t most_gate_lines) ≡ 0 → ⊥) → handed_drawing xs t ≡ nothing_handed
  unfolding handed_drawing
  drawn-unread ne = ap (λ (b : Bool). pick b (handed_circuit (circuit_in (parsed_circuit t)) xs (circuit_gates (parsed_circuit t))) nothing_handed) (ne_eqb (number_of drawing) 0 ne)

-- the reader was lent gs₀, and left gs
module _ (xs t gs₀ gs : List ℕ) (lent : length gs₀ ≡ most_gate_lines) (r : Result Circuit Refusal) (e : r ≡ circuit_reading t (length gs₀)) (g : gs ≡ lent_after r (circuit_gates (parsed_circuit t)) gs₀) (out out' : List ℕ) (b : BegunCircuit) where
  reading-is : r ≡ circuit_reading t most_gate_lines
  reading-is = e ∙ ap (circuit_reading t) lent

  gates-are : gs ≡ gates_after t gs₀
  gates-are = g ∙ ap (λ (x : Result Circuit Refusal). lent_after x (circuit_gates (parsed_circuit t)) gs₀) reading-is

  pub circuit-read : (c : Circuit) → r ≡ Ok c → Prints most_shown (front_circuit c xs (take c.gates gs)) out b.bytes out' → handed_in b ≡ handed_circuit c xs (take c.gates gs) → BeginsCircuit xs t gs₀ out b gs out'
  unfolding front_drawing
  circuit-read c d p h =
      let said = circuit-read-says t most_gate_lines c (sym reading-is ∙ d) in
      let m : c.gates ≡ length (circuit_gates (parsed_circuit t)) = ap (λ (i : Circuit). i.gates) said.1 ∙ circuit-counted (parsed_circuit t) in
      let l : take c.gates gs ≡ circuit_gates (parsed_circuit t) = ap (λ (i : ℕ). take i gs) m ∙ gates-front t c gs₀ gs (sym reading-is ∙ d) gates-are in
      record {
        prints = prints-same (ap₂ (λ (i : Circuit) (ys : List ℕ). front_circuit i xs ys) said.1 l ∙ unless-passed (judged_circuit_text t most_gate_lines) _ said.0) p;
        handed = h ∙ ap₂ (λ (i : Circuit) (ys : List ℕ). handed_circuit i xs ys) said.1 l ∙ sym (drawn-read xs t said.0);
        gates_read = gates-are;
      }

  pub circuit-unread : (v : Refusal) → r ≡ Err v → Prints most_shown (refusal_of (Err v)) out b.bytes out' → handed_in b ≡ nothing_handed → BeginsCircuit xs t gs₀ out b gs out'
  unfolding front_drawing
  circuit-unread v d p h =
      let said = circuit-unread-says t most_gate_lines v (sym reading-is ∙ d) in
      record {
        prints = prints-same (ap refusal_of said.1 ∙ unless-refused (judged_circuit_text t most_gate_lines) _ said.0) p;
        handed = h ∙ sym (drawn-unread xs t said.0);
        gates_read = gates-are;
      }

-- under other names of the texts
pub drawing-same : {xs ys t u gs out gs' out' : List ℕ} {r : BegunCircuit} → xs ≡ ys → t ≡ u → BeginsCircuit xs t gs out r gs' out' → BeginsCircuit ys u gs out r gs' out'
drawing-same {ys = ys} {t = t} {gs = gs} {out = out} {gs' = gs'} {out' = out'} {r = r} e d b =
    subst (λ (x : List ℕ). BeginsCircuit ys x gs out r gs' out') d (subst (λ (x : List ℕ). BeginsCircuit x t gs out r gs' out') e b)

-- ---- the couplers' text s before it

module _ (s t : List ℕ) where
  abbrev listing : Verdict
  listing = judged_couplers_text s most_coupler_lines

  abbrev listed : List ℕ
  listed = couplers_in (parsed_couplers s)

  pub texts-read : number_of (judged_couplers_text s most_coupler_lines) ≡ 0 → handed_texts s t ≡ handed_drawing (couplers_in (parsed_couplers s)) t
  unfolding handed_texts
  texts-read z = ap (λ (b : Bool). pick b (handed_drawing listed t) nothing_handed) (eq-eqb (number_of listing) 0 z)

  pub texts-unread : (number_of (judged_couplers_text s most_coupler_lines) ≡ 0 → ⊥) → handed_texts s t ≡ nothing_handed
  unfolding handed_texts
  texts-unread ne = ap (λ (b : Bool). pick b (handed_drawing listed t) nothing_handed) (ne_eqb (number_of listing) 0 ne)

-- what is printed first for two texts, in the words of the couplers' verdict. The other laws of it cite this one and see no text of its definition.
pub front-texts-is : (s t : List ℕ) → front_texts s t ≡ unless (judged_couplers_text s most_coupler_lines) (front_drawing (couplers_in (parsed_couplers s)) t)
unfolding front_texts
front-texts-is s t = refl

-- its reader was lent cs₀, and left cs
module _ (s t cs₀ cs gs₀ gs out out' : List ℕ) (lent : length cs₀ ≡ most_coupler_lines) (r : Result Job Refusal) (e : r ≡ couplers_reading s (length cs₀)) (f : cs ≡ lent_after r (couplers_in (parsed_couplers s)) cs₀) (b : BegunCircuit) where
  answer : r ≡ couplers_reading s most_coupler_lines
  answer = e ∙ ap (couplers_reading s) lent

  couplers-are : cs ≡ lent_after (couplers_reading s most_coupler_lines) (couplers_in (parsed_couplers s)) cs₀
  couplers-are = f ∙ ap (λ (x : Result Job Refusal). lent_after x (couplers_in (parsed_couplers s)) cs₀) answer

  pub texts-begun : (j : Job) → r ≡ Ok j → BeginsCircuit (take j.couplers cs) t gs₀ out b gs out' → BeginsTexts s t cs₀ gs₀ out b cs gs out'
  texts-begun j d c =
      let said = listed-says s most_coupler_lines j (sym answer ∙ d) in
      let l : take j.couplers cs ≡ couplers_in (parsed_couplers s) = ap (λ (i : ℕ). take i cs) (listed-count s j (sym answer ∙ d)) ∙ couplers-front s j cs₀ cs (sym answer ∙ d) couplers-are in
      record {
        prints = prints-same (ap (λ (xs : List ℕ). front_drawing xs t) l ∙ unless-passed (judged_couplers_text s most_coupler_lines) _ said.0 ∙ sym (front-texts-is s t)) c.prints;
        handed = c.handed ∙ ap (λ (xs : List ℕ). handed_drawing xs t) l ∙ sym (texts-read s t said.0);
        couplers_read = couplers-are;
        gates_read = c.gates_read ∙ sym (ap (λ (y : Bool). pick y (gates_after t gs₀) gs₀) (eq-eqb (number_of (judged_couplers_text s most_coupler_lines)) 0 said.0));
      }

  pub texts-unbegun : (v : Refusal) → r ≡ Err v → gs ≡ gs₀ → Prints most_shown (refusal_of (Err v)) out b.bytes out' → handed_in b ≡ nothing_handed → BeginsTexts s t cs₀ gs₀ out b cs gs out'
  texts-unbegun v d g p h =
      let said = unlisted-says s most_coupler_lines v (sym answer ∙ d) in
      record {
        prints = prints-same (ap refusal_of said.1 ∙ unless-refused (judged_couplers_text s most_coupler_lines) _ said.0 ∙ sym (front-texts-is s t)) p;
        handed = h ∙ sym (texts-unread s t said.0);
        couplers_read = couplers-are;
        gates_read = g ∙ sym (ap (λ (y : Bool). pick y (gates_after t gs₀) gs₀) (ne_eqb (number_of (judged_couplers_text s most_coupler_lines)) 0 said.0));
      }
