-- The program lends enough, and reads enough: it never answers 8, and what lies behind the bytes that it reads changes nothing. Assumes nothing.
use mathlib.Core.Path.{◌≡◌, refl, sym, ap, ◌∙◌}
use mathlib.Core.Logic.{◌≢◌}
use mathlib.Core.Bool.{Bool, true, false}
use mathlib.Core.List.{List}
use Prim.Native.Nat.{ℕ, ◌+◌, ◌≤◌, ◌<◌}
use native.Mathlib.Omega.{arith}
use lib.Dec.{leb}
use lib.ListN.{length, take}
use borrow.Author.Tests.{leb-true, le-leb, lt-leb}
use Rattle.std.specs.Prelude.{Ok, Err}
use Rattle.sets.specs.Pick.{pick}
use Rattle.verdicts.specs.declared.verdict.Refusal.TheVariants.{Room, LongText}
use Rattle.verdicts.specs.Verdicts.{Verdict, number_of}
use Rattle.verdicts.specs.InOrder.{and_then}
use Rattle.stretches.specs.Tests.{judged_stretches}
use Rattle.lines.specs.Pattern.{filled}
use Rattle.reading.specs.Limits.{most_bytes}
use Rattle.reading.specs.Readings.{couplers_in}
use Rattle.reading.specs.Listing.{parsed_couplers, judged_couplers_text}
use Rattle.reading.proofs.ListingEnough.{listing-never-8}
use Rattle.versions.specs.declared.Version.{Version}
use Rattle.versions.specs.declared.Version.TheVariants.{Two, Three}
use Rattle.qasm_lines.specs.Spelling.{head_text, circuit_text}
use Rattle.qasm_reading.specs.Parsing.{ParsedCircuit, circuit, angle, statement, early, unversioned, parsed_circuit}
use Rattle.qasm_reading.specs.declared.read.Circuit.{Circuit}
use Rattle.qasm_reading.specs.Readings.{circuit_gates, circuit_in, judged_found, judged_circuit_text}
use Rattle.qasm_reading.proofs.Enough.{gates-few}
use Rattle.console.specs.Printed.{most_coupler_lines, most_gate_lines, refusal_of, unless}
use Rattle.console.proofs.Choosing.{unless-refused}
use Rattle.console.proofs.Enough.{Printable, refusal-printable, letter-printable, either-printable, refused-printable, either-length}
use Rattle.qasm_console.specs.Printed.{laid_circuit, laid_drawing, laid_texts}

-- ---- the records that are lent to the readers

pub couplers-never-8 : (s : List ℕ) → number_of (judged_couplers_text s most_coupler_lines) ≢ 8
couplers-never-8 s = listing-never-8 s most_coupler_lines (omega arith)

module _ (t : List ℕ) where
  within : length t ≤ most_bytes → (p : ParsedCircuit) → parsed_circuit t ≡ p → number_of (judged_found t most_gate_lines p) ≢ 8
  within h (circuit v n gates phase) e z =
      let few : length gates ≤ most_gate_lines = omega (arith, gates-few t h, ap (λ (p : ParsedCircuit). length (circuit_gates p)) e) in
      let y : ◌≡◌ {A = ℕ} 0 8 = sym (ap (λ (b : Bool). number_of (pick b (Ok tt) (Err Room))) (le-leb (length gates) most_gate_lines few)) ∙ z in
      omega arith
  within h (angle l) e z = let y : ◌≡◌ {A = ℕ} 12 8 = z in omega arith
  within h (statement l) e z = let y : ◌≡◌ {A = ℕ} 13 8 = z in omega arith
  within h early e z = let y : ◌≡◌ {A = ℕ} 13 8 = z in omega arith
  within h unversioned e z = let y : ◌≡◌ {A = ℕ} 14 8 = z in omega arith

  pub drawing-never-8 : number_of (judged_circuit_text t most_gate_lines) ≢ 8
  unfolding judged_circuit_text
  drawing-never-8 z = go (leb (length t) most_bytes) refl z
    where
      go : (b : Bool) → leb (length t) most_bytes ≡ b → number_of (and_then (pick b (Ok tt) (Err LongText)) (judged_found t most_gate_lines (parsed_circuit t))) ≢ 8
      go true e z = within (leb-true (length t) most_bytes e) (parsed_circuit t) refl z
      go false e z = let y : ◌≡◌ {A = ℕ} 11 8 = z in omega arith

-- ---- what is printed: there is something of it, and it is no `x` line with number 8 or 9

text-printable : (v : Version) (n : ℕ) (gates : List ℕ) (g : ℕ) → Printable (circuit_text v n gates g)
unfolding circuit_text head_text filled
text-printable Two n gates g = letter-printable 79 _ (λ e. omega (arith, e))
text-printable Three n gates g = letter-printable 79 _ (λ e. omega (arith, e))

circuit-printable : (c : Circuit) (couplers gates : List ℕ) → Printable (laid_circuit c couplers gates)
unfolding laid_circuit
circuit-printable c couplers gates =
    either-printable (judged_stretches c.qubits couplers gates) _ (λ z. text-printable c.version c.qubits _ _) (refused-printable c.qubits couplers gates)

pub drawing-printable : (couplers t : List ℕ) → Printable (laid_drawing couplers t)
unfolding laid_drawing
drawing-printable couplers t =
    either-printable (judged_circuit_text t most_gate_lines) _ (λ z. circuit-printable (circuit_in (parsed_circuit t)) couplers (circuit_gates (parsed_circuit t)))
    (refusal-printable (judged_circuit_text t most_gate_lines) (drawing-never-8 t))

pub texts-printable : (s t : List ℕ) → Printable (laid_texts s t)
unfolding laid_texts
texts-printable s t =
    either-printable (judged_couplers_text s most_coupler_lines) _ (λ z. drawing-printable (couplers_in (parsed_couplers s)) t)
    (refusal-printable (judged_couplers_text s most_coupler_lines) (couplers-never-8 s))

-- ---- the bytes that are read

-- a text above its limit is refused with 11, whatever it holds
long-refused : (v : Verdict) (text : List ℕ) → v ≡ Err LongText → unless v text ≡ refusal_of (Err LongText)
long-refused v text e = sym (unless-refused v text (λ z. let y : ◌≡◌ {A = ℕ} 11 0 = sym (ap number_of e) ∙ z in omega arith)) ∙ ap refusal_of e

drawing-long : (couplers t : List ℕ) → most_bytes < length t → laid_drawing couplers t ≡ refusal_of (Err LongText)
unfolding laid_drawing judged_circuit_text
drawing-long couplers t long = long-refused (judged_circuit_text t most_gate_lines) _ (rw (lt-leb (length t) most_bytes long))

listing-long-refused : (s t : List ℕ) → most_bytes < length s → laid_texts s t ≡ refusal_of (Err LongText)
unfolding laid_texts judged_couplers_text
listing-long-refused s t long = long-refused (judged_couplers_text s most_coupler_lines) _ (rw (lt-leb (length s) most_bytes long))

-- one byte more than a text may have is enough, of each of them: what lies behind it changes nothing
pub drawing-enough : (couplers t : List ℕ) → laid_drawing couplers (take (most_bytes + 1) t) ≡ laid_drawing couplers t
drawing-enough couplers t = either-length t (laid_drawing couplers) (drawing-long couplers)

-- of the circuit's text alone
pub circuit-enough : (s t : List ℕ) → laid_texts s (take (most_bytes + 1) t) ≡ laid_texts s t
unfolding laid_texts
circuit-enough s t = ap (unless (judged_couplers_text s most_coupler_lines)) (drawing-enough (couplers_in (parsed_couplers s)) t)

pub texts-enough : (s t : List ℕ) → laid_texts (take (most_bytes + 1) s) (take (most_bytes + 1) t) ≡ laid_texts s t
unfolding laid_texts
texts-enough s t =
    either-length s (λ (x : List ℕ). laid_texts x (take (most_bytes + 1) t)) (λ x. listing-long-refused x (take (most_bytes + 1) t))
    ∙ ap (unless (judged_couplers_text s most_coupler_lines)) (drawing-enough (couplers_in (parsed_couplers s)) t)
