-- What beginning leaves can be lent on: the couplers and the gates at the front of their lists. Assumes nothing.
use mathlib.Core.Path.{◌≡◌, refl, sym, ap, ◌∙◌}
use mathlib.Core.Bool.{Bool}
use mathlib.Core.List.{List}
use Prim.Native.Nat.{ℕ, ◌≤◌}
use native.Mathlib.Omega.{arith}
use lib.ListN.{length, take}
use lib.Seq.{length-take-le}
use borrow.Author.Tests.{eq-eqb}
use Rattle.std.specs.Prelude.{Result, Ok, Err}
use Rattle.verdicts.specs.declared.verdict.Refusal.{Refusal}
use Rattle.gates.specs.declared.job.Job.{Job}
use Rattle.sets.specs.Pick.{pick}
use Rattle.verdicts.specs.Verdicts.{number_of}
use Rattle.reading.specs.Readings.{couplers_in, lent_after}
use Rattle.reading.specs.Listing.{parsed_couplers, judged_couplers_text, couplers_reading}
use Rattle.reading.proofs.Said.{listed-says, unlisted-says}
use Rattle.qasm_reading.specs.declared.read.Circuit.{Circuit}
use Rattle.qasm_reading.specs.Parsing.{parsed_circuit}
use Rattle.qasm_reading.specs.Readings.{circuit_gates, circuit_reading}
use Rattle.qasm_reading.proofs.Said.{circuit-read-says, circuit-unread-says}
use Rattle.console.specs.Printed.{most_coupler_lines, most_gate_lines}
use Rattle.console.proofs.Fronts.{front_fits}
use Rattle.qasm_console.specs.declared.printing.BegunCircuit.{BegunCircuit}
use Rattle.qasm_console.specs.Parts.{Handed, handed_circuit, handed_drawing, handed_in, gates_after, BeginsCircuit, BeginsTexts}
use Rattle.qasm_console.proofs.Beginning.{drawn-read, drawn-unread, texts-read, texts-unread}

-- ---- of a circuit: h is handed on

module _ (xs t gates gates' : List ℕ) (h : Handed) (e : h ≡ handed_drawing xs t) (g : gates' ≡ gates_after t gates) where
  drawn-fits : (h.job.couplers ≤ length xs) × (h.job.gates ≤ length gates')
  unfolding handed_circuit
  drawn-fits = go (circuit_reading t most_gate_lines) refl
    where
      go : (a : Result Circuit Refusal) → circuit_reading t most_gate_lines ≡ a → (h.job.couplers ≤ length xs) × (h.job.gates ≤ length gates')
      go (Ok c) d =
          let q = e ∙ drawn-read xs t (circuit-read-says t most_gate_lines c d).0 in (
            omega (arith, ap (λ (i : Handed). i.job.couplers) q),
            front_fits (circuit_gates (parsed_circuit t)) gates gates' h.job.gates (ap (λ (i : Handed). i.job.gates) q) (g ∙ ap (λ (x : Result Circuit Refusal). lent_after x (circuit_gates (parsed_circuit t)) gates) d),
          )
      go (Err v) d =
          let q = e ∙ drawn-unread xs t (circuit-unread-says t most_gate_lines v d).0 in
          (omega (arith, ap (λ (i : Handed). i.job.couplers) q), omega (arith, ap (λ (i : Handed). i.job.gates) q))

module _ {xs t gates out gates' out' : List ℕ} {r : BegunCircuit} (b : BeginsCircuit xs t gates out r gates' out') where
  pub drawing-lent : r.job.gates ≤ length gates'
  drawing-lent = (drawn-fits xs t gates gates' (handed_in r) b.handed b.gates_read).1

  pub drawing-whole : r.job.gates ≡ length (take r.job.gates gates')
  drawing-whole = sym (length-take-le r.job.gates gates' drawing-lent)

-- ---- of both texts

module _ {s t couplers gates out couplers' gates' out' : List ℕ} {r : BegunCircuit} (b : BeginsTexts s t couplers gates out r couplers' gates' out') where
  counted : (r.job.couplers ≤ length couplers') × (r.job.gates ≤ length gates')
  counted = go (couplers_reading s most_coupler_lines) refl
    where
      go : (a : Result Job Refusal) → couplers_reading s most_coupler_lines ≡ a → (r.job.couplers ≤ length couplers') × (r.job.gates ≤ length gates')
      go (Ok i) d =
          let z = (listed-says s most_coupler_lines i d).0 in
          let g : gates' ≡ gates_after t gates = b.gates_read ∙ ap (λ (u : Bool). pick u (gates_after t gates) gates) (eq-eqb (number_of (judged_couplers_text s most_coupler_lines)) 0 z) in
          let f = drawn-fits (couplers_in (parsed_couplers s)) t gates gates' (handed_in r) (b.handed ∙ texts-read s t z) g in
          let l = front_fits (couplers_in (parsed_couplers s)) couplers couplers' (length (couplers_in (parsed_couplers s))) refl (b.couplers_read ∙ ap (λ (x : Result Job Refusal). lent_after x (couplers_in (parsed_couplers s)) couplers) d) in
          (omega (arith, f.0, l), f.1)
      go (Err v) d =
          let q = b.handed ∙ texts-unread s t (unlisted-says s most_coupler_lines v d).0 in
          (omega (arith, ap (λ (i : Handed). i.job.couplers) q), omega (arith, ap (λ (i : Handed). i.job.gates) q))

  pub couplers-lent : r.job.couplers ≤ length couplers'
  couplers-lent = counted.0

  pub couplers-whole : r.job.couplers ≡ length (take r.job.couplers couplers')
  couplers-whole = sym (length-take-le r.job.couplers couplers' couplers-lent)

  pub gates-lent : r.job.gates ≤ length gates'
  gates-lent = counted.1

  pub gates-whole : r.job.gates ≡ length (take r.job.gates gates')
  gates-whole = sym (length-take-le r.job.gates gates' gates-lent)
