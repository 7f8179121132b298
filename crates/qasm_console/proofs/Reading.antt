-- What the program knows of a circuit's text, and of a couplers' text, that was read or refused. Assumes nothing.
use mathlib.Core.Path.{◌≡◌, refl, ap, ◌∙◌}
use mathlib.Core.List.{List}
use Prim.Native.Nat.{ℕ}
use lib.ListN.{length, take}
use Rattle.std.specs.Prelude.{Result, Ok}
use Rattle.verdicts.specs.declared.verdict.Refusal.{Refusal}
use Rattle.gates.specs.declared.job.Job.{Job}
use Rattle.reading.specs.Readings.{couplers_in, lent_after}
use Rattle.reading.specs.Listing.{parsed_couplers, couplers_reading}
use Rattle.reading.proofs.Said.{listed-says}
use Rattle.qasm_reading.specs.declared.read.Circuit.{Circuit}
use Rattle.qasm_reading.specs.Parsing.{parsed_circuit}
use Rattle.qasm_reading.specs.Readings.{circuit_gates, circuit_reading}
use Rattle.console.specs.Printed.{most_coupler_lines, most_gate_lines}
use Rattle.console.proofs.Fronts.{front-is}
use Rattle.console.proofs.Reading.{couplers-counted}

-- ---- a circuit's text

module _ (t : List ℕ) where
  -- the gates at the front of their list, which was `old`
  pub gates-front : (c : Circuit) (old new : List ℕ) → circuit_reading t most_gate_lines ≡ Ok c → new ≡ lent_after (circuit_reading t most_gate_lines) (circuit_gates (parsed_circuit t)) old → take (length (circuit_gates (parsed_circuit t))) new ≡ circuit_gates (parsed_circuit t)
  gates-front c old new e f = front-is (circuit_gates (parsed_circuit t)) old new (length (circuit_gates (parsed_circuit t))) refl (f ∙ ap (λ (x : Result Circuit Refusal). lent_after x (circuit_gates (parsed_circuit t)) old) e)

-- ---- a couplers' text

module _ (s : List ℕ) where
  pub listed-count : (j : Job) → couplers_reading s most_coupler_lines ≡ Ok j → j.couplers ≡ length (couplers_in (parsed_couplers s))
  listed-count j e = ap (λ (i : Job). i.couplers) (listed-says s most_coupler_lines j e).1 ∙ couplers-counted (parsed_couplers s)

  pub couplers-front : (j : Job) (old new : List ℕ) → couplers_reading s most_coupler_lines ≡ Ok j → new ≡ lent_after (couplers_reading s most_coupler_lines) (couplers_in (parsed_couplers s)) old
      → take (length (couplers_in (parsed_couplers s))) new ≡ couplers_in (parsed_couplers s)
  couplers-front j old new e f = front-is (couplers_in (parsed_couplers s)) old new (length (couplers_in (parsed_couplers s))) refl (f ∙ ap (λ (x : Result Job Refusal). lent_after x (couplers_in (parsed_couplers s)) old) e)
