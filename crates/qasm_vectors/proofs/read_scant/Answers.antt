-- A circuit's text is read, and its gates are handed on, safely, and it ends. Assumes nothing.
use mathlib.Core.Path.{◌≡◌, sym, ap, ◌∙◌}
use mathlib.Core.List.{List}
use Prim.Native.Nat.{ℕ, ◌≤◌}
use lib.ListN.{length, take}
use Rattle.std.specs.Prelude.{Result, Ok}
use Rattle.verdicts.specs.declared.verdict.Refusal.{Refusal}
use Rattle.reading.specs.Readings.{lent_after}
use Rattle.qasm_reading.specs.declared.read.Circuit.{Circuit}
use Rattle.qasm_reading.specs.Parsing.{parsed_circuit}
use Rattle.qasm_reading.specs.Readings.{circuit_gates, circuit_reading}
use Rattle.qasm_reading.proofs.Said.{circuit-counted, circuit-read-says}
use Rattle.console.proofs.Fronts.{front_fits, front_long}
use Rattle.qasm_vectors.proofs.read_scant.Goals as goal

-- the reader was lent gs₀, and left gs
module _ (t gs₀ gs : List ℕ) (room : ℕ) {r : Result Circuit Refusal} {j : Circuit} (e : r ≡ circuit_reading t room) (g : gs ≡ lent_after r (circuit_gates (parsed_circuit t)) gs₀) (d : r ≡ Ok j) where
  counted : j.gates ≡ length (circuit_gates (parsed_circuit t))
  counted = ap (λ (i : Circuit). i.gates) (circuit-read-says t room j (sym e ∙ d)).1 ∙ circuit-counted (parsed_circuit t)

  gates_fit : j.gates ≤ length gs
  gates_fit = front_fits (circuit_gates (parsed_circuit t)) gs₀ gs j.gates counted (g ∙ ap (λ (x : Result Circuit Refusal). lent_after x (circuit_gates (parsed_circuit t)) gs₀) d)

  gates-long : j.gates ≡ length (take j.gates gs)
  gates-long = front_long (circuit_gates (parsed_circuit t)) gs₀ gs j.gates counted (g ∙ ap (λ (x : Result Circuit Refusal). lent_after x (circuit_gates (parsed_circuit t)) gs₀) d)

pub slice_bounds-gates-end : goal.slice_bounds-gates-end
slice_bounds-gates-end g c = gates_fit _ _ _ _ c.read.ensures.0 c.read.ensures.1 c.in-Ok.is

pub slice_bounds-write_scant-end : goal.slice_bounds-write_scant-end
slice_bounds-write_scant-end g c = gates-long _ _ _ _ c.read.ensures.0 c.read.ensures.1 c.in-Ok.is
