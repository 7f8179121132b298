-- What an answer of `read` says of the text. Assumes nothing.
use mathlib.Core.Path.{◌≡◌, refl}
use mathlib.Core.List.{List}
use Prim.Native.Nat.{ℕ}
use lib.ListN.{length}
use Rattle.std.specs.Prelude.{Ok, Err}
use Rattle.verdicts.specs.declared.verdict.Refusal.{Refusal}
use Rattle.verdicts.specs.Verdicts.{number_of}
use Rattle.verdicts.proofs.Answered.{answered-value, answered-refusal}
use Rattle.qasm_reading.specs.declared.read.Circuit.{Circuit}
use Rattle.qasm_reading.specs.Parsing.{ParsedCircuit, circuit, angle, statement, early, unversioned, parsed_circuit}
use Rattle.qasm_reading.specs.Readings.{circuit_gates, circuit_in, judged_circuit_text, circuit_reading}

pub circuit-counted : (p : ParsedCircuit) → (circuit_in p).gates ≡ length (circuit_gates p)
circuit-counted (circuit v n gates phase) = refl
circuit-counted (angle l) = refl
circuit-counted (statement l) = refl
circuit-counted early = refl
circuit-counted unversioned = refl

module _ (t : List ℕ) (room : ℕ) where
  pub circuit-read-says : (c : Circuit) → circuit_reading t room ≡ Ok c → (number_of (judged_circuit_text t room) ≡ 0) × (c ≡ circuit_in (parsed_circuit t))
  unfolding circuit_reading
  circuit-read-says c e = answered-value (judged_circuit_text t room) (circuit_in (parsed_circuit t)) c e

  pub circuit-unread-says : (r : Refusal) → circuit_reading t room ≡ Err r → (number_of (judged_circuit_text t room) ≡ 0 → ⊥) × (Err r ≡ judged_circuit_text t room)
  unfolding circuit_reading
  circuit-unread-says r e = answered-refusal (judged_circuit_text t room) (circuit_in (parsed_circuit t)) r e
