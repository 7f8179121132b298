-- What the writer accepts, and what it answers then. Assumes nothing.
use mathlib.Core.Path.{◌≡◌}
use mathlib.Core.List.{List}
use Prim.Native.Nat.{ℕ, ◌≤◌}
use lib.ListN.{length}
use Rattle.std.specs.Prelude.{Ok}
use Rattle.verdicts.specs.Verdicts.{number_of, judged_qubits, judged_drawn}
use Rattle.verdicts.specs.InOrder.{and_then}
use Rattle.verdicts.proofs.Judged.{then-zero}
use Rattle.verdicts.proofs.Answered.{answered-value}
use Rattle.reading.specs.Readings.{judged_places}
use Rattle.text.proofs.Judging.{room-zero}
use Rattle.versions.specs.declared.Version.{Version}
use Rattle.qasm_lines.specs.Spelling.{circuit_text}
use Rattle.qasm_text.specs.Writings.{judged_circuit, circuit_writing}

-- what the writer accepts
pub record AcceptsCircuit (v : Version) (n : ℕ) (gs : List ℕ) (g room : ℕ) : Type 0 where
  pub qubits : number_of (judged_qubits n) ≡ 0
  pub gates : number_of (judged_drawn n gs) ≡ 0
  pub fits : length (circuit_text v n gs g) ≤ room

module _ (v : Version) (n : ℕ) (gs : List ℕ) (g room : ℕ) where
  pub accepts : number_of (judged_circuit v n gs g room) ≡ 0 → AcceptsCircuit v n gs g room
  unfolding judged_circuit
  accepts e =
      let r = judged_places (length (circuit_text v n gs g)) room in
      let a = then-zero (judged_qubits n) (and_then (judged_drawn n gs) r) e in
      let b = then-zero (judged_drawn n gs) r a.1 in
      record { qubits = a.0; gates = b.0; fits = room-zero (length (circuit_text v n gs g)) room b.1 }

  -- the writer accepts where it writes, and then it writes the whole text
  pub written : (bytes : ℕ) → circuit_writing v n gs g room ≡ Ok bytes → (bytes ≡ length (circuit_text v n gs g)) × AcceptsCircuit v n gs g room
  unfolding circuit_writing
  written bytes e = let p = answered-value (judged_circuit v n gs g room) (length (circuit_text v n gs g)) bytes e in (p.1, accepts p.0)
