-- The head, the gates behind it and the common phase last: what is written where all of them fit. Assumes nothing.
use mathlib.Core.Path.{◌≡◌, ap, ◌∙◌}
use mathlib.Core.List.{List, ◌++◌}
use Prim.Native.Nat.{ℕ, ◌≤◌}
use native.Mathlib.Omega.{arith}
use lib.ListN.{length}
use lib.Seq.{length-sets}
use Rattle.lines.specs.Lent.{lines_end, lines_at, Wrote, Fitted}
use Rattle.lines.proofs.Writes.{wrote_then, fitted-wrote}
use Rattle.versions.specs.declared.Version.{Version}
use Rattle.qasm_lines.specs.Spelling.{gate_text, gates_text, head_text, phase_text, circuit_text}
use Rattle.qasm_lines.proofs.Placed.{gates-lines-fit}
use Rattle.qasm_lines.proofs.Sizes.{circuit-length}

module _ (v : Version) (n : ℕ) (gs : List ℕ) (g : ℕ) where
  pub circuit-wrote : (l : List ℕ) {m k o : List ℕ} {p q e : ℕ} → length (circuit_text v n gs g) ≤ length l → Fitted l 0 (head_text v n) m p
      → (q ≡ lines_end (gate_text v) gs p (length m)) × (k ≡ lines_at (gate_text v) gs p m) → Fitted k q (phase_text v g) o e → Wrote l 0 (circuit_text v n gs g) o e
  unfolding circuit_text
  circuit-wrote l {m} {k} {o} {p} {q} {e} h a b c =
      let sum = circuit-length v n gs g in
      let one = fitted-wrote l 0 (head_text v n) (omega (arith, h, sum)) a in
      let m-length = ap length one.1 ∙ length-sets l 0 (head_text v n) in
      let f = gates-lines-fit v gs p m (omega (arith, h, sum, one.0, m-length)) in
      let two : Wrote m p (gates_text v gs) k q = (b.0 ∙ f.0, b.1 ∙ f.1) in
      let k-length = ap length two.1 ∙ length-sets m p (gates_text v gs) in
      let three = fitted-wrote k q (phase_text v g) (omega (arith, h, sum, one.0, two.0, m-length, k-length)) c in
      wrote_then l 0 (head_text v n) (gates_text v gs ++ phase_text v g) one (wrote_then m p (gates_text v gs) (phase_text v g) two three)
