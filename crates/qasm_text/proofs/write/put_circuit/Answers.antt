-- `qasm_text::write::put_circuit` meets its contract: the head, then the gates, then the common phase. Assumes nothing.
use native.Mathlib.Omega.{arith}
use Rattle.qasm_text.proofs.Fitting.{circuit-wrote}
use Rattle.qasm_text.proofs.write.put_circuit.Goals as goal

pub returns : goal.returns
returns c =
    let a = c.args in
    let w = circuit-wrote a.version a.n a.gates.now a.phase a.text.now c.requires c.put_head-p.ensures c.put_gates-q.ensures c.put_phase.ensures in
    record { bytes = omega (arith, w.0); written = w.1 }
