-- `circuit::wires::join` meets its contract. Assumes nothing.
use mathlib.Core.Path.{sym, ap}
use native.Mathlib.Omega.{arith}
use Rattle.std.specs.Int.Bits.{bit_xor}
use lib.ListN.{get_or, set}
use Rattle.sets.specs.Columns.{cnot}
use Rattle.circuit.proofs.Steps.{cnot-past-target}
use Rattle.circuit.proofs.wires.join.Goals as goal

pub returns-then-target-lt-QUBITS : goal.returns-then-target-lt-QUBITS
unfolding cnot
returns-then-target-lt-QUBITS c =
    let a = c.args in
    ap (λ p. set a.next.now a.target (bit_xor p (get_or a.next.now a.target 0))) c.borne_on.ensures

pub returns-else-target-lt-QUBITS : goal.returns-else-target-lt-QUBITS
returns-else-target-lt-QUBITS c = sym (cnot-past-target _ _ _ (omega (arith, c.if-target-lt-QUBITS.false)))
