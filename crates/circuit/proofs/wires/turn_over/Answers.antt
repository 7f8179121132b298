-- `circuit::wires::turn_over` meets its contract. Assumes nothing.
use mathlib.Core.Path.{refl, sym}
use native.Mathlib.Omega.{arith}
use lib.Seq.{set_out}
use Rattle.circuit.specs.Flips.{flip_step}
use Rattle.circuit.proofs.wires.turn_over.Goals as goal

pub returns-then-q-lt-QUBITS : goal.returns-then-q-lt-QUBITS
unfolding flip_step
returns-then-q-lt-QUBITS c = refl

pub returns-else-q-lt-QUBITS : goal.returns-else-q-lt-QUBITS
unfolding flip_step
returns-else-q-lt-QUBITS c = sym (set_out _ _ _ (omega (arith, c.if-q-lt-QUBITS.false)))
