-- `tallies::depth::Layers::put` meets its contract. Assumes nothing.
use mathlib.Core.Path.{sym}
use native.Mathlib.Omega.{arith}
use lib.Seq.{set_out}
use Rattle.tallies.proofs.depth.Layers.put.Goals as goal

pub returns-else-q-lt-QUBITS : goal.returns-else-q-lt-QUBITS
returns-else-q-lt-QUBITS c = sym (set_out c.args.self.now.last _ _ (omega (arith, c.if-q-lt-QUBITS.false)))
