-- `chip::couplers::link` meets its contract. Assumes nothing.
use mathlib.Core.Path.{◌∙◌}
use native.Mathlib.Omega.{arith}
use Rattle.std.proofs.lemmas.Bool.Decides.{nat_tests}
use Rattle.sets.proofs.Words.{only-is}
use Rattle.chip.specs.Couplers.{link_of}
use Rattle.chip.proofs.Neighbours.{link-twice}
use borrow.Author.Rules.{rules}
use Rattle.chip.proofs.couplers.link.Goals as goal

pub returns-then-c-lt-QUBITS-2 : goal.returns-then-c-lt-QUBITS-2
returns-then-c-lt-QUBITS-2 c =
    link-twice _ _ _ (search rules) c.if-c-lt-QUBITS.true c.if-c-lt-QUBITS-2.true _ _ (c.only.ensures ∙ only-is _ (omega arith)) (c.only-then-c-lt-QUBITS-2.ensures ∙ only-is _ (omega arith))

pub returns-else-c-lt-QUBITS : goal.returns-else-c-lt-QUBITS
unfolding link_of
returns-else-c-lt-QUBITS c = grind (arith, nat_tests)
