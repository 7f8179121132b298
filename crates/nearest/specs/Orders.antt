-- The orders from all qubits, worked out once (our own; docs/LAYING.md, gathering).
use Rattle.std.specs.Prelude.{List, ℕ}
use Rattle.sets.specs.Tables.{tab}
use Rattle.gates.specs.Limits.{most_qubits}
use Rattle.gathering.specs.declared.gather.Order.{Order}
use Rattle.gathering.specs.Order.{order_of, order_in}

-- the order from each qubit, as the code holds it
unfoldable pub orders_of : List ℕ → ℕ → List Order
orders_of near Q = tab most_qubits (λ v. order_in (order_of near Q v))
