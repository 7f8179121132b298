-- The orders from all qubits. Assumes nothing.
use mathlib.Core.Path.{◌≡◌, ap, ◌∙◌}
use mathlib.Core.List.{List}
use Prim.Native.Nat.{ℕ, ◌<◌}
use lib.ListN.{get_or}
use Rattle.sets.proofs.Tabling.{tab-at}
use Rattle.gathering.specs.declared.gather.Order.{Order}
use Rattle.gathering.specs.Order.{order_of, order_in, members_of}
use Rattle.gathering.proofs.OrderCode.{members-are}
use Rattle.nearest.specs.Orders.{orders_of}

-- the order from v, as the code finds it
pub row-is : (near : List ℕ) (Q : ℕ) (from : List Order) → from ≡ orders_of near Q → (v : ℕ) (d : Order) (os : List ℕ) → v < 20 → os ≡ members_of (get_or from v d) → os ≡ order_of near Q v
unfolding orders_of
row-is near Q from e v d os l eo =
    eo ∙ members-are near Q v (get_or from v d) (ap (λ (from : List Order). get_or from v d) e ∙ tab-at 20 (λ (v : ℕ). order_in (order_of near Q v)) v d l)
