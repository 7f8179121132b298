-- Where every gathering works: couplers without direction, and a connected set (document 01, "Islands").
use Rattle.std.specs.Prelude.{◌≡◌, ◌≢◌, Bool, true, List, ℕ, ◌^◌, ◌<◌}
use Rattle.sets.specs.Bit.{Sub}
use Rattle.gates.specs.Limits.{most_qubits}
use Rattle.spares.specs.Spare.{connected_of}
use Rattle.gathering.specs.Order.{Along}
use Rattle.chip.specs.Graph.{Near, Symm, Joined}

pub record Sure (near : List ℕ) (Q : ℕ) : Type 0 where
  pub symm : Symm near
  pub joined : Joined near Q
  pub low : Q < 2 ^ most_qubits

-- what the test finds, so that they are sure to work
abbrev pub Tested : List ℕ → ℕ → Type 0
Tested near Q = Symm near × (connected_of near Q ≡ true) × (Q < 2 ^ most_qubits)

-- and x lies in Q
pub record Works (near : List ℕ) (Q x : ℕ) : Type 0 where
  pub sure : Sure near Q
  pub part : Sub x Q

-- x, which is not empty, is to be gathered by the first k + 1 qubits of the order os, which S has
pub record Whole (near os : List ℕ) (k S x : ℕ) : Type 0 where
  pub symm : Symm near
  pub low : S < 2 ^ most_qubits
  pub along : Along near os k S
  pub part : Sub x S
  pub some : x ≢ 0

-- u, where v is a neighbour of it, is one of v
pub record Answered (near : List ℕ) (u v : ℕ) : Type 0 where
  pub back : Near near u v → Near near v u

abbrev pub Mutual : List ℕ → ℕ → Type 0
Mutual near u = (v : ℕ) → Answered near u v

-- where the test b is true, P holds
abbrev pub Whenever : Bool → Type 0 → Type 0
Whenever b P = b ≡ true → P
