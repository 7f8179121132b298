-- A chip as a graph: the neighbours of qubit q are the members of the q-th set of `near` (document 01, "Islands").
use Rattle.std.specs.Prelude.{◌≡◌, List, [], ◌∷◌, ℕ, zero, suc, ◌/◌, ◌%◌, get_or}
use Rattle.std.specs.Int.Bits.{bit_and, bit_or}
use Rattle.sets.specs.Bit.{bit, when, In}

-- v is a neighbour of u
abbrev pub Near : List ℕ → ℕ → ℕ → Type 0
Near near u v = bit (get_or near u 0) v ≡ 1

-- "Couplers have no direction"
abbrev pub Symm : List ℕ → Type 0
Symm near = (u v : ℕ) → Near near u v → Near near v u

-- "a chain of couplers joins them", through members of Q only
pub data Chain (near : List ℕ) (Q u : ℕ) : ℕ → Type 0 where
  here : In u Q → Chain near Q u u
  next : {v w : ℕ} → Chain near Q u v → Near near v w → In w Q → Chain near Q u w

-- Q is connected: any two members are joined by a chain inside it; the empty set too
unfoldable pub Joined : List ℕ → ℕ → Type 0
Joined near Q = (a b : ℕ) → In a Q → In b Q → Chain near Q a b

-- the neighbours of the members of S
unfoldable pub nbrs : ℕ → List ℕ → ℕ
nbrs S [] = zero
nbrs S (a ∷ as') = bit_or (when (S % 2) a) (nbrs (S / 2) as')

-- S and its neighbours inside Q
unfoldable pub grow : List ℕ → ℕ → ℕ → ℕ
grow near Q S = bit_or S (bit_and (nbrs S near) Q)

-- what k rounds from S reach inside Q
unfoldable pub closure : List ℕ → ℕ → ℕ → ℕ → ℕ
closure near Q zero S = S
closure near Q (suc k) S = closure near Q k (grow near Q S)
