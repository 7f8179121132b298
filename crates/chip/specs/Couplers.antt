-- The neighbours that a list of coupler records gives (document 01, "Islands" and "Records and refusals").
use Rattle.std.specs.Prelude.{List, [], ◌∷◌, Option, Some, None, ℕ, ◌^◌, ltb, get_or, set, replicate}
use Rattle.std.specs.Int.Bits.{bit_or}
use Rattle.sets.specs.Pick.{pick}
use Rattle.gates.specs.Limits.{most_qubits}
use Rattle.gates.specs.Layout.{coupler_of}
use Rattle.gates.specs.declared.coupler.Coupler.{Coupler}

-- "Couplers have no direction": each end becomes a neighbour of the other; past the 20 qubits there is none
unfoldable pub link_of : ℕ → ℕ → List ℕ → List ℕ
link_of a b near =
    pick (ltb a most_qubits) (pick (ltb b most_qubits) (set (set near a (bit_or (get_or near a 0) (2 ^ b))) b (bit_or (get_or near b 0) (2 ^ a))) near) near

-- a coupler more; a wrong record adds nothing
unfoldable pub add_of : Option Coupler → List ℕ → List ℕ
add_of (Some c) near = link_of c.a c.b near
add_of None near = near

-- the records of xs more
unfoldable pub add_all : ℕ → List ℕ → List ℕ → List ℕ
add_all n [] near = near
add_all n (x ∷ xs) near = add_all n xs (add_of (coupler_of n x) near)

-- the neighbours of each of 20 qubits; "one listed twice or turned round counts once", since a set holds a qubit once
unfoldable pub near_of : ℕ → List ℕ → List ℕ
near_of n xs = add_all n xs (replicate most_qubits 0)
