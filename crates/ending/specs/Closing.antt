-- The ending and the closing of an island (document 01, "An ending of CNOTs brings the wires to the asked parities"; docs/LAYING.md).
use Rattle.std.specs.Prelude.{List, [], ◌∷◌, ◌++◌, map, ℕ, zero, suc, ◌-◌, ltb, length, Option, None, Some}
use Rattle.std.specs.Int.Bits.{bit_xor}
use Rattle.sets.specs.Pick.{pick}
use Rattle.sets.specs.Size.{size_of, only_of}
use Rattle.gates.specs.declared.gate.Gate.{Gate}
use Rattle.gates.specs.declared.gate.Gate.TheVariants.{Cnot, Rotation, X, Bad}
use Rattle.gathering.specs.Gather.{exchanged, turns}
use Rattle.ending.specs.declared.clearing.Clearing.{Clearing}
use Rattle.ending.specs.declared.clearing.Best.{Best}
use Rattle.ending.specs.Clear.{out_of, cheapest_of}

-- what the choice that is taken asks for; nothing where there is none
abbrev pub taking : Option Best → (Clearing → List Gate) → List Gate
taking None f = []
taking (Some b) f = f b.choice

-- "taking one qubit out of the island and then doing the same for what remains": f qubits are taken out of Q
unfoldable pub ending_from : List ℕ → ℕ → ℕ → List ℕ → List ℕ → List Gate
ending_from near zero Q N C = []
ending_from near (suc f) Q N C =
    taking (cheapest_of near Q N C) λ ch.
    let L = out_of near Q N C ch in
    L ++ ending_from near f (bit_xor Q (only_of ch.qubit)) (map (turns L) N) (map (turns (exchanged L)) C)

-- "one member left: done"
unfoldable pub ending_of : List ℕ → ℕ → List ℕ → List ℕ → List Gate
ending_of near Q N C = ending_from near (size_of Q - 1) Q N C

-- from where the wires stand after the gates gs
unfoldable pub onward_of : List ℕ → ℕ → List ℕ → List ℕ → List Gate → List Gate
onward_of near Q N C gs = ending_of near Q (map (turns gs) N) (map (turns (exchanged gs)) C)

-- the CNOTs of gs in reverse
abbrev pub back_of : List Gate → List Gate
back_of [] = []
back_of (Cnot c t ∷ gs) = back_of gs ++ Cnot c t ∷ []
back_of (Rotation q a ∷ gs) = back_of gs
back_of (X q ∷ gs) = back_of gs
back_of (Bad ∷ gs) = back_of gs

-- back to the start first, then the ending from there
unfoldable pub back_first : List ℕ → ℕ → List ℕ → List ℕ → List Gate → List Gate
back_first near Q N C gs = back_of gs ++ ending_of near Q N C

-- the shorter of the two, onward in a tie
unfoldable pub closing_of : List ℕ → ℕ → List ℕ → List ℕ → List Gate → List Gate
closing_of near Q N C gs =
    pick (ltb (length (back_first near Q N C gs)) (length (onward_of near Q N C gs))) (back_first near Q N C gs) (onward_of near Q N C gs)
