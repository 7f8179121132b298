-- One qubit is taken out of the island: its row and its mirror row are cleared (document 01, "taking one qubit out of the island"; docs/LAYING.md).
use Rattle.std.specs.Prelude.{Bool, true, false, not, List, [], ◌∷◌, ◌++◌, ℕ, zero, suc, ◌+◌, ltb, get_or, length, Option, None, Some}
use Rattle.sets.specs.Pick.{pick}
use Rattle.spares.specs.Spare.{spare_of}
use Rattle.gates.specs.Limits.{most_qubits}
use Rattle.gates.specs.declared.gate.Gate.{Gate}
use Rattle.gathering.specs.Gather.{exchanged, gather_of, turns}
use Rattle.ending.specs.declared.clearing.Clearing.{Clearing}
use Rattle.ending.specs.declared.clearing.Best.{Best}
use Rattle.ending.specs.Mirror.{seen}

-- ---- the CNOTs of a choice

-- the asked row of v, or its mirror row
unfoldable pub row_at : List ℕ → List ℕ → ℕ → Bool → ℕ
row_at N C v b = pick b (get_or C v 0) (get_or N v 0)

-- "clear rows at v": N_v is gathered at v, or the mirror row of v where that one comes first
unfoldable pub first_moves : List ℕ → ℕ → List ℕ → List ℕ → Clearing → List Gate
first_moves near Q N C ch = gather_of near Q ch.qubit (row_at N C ch.qubit ch.mirrored)

-- then the other one as those moves left it
unfoldable pub second_moves : List ℕ → ℕ → List ℕ → List ℕ → Clearing → List Gate
second_moves near Q N C ch = gather_of near Q ch.qubit (turns (exchanged (first_moves near Q N C ch)) (row_at N C ch.qubit (not ch.mirrored)))

-- all its CNOTs: a move "u by p" on the mirror rows is CNOT p,u
unfoldable pub out_of : List ℕ → ℕ → List ℕ → List ℕ → Clearing → List Gate
out_of near Q N C ch = seen ch.mirrored (first_moves near Q N C ch ++ exchanged (second_moves near Q N C ch))

-- how many they are
unfoldable pub cost_of : List ℕ → ℕ → List ℕ → List ℕ → Clearing → ℕ
cost_of near Q N C ch = length (out_of near Q N C ch)

-- ---- the cheapest choice

-- both orders at v, where it can be spared: rows first, then mirror first
unfoldable pub choices_at : List ℕ → ℕ → ℕ → List Clearing
choices_at near Q v =
    pick (spare_of near Q v) (record { qubit = v; mirrored = false } ∷ record { qubit = v; mirrored = true } ∷ []) []

-- and at each of the d qubits from v on
unfoldable pub choices_from : List ℕ → ℕ → ℕ → ℕ → List Clearing
choices_from near Q zero v = []
choices_from near Q (suc d) v = choices_at near Q v ++ choices_from near Q d (v + 1)

abbrev pub best : Clearing → ℕ → Best
best ch n = record { choice = ch; cost = n }

-- ch, of n CNOTs, if that is fewer than the best one so far has; else that one
abbrev pub cheaper_of : Clearing → ℕ → Option Best → Option Best
cheaper_of ch n None = Some (best ch n)
cheaper_of ch n (Some b) = pick (ltb n b.cost) (Some (best ch n)) (Some b)

-- the cheapest of the choices, the first in a tie, where b is the best one so far
unfoldable pub cheapest_in : (Clearing → ℕ) → Option Best → List Clearing → Option Best
cheapest_in cost b [] = b
cheapest_in cost b (ch ∷ chs) = cheapest_in cost (cheaper_of ch (cost ch) b) chs

-- "over the spare qubits v of Q ascending and the two orders, the one with fewest CNOTs, the first in a tie"
unfoldable pub cheapest_of : List ℕ → ℕ → List ℕ → List ℕ → Option Best
cheapest_of near Q N C = cheapest_in (cost_of near Q N C) None (choices_from near Q most_qubits 0)
