-- The members of a connected set by distance inside it from one of them, then by number (our own order for gathering; docs/LAYING.md).
use Rattle.std.specs.Prelude.{◌≡◌, List, [], ◌∷◌, ℕ, zero, suc, ◌^◌, ◌-◌, eqb, get_or, length, replicate, take}
use Rattle.std.specs.Int.Bits.{bit_xor}
use Rattle.std.proofs.lemmas.List.Edits.{sets}
use Rattle.sets.specs.Pick.{pick}
use Rattle.sets.specs.Bit.{bit, In}
use Rattle.sets.specs.Size.{lowest_of, only_of}
use Rattle.gates.specs.Limits.{most_qubits}
use Rattle.chip.specs.Graph.{Near, grow}
use Rattle.gathering.specs.declared.gather.Order.{Order}

-- the neighbours of S inside Q that are not in S: one step further away
unfoldable pub beyond_of : List ℕ → ℕ → ℕ → ℕ
beyond_of near Q S = bit_xor (grow near Q S) S

-- what is left of the layer at one distance; the next layer where nothing is left
unfoldable pub layer_of : List ℕ → ℕ → ℕ → ℕ → ℕ
layer_of near Q S L = pick (eqb L 0) (beyond_of near Q S) L

-- k members more, at most, after those of S, whose layer still has L: the lowest of the layer comes next
unfoldable pub order_from : List ℕ → ℕ → ℕ → ℕ → ℕ → List ℕ
order_from near Q zero S L = []
order_from near Q (suc k) S L =
    let M = layer_of near Q S L in
    let u = lowest_of M in
    let rest = order_from near Q k (bit_xor S (2 ^ u)) (bit_xor M (2 ^ u)) in
    pick (eqb M 0) [] (u ∷ rest)

-- "the members of Q by distance from v inside Q, then by number (v first)"
unfoldable pub order_of : List ℕ → ℕ → ℕ → List ℕ
order_of near Q v = v ∷ order_from near Q (most_qubits - 1) (only_of v) 0

-- the first k + 1 numbers of os are the members of S, each once, and each after the first has a neighbour before it
pub data Along (near os : List ℕ) : ℕ → ℕ → Type 0 where
  root : {S : ℕ} → S ≡ 2 ^ get_or os 0 0 → Along near os 0 S
  then : {k E S : ℕ} (w : ℕ) → Along near os k E → bit E (get_or os (suc k) 0) ≡ 0 → In w E → Near near w (get_or os (suc k) 0)
      → S ≡ bit_xor E (2 ^ get_or os (suc k) 0) → Along near os (suc k) S

-- as the code holds it: the numbers in front, 0 behind them
unfoldable pub order_in : List ℕ → Order
order_in os = record { qubit = sets (replicate most_qubits 0) 0 os; len = length os }

-- and the numbers that it holds
abbrev pub members_of : Order → List ℕ
members_of o = take o.len o.qubit
