-- Gathering a set at one of its qubits by moves along couplers (our own way; docs/LAYING.md). A move "u by p" is CNOT u,p.
use Rattle.std.specs.Prelude.{◌≡◌, ◌≢◌, List, [], ◌∷◌, ◌++◌, map, ℕ, zero, suc, ◌+◌, ◌-◌, ◌*◌, ◌^◌, ◌≤◌, min, eqb, get_or, length, replicate, take}
use Rattle.std.specs.Int.Bits.{bit_and, bit_xor}
use Rattle.std.specs.Int.Count.{ones}
use Rattle.std.proofs.lemmas.List.Edits.{sets}
use Rattle.sets.specs.Pick.{pick}
use Rattle.sets.specs.Bit.{has, In}
use Rattle.sets.specs.Size.{lowest_of, only_of}
use Rattle.sets.specs.Columns.{turn}
use Rattle.chip.specs.Inside.{Coupled}
use Rattle.gates.specs.Limits.{most_qubits}
use Rattle.gates.specs.declared.gate.Gate.{Gate}
use Rattle.gates.specs.declared.gate.Gate.TheVariants.{Cnot, Rotation, X, Bad}
use Rattle.sets.specs.Lists.{All}
use Rattle.gathering.specs.declared.gather.Order.{Order}
use Rattle.gathering.specs.declared.gather.Move.{Move}
use Rattle.gathering.specs.declared.gather.Moves.{Moves}
use Rattle.gathering.specs.Order.{order_of}

-- ---- what gates do to sets of wires, and which gates they are

-- "A laid CNOT adds the target's row to the control's row": what a list of gates makes of a column or an asked row
abbrev pub turns : List Gate → ℕ → ℕ
turns [] x = x
turns (Cnot c t ∷ gs) x = turns gs (turn c t x)
turns (Rotation q a ∷ gs) x = turns gs x
turns (X q ∷ gs) x = turns gs x
turns (Bad ∷ gs) x = turns gs x

-- control and target change places: what is done to the rows so is done to the mirror rows
abbrev pub exchanged : List Gate → List Gate
exchanged [] = []
exchanged (Cnot c t ∷ gs) = Cnot t c ∷ exchanged gs
exchanged (Rotation q a ∷ gs) = Rotation q a ∷ exchanged gs
exchanged (X q ∷ gs) = X q ∷ exchanged gs
exchanged (Bad ∷ gs) = Bad ∷ exchanged gs

-- v is not the control of the gate: the sets' bit v stays
abbrev pub Spares : ℕ → Gate → Type 0
Spares v (Cnot c t) = c ≢ v
Spares v (Rotation q a) = Unit {0}
Spares v (X q) = Unit {0}
Spares v Bad = Unit {0}

-- ---- gathering

-- the moves that take u out of x; a is the set of the neighbours of u among the earlier ones
unfoldable pub moves_at : ℕ → ℕ → ℕ → List Gate
moves_at a u x =
    pick (has x u)
    (pick (eqb (bit_and a x) 0) (pick (eqb a 0) [] (Cnot (lowest_of a) u ∷ Cnot u (lowest_of a) ∷ [])) (Cnot u (lowest_of (bit_and a x)) ∷ []))
    []

-- and what becomes of x
unfoldable pub left_at : ℕ → ℕ → ℕ → ℕ
left_at a u x =
    pick (has x u)
    (pick (eqb (bit_and a x) 0) (pick (eqb a 0) x (bit_xor (bit_xor x (only_of (lowest_of a))) (only_of u))) (bit_xor x (only_of u)))
    x

-- the members k, k - 1, .., 1 of the order os are taken out of x one after another; S has the first k + 1
unfoldable pub gather_from : List ℕ → List ℕ → ℕ → ℕ → ℕ → List Gate
gather_from near os zero S x = []
gather_from near os (suc k) S x =
    let u = get_or os (suc k) 0 in
    let E = bit_xor S (only_of u) in
    let a = bit_and (get_or near u 0) E in
    moves_at a u x ++ gather_from near os k E (left_at a u x)

-- "gather x at v" in Q
unfoldable pub gather_of : List ℕ → ℕ → ℕ → ℕ → List Gate
gather_of near Q v x = gather_from near (order_of near Q v) (length (order_of near Q v) - 1) Q x

-- the same along an order as the code holds it
unfoldable pub along_of : List ℕ → ℕ → Order → ℕ → List Gate
along_of near Q o x = gather_from near o.qubit (min o.len most_qubits - 1) Q x

-- the moves L bring x to v alone, by two for each other member of S at most; v itself stays if it is in x
pub record Gathers (near : List ℕ) (v S x : ℕ) (L : List Gate) : Type 0 where
  pub coupled : All (Coupled near S) L
  pub short : length L + 2 ≤ 2 * ones S
  pub done : turns L x ≡ 2 ^ v
  pub spares : In v x → All (Spares v) L

-- no gathering has more moves: two for each of 20 qubits but one
abbrev pub most_moves : ℕ
most_moves = 2 * (most_qubits - 1)

-- ---- moves as the code holds them

-- a move as a CNOT: "to by by"
abbrev pub cnot_of : Move → Gate
cnot_of m = Cnot m.to m.by

abbrev pub cnots_of : List Move → List Gate
cnots_of ms = map cnot_of ms

-- a CNOT as a move; no other gate is one
abbrev pub move_of : Gate → Move
move_of (Cnot c t) = record { to = c; by = t }
move_of (Rotation q a) = record { to = 0; by = 0 }
move_of (X q) = record { to = 0; by = 0 }
move_of Bad = record { to = 0; by = 0 }

-- the moves that are held
abbrev pub moves_of : Moves → List Move
moves_of m = take m.len m.moves

-- CNOTs held as moves: those in front, "0 by 0" behind them
unfoldable pub moves_in : List Gate → Moves
moves_in gs = record { moves = sets (replicate most_moves (record { to = 0; by = 0 })) 0 (map move_of gs); len = length gs }

-- CNOTs put behind the moves that are held
unfoldable pub stored : Moves → List Gate → Moves
stored m gs = record { moves = sets m.moves m.len (map move_of gs); len = m.len + length gs }
