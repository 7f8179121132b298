-- The base step and the ones step (document 01, "Steps from document 000", after document 000, Figure 1).
use Rattle.std.specs.Prelude.{Bool, List, ℕ, zero, suc, eqb}
use Rattle.sets.specs.Pick.{pick}
use Rattle.sets.specs.Size.{size_of}
use Rattle.columns.specs.Pieces.{Piece, idle, followed_by}
use Rattle.columns.specs.Turning.{lay_cnot}
use Rattle.columns.specs.Striking.{strike_off}
use Rattle.steps.specs.Selection.{count_of, zeros_of, ones_of, live_of, row_of}
use Rattle.steps.specs.Choice.{sparing, without, partner}

-- "If it has any, lay a CNOT from the chosen qubit to it. If not, lay one from the neighbour to the chosen qubit and then one back." r is the chosen qubit, m the neighbour, n its ones
unfoldable pub crossed : ℕ → ℕ → ℕ → List ℕ → Piece
crossed r m n xs = pick (eqb n 0) (followed_by (lay_cnot m r xs) (lay_cnot r m)) (lay_cnot r m xs)

-- and what becomes a column of one qubit "is laid at once"
unfoldable pub moved : List ℕ → ℕ → ℕ → ℕ → List ℕ → Piece
moved angles r m n xs = followed_by (crossed r m n xs) (strike_off angles)

-- a step for a set of qubits and the selected columns
abbrev pub Step : Type 0
Step = ℕ → List Bool → List ℕ → Piece

-- the ones step for n columns at most; `below` is the base step for one qubit less. "Split again on the chosen row, zeros first."
unfoldable pub ones_step : ℕ → Step → List ℕ → List ℕ → ℕ → ℕ → List Bool → List ℕ → Piece
ones_step zero below near angles Q r sel xs = idle xs
ones_step (suc n) below near angles Q r sel xs =
    let m = partner near Q r sel xs in
    let more = followed_by (moved angles r m (row_of sel xs m) xs)
    (λ ys. followed_by (below (without Q r) (zeros_of r sel ys) ys) (λ zs. ones_step n below near angles Q r (ones_of r sel ys) zs)) in
    pick (eqb (count_of sel) 0) (idle xs) more

-- the base step for q qubits. "Columns with 0 there first take the base step without that qubit; then columns with 1 take the ones step"
unfoldable pub base_step : ℕ → List ℕ → List ℕ → Step
base_step zero near angles Q sel xs = idle xs
base_step (suc q) near angles Q sel xs =
    let r = sparing near Q sel xs in
    let p = ones_of r sel xs in
    let more = followed_by (base_step q near angles (without Q r) (zeros_of r sel xs) xs) (λ ys. ones_step (count_of p) (base_step q near angles) near angles Q r p ys) in
    pick (eqb (count_of sel) 0) (idle xs) more

-- "Terms are columns over the island's qubits": columns of one qubit first, then the base step
unfoldable pub steps_for : List ℕ → ℕ → List ℕ → List ℕ → Piece
steps_for near Q ps angles =
    followed_by (strike_off angles ps) (λ xs. base_step (size_of Q) near angles Q (live_of xs) xs)
