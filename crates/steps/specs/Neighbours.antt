-- That no step is at a loss: said of each step that laying comes to, in the order in which the steps call each other (request E7).
use Rattle.std.specs.Prelude.{◌≡◌, ◌≢◌, Bool, true, List, ℕ, zero, suc}
use Rattle.sets.specs.Bit.{In}
use Rattle.sets.specs.Size.{size_of}
use Rattle.spares.specs.Spare.{spare_of}
use Rattle.columns.specs.Striking.{strike_off}
use Rattle.steps.specs.Selection.{count_of, zeros_of, ones_of, live_of, row_of}
use Rattle.steps.specs.Choice.{sparing, without, beside, partner}
use Rattle.steps.specs.Steps.{Step, moved, base_step}

-- what is said of a step: of its set, the selected columns and all columns
abbrev pub Claim : Type 1
Claim = ℕ → List Bool → List ℕ → Type 0

-- a ones step with columns has a neighbour of r in Q to go on with; so do the steps behind it, `Below` being said of the base steps. None is left with columns and no step to go
unfoldable pub OnesGoesOn : ℕ → Step → Claim → List ℕ → List ℕ → ℕ → ℕ → List Bool → List ℕ → Type 0
OnesGoesOn zero below Below near angles Q r sel xs = count_of sel ≡ 0
OnesGoesOn (suc n) below Below near angles Q r sel xs =
    let m = partner near Q r sel xs in
    let ys = (moved angles r m (row_of sel xs m) xs).cols in
    let zs = (below (without Q r) (zeros_of r sel ys) ys).cols in
    count_of sel ≢ 0 → In m (beside near Q r) × Below (without Q r) (zeros_of r sel ys) ys × OnesGoesOn n below Below near angles Q r (ones_of r sel ys) zs

-- a base step with columns has a spare qubit of Q; so do the base steps behind it, and their ones steps have their neighbours
unfoldable pub BaseGoesOn : ℕ → List ℕ → List ℕ → Claim
BaseGoesOn zero near angles Q sel xs = count_of sel ≡ 0
BaseGoesOn (suc q) near angles Q sel xs =
    let r = sparing near Q sel xs in
    let p = ones_of r sel xs in
    let ys = (base_step q near angles (without Q r) (zeros_of r sel xs) xs).cols in
    count_of sel ≢ 0
    → (spare_of near Q r ≡ true) × BaseGoesOn q near angles (without Q r) (zeros_of r sel xs) xs
    × OnesGoesOn (count_of p) (base_step q near angles) (BaseGoesOn q near angles) near angles Q r p ys

-- the steps that lay the terms ps on Q
unfoldable pub GoesOn : List ℕ → ℕ → List ℕ → List ℕ → Type 0
GoesOn near Q ps angles = let xs = (strike_off angles ps).cols in BaseGoesOn (size_of Q) near angles Q (live_of xs) xs
