-- A row of document 01's table, "Records and refusals": "When, and exactly then", "Place returned". What the tests of a job's lists ask stands here, said of the records and
-- without testing them.
use Rattle.std.specs.Prelude.{◌≡◌, ◌≢◌, ◌⊎◌, ◌↔◌, List, ℕ, ◌≤◌, ◌<◌, length, get_or}
use Rattle.gates.specs.Limits.{most_qubits, most_couplers}
use Rattle.gates.specs.Layout.{kind_in, a_in, b_in}
use Rattle.verdicts.specs.Verdicts.{Verdict, number_of, place_of}

-- a verdict has the number k exactly when `When` holds, and then it has a place as `At` says
pub record Row (v : Verdict) (k : ℕ) (When : Type 0) (At : ℕ → Type 0) : Type 0 where
  pub exactly : number_of v ≡ k ↔ When
  pub place : number_of v ≡ k → At (place_of v)

-- the place 0
abbrev pub Nowhere : ℕ → Type 0
Nowhere k = k ≡ 0

-- some record of a list is such
abbrev pub Some : (ℕ → Type 0) → List ℕ → Type 0
Some Such xs = (k : ℕ) × (k < length xs) × Such (get_or xs k 0)

-- none is
abbrev pub None : (ℕ → Type 0) → List ℕ → Type 0
None Such xs = (k : ℕ) → k < length xs → Such (get_or xs k 0) → ⊥

-- "first such, from 0"
pub record First (Such : ℕ → Type 0) (xs : List ℕ) (k : ℕ) : Type 0 where
  pub within : k < length xs
  pub such : Such (get_or xs k 0)
  pub before : (i : ℕ) → i < k → Such (get_or xs i 0) → ⊥

-- 1: "n is not 1 to 20"
abbrev pub Passes1 : ℕ → Type 0
Passes1 n = (1 ≤ n) × (n ≤ most_qubits)

-- 2: "more than 190 couplers listed"
abbrev pub Passes2 : List ℕ → Type 0
Passes2 couplers = length couplers ≤ most_couplers

-- 3: "a coupler record not of kind 0, an end n or more, or equal ends"
abbrev pub WrongRecord : ℕ → ℕ → Type 0
WrongRecord n x = (kind_in x ≢ 0) ⊎ ((n ≤ a_in x) ⊎ ((n ≤ b_in x) ⊎ (a_in x ≡ b_in x)))

abbrev pub Passes3 : ℕ → List ℕ → Type 0
Passes3 n couplers = None (WrongRecord n) couplers

-- 5 of one stretch: "a gate not of kind 1 or 2", nor of kind 3, "a qubit n or more, or control = target"; "5 covers an X with a bad qubit or b not 0"
abbrev pub BadRecord : ℕ → ℕ → Type 0
BadRecord n x =
    ((kind_in x ≢ 1) × (kind_in x ≢ 2) × (kind_in x ≢ 3))
    ⊎ ((n ≤ a_in x) ⊎ (((kind_in x ≡ 1) × ((n ≤ b_in x) ⊎ (a_in x ≡ b_in x))) ⊎ ((kind_in x ≡ 3) × (b_in x ≢ 0))))

abbrev pub Passes5 : ℕ → List ℕ → Type 0
Passes5 n gates = None (BadRecord n) gates

-- 5 of a job, where a record may be a Hadamard too: "5 covers a bad Hadamard", "record kind 4 with b = 0"
abbrev pub BadDrawn : ℕ → ℕ → Type 0
BadDrawn n x =
    ((kind_in x ≢ 1) × (kind_in x ≢ 2) × (kind_in x ≢ 3) × (kind_in x ≢ 4))
    ⊎ ((n ≤ a_in x) ⊎ (((kind_in x ≡ 1) × ((n ≤ b_in x) ⊎ (a_in x ≡ b_in x))) ⊎ (((kind_in x ≡ 3) ⊎ (kind_in x ≡ 4)) × (b_in x ≢ 0))))

abbrev pub PassesDrawn : ℕ → List ℕ → Type 0
PassesDrawn n gates = None (BadDrawn n) gates
