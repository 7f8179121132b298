-- What is left in lent memory (document 01, "Records and refusals": "what lies behind them stays").
use Rattle.std.specs.Prelude.{◌≡◌, ℕ, ◌+◌, List, [], ◌∷◌, ◌++◌, drop, length, leb}
use Rattle.std.proofs.lemmas.List.Edits.{sets}
use Rattle.sets.specs.Pick.{pick}

-- new stands at the front, and what lies behind it stays
abbrev pub onto : List ℕ → List ℕ → List ℕ
onto new old = new ++ drop (length new) old

-- text was written to old from `at` on, which gives new and the place behind it
abbrev pub Wrote : List ℕ → ℕ → List ℕ → List ℕ → ℕ → Type 0
Wrote old at text new end = (end ≡ at + length text) × (new ≡ sets old at text)

-- ---- a text that is written from `at` on where it fits a room of so many bytes: the place behind it, or `at` and nothing written where it is too long

abbrev pub fitted_end : List ℕ → ℕ → ℕ → ℕ
fitted_end text at room = pick (leb (at + length text) room) (at + length text) at

abbrev pub fitted_at : List ℕ → ℕ → List ℕ → List ℕ
fitted_at text at old = pick (leb (at + length text) (length old)) (sets old at text) old

-- text was written so, which gives new and the place where it ends
abbrev pub Fitted : List ℕ → ℕ → List ℕ → List ℕ → ℕ → Type 0
Fitted old at text new end = (end ≡ fitted_end text at (length old)) × (new ≡ fitted_at text at old)

-- ---- lines from `at` on, one behind another, each where it fits: the place behind the last that does, and what they leave

-- each number has its line
abbrev pub lines_end : (ℕ → List ℕ) → List ℕ → ℕ → ℕ → ℕ
lines_end line [] at room = at
lines_end line (x ∷ xs) at room = lines_end line xs (fitted_end (line x) at room) room

abbrev pub lines_at : (ℕ → List ℕ) → List ℕ → ℕ → List ℕ → List ℕ
lines_at line [] at old = old
lines_at line (x ∷ xs) at old = lines_at line xs (fitted_end (line x) at (length old)) (fitted_at (line x) at old)

-- the lines of xs were written so, which gives new and the place where they end
abbrev pub FittedLines : (ℕ → List ℕ) → List ℕ → ℕ → List ℕ → List ℕ → ℕ → Type 0
FittedLines line old at xs new end = (end ≡ lines_end line xs at (length old)) × (new ≡ lines_at line xs at old)
