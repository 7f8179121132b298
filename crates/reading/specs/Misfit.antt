-- Which texts are a job's, and which line of any other is refused (document 01, "The job text"). Nothing here says how a text is read.
use Rattle.std.specs.Prelude.{◌≡◌, ◌⊎◌, List, [], ◌∷◌, ℕ, zero, suc, ◌≤◌, ◌<◌, eqb}
use Rattle.sets.specs.Lists.{All}
use Rattle.sets.specs.Pick.{pick}
use Rattle.gates.specs.Layout.{kind_in, b_in}
use Rattle.reading.specs.Limits.{most_first}
use Rattle.lines.specs.Lines.{text_of}
use Rattle.reading.specs.declared.sort.Sort.{Sort}
use Rattle.reading.specs.declared.sort.Sort.TheVariants.{Couplers, Gates}

-- a record of a gate or a Hadamard, or of a coupler: a record's numbers are within the text's limits whatever it holds; "X is record kind 3 with b = 0",
-- "Hadamards, record kind 4 with b = 0"
abbrev pub FitsLine : Sort → ℕ → Type 0
FitsLine Couplers x = kind_in x ≡ 0
FitsLine Gates x = (kind_in x ≡ 1) ⊎ (kind_in x ≡ 2) ⊎ ((kind_in x ≡ 3) × (b_in x ≡ 0)) ⊎ ((kind_in x ≡ 4) × (b_in x ≡ 0))

-- the text is that of a job
pub record JobText (s : List ℕ) : Type 0 where
  pub qubits : ℕ
  pub couplers : List ℕ
  pub gates : List ℕ
  pub few : qubits ≤ most_first
  pub couplers_fit : All (FitsLine Couplers) couplers
  pub gates_fit : All (FitsLine Gates) gates
  pub same : s ≡ text_of qubits couplers gates

-- the first k lines of a text, each up to its LF or to the end
unfoldable pub first_lines : ℕ → List ℕ → List ℕ
first_lines zero s = []
first_lines (suc k) [] = []
first_lines (suc k) (x ∷ s) = x ∷ pick (eqb x 10) (first_lines k s) (first_lines (suc k) s)

-- no byte of it is LF: a last line that lacks it
abbrev pub NoLf : List ℕ → Type 0
NoLf s = All (λ x. x ≡ 10 → ⊥) s

-- "the first line that cannot continue a job": up to the line before it the text is a job's, and with it no more.
-- "Empty text is refused at line 1", "a last line without LF included"
pub record Misfit (s : List ℕ) (k : ℕ) : Type 0 where
  pub counted : 1 ≤ k
  pub before : (j : ℕ) → 1 ≤ j → j < k → JobText (first_lines j s)
  pub here : JobText (first_lines k s) → ⊥
