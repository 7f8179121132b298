-- Which texts are a circuit's, with its version, its n, its gates and its common phase, and which statement of any other is refused (requests E1 and E5). Nothing here says how a text
-- is read.
use Rattle.std.specs.Prelude.{◌≡◌, ◌⊎◌, true, List, ◌∷◌, ◌++◌, ℕ, ◌≤◌}
use Rattle.sets.specs.Lists.{All}
use Rattle.words.specs.Bytes.{line_at}
use Rattle.words.specs.Words.{Word, words, bodies}
use Rattle.words.specs.Taking.{is_name}
use Rattle.versions.specs.declared.Version.{Version}
use Rattle.statements.specs.Limits.{most_qubit}
use Rattle.statements.specs.Forms.{Form, GoodForm, form_words, forms_words, version_words, include_words, register_words, head_words, Unended, OnlyAngle, form_records, phase_of_forms}

-- the text is that of a circuit on n qubits with the gates and the common phase: its words are those of the version's first three statements and of gates, in some form each
pub record CircuitText (s : List ℕ) (v : Version) (n : ℕ) (gates : List ℕ) (phase : ℕ) : Type 0 where
  pub name : List ℕ
  pub forms : List Form
  pub named : is_name name ≡ true
  pub few : n ≤ most_qubit
  pub good : All (GoodForm v) forms
  pub meant : gates ≡ form_records forms
  pub shifted : phase ≡ phase_of_forms v forms
  pub spelt : bodies (words s) ≡ head_words v name n ++ forms_words name forms

-- ---- what a circuit's text can begin with, statement by statement

-- 14: "a version line missing or other than 2.0 or 3.0"
abbrev pub WithoutVersion : List ℕ → Type 0
WithoutVersion s = (v : Version) (rest : List (List ℕ)) → bodies (words s) ≡ version_words v ++ rest → ⊥

-- up to some gate: the register has been seen, and has the name
pub record Seen (v : Version) (name : List ℕ) (bs : List (List ℕ)) : Type 0 where
  pub qubits : ℕ
  pub forms : List Form
  pub named : is_name name ≡ true
  pub few : qubits ≤ most_qubit
  pub good : All (GoodForm v) forms
  pub spelt : bs ≡ head_words v name qubits ++ forms_words name forms

abbrev pub SeenAny : List (List ℕ) → Type 0
SeenAny bs = (v : Version) × (name : List ℕ) × Seen v name bs

-- or the text ends before the register
pub data Early (bs : List (List ℕ)) : Type 0 where
  version_line : (v : Version) → bs ≡ version_words v → Early bs
  both_lines : (v : Version) → bs ≡ version_words v ++ include_words v → Early bs

abbrev pub Beginning : List (List ℕ) → Type 0
Beginning bs = Early bs ⊎ SeenAny bs

-- the statement that can stand behind it
pub data NextStatement (bs st : List (List ℕ)) : Type 0 where
  second : (v : Version) → bs ≡ version_words v → st ≡ include_words v → NextStatement bs st
  third : (v : Version) (name : List ℕ) (n : ℕ) → bs ≡ version_words v ++ include_words v → is_name name ≡ true → n ≤ most_qubit → st ≡ register_words v name n → NextStatement bs st
  gate : (v : Version) (name : List ℕ) (f : Form) → Seen v name bs → GoodForm v f → st ≡ form_words name f → NextStatement bs st

-- ---- "the first such statement decides"

-- the first that cannot continue a circuit: up to it the text can begin one, and no statement that can stand behind that stands there
pub record Fault (s : List ℕ) : Type 0 where
  pub before : List Word
  pub word : Word
  pub behind : List Word
  pub split : words s ≡ before ++ (word ∷ behind)
  pub begun : Beginning (bodies before)
  pub stuck : (st rest : List (List ℕ)) → NextStatement (bodies before) st → bodies (word ∷ behind) ≡ st ++ rest → ⊥

-- "the line it starts on"
abbrev pub fault_line : (s : List ℕ) → Fault s → ℕ
fault_line s f = line_at s f.word.left

-- 12: "any other angle"
pub record WrongAngle (s : List ℕ) (k : ℕ) : Type 0 where
  pub fault : Fault s
  pub version : Version
  pub name : List ℕ
  pub seen : Seen version name (bodies fault.before)
  pub only : OnlyAngle version name (bodies (fault.word ∷ fault.behind))
  pub place : k ≡ fault_line s fault

-- 13: "a statement we don't carry or out of place", "0 if the text ends before the register"
pub data WrongStatement (s : List ℕ) (k : ℕ) : Type 0 where
  here : (f : Fault s) → SeenAny (bodies f.before) ⊎ (Unended (bodies (f.word ∷ f.behind)) → ⊥) → ((j : ℕ) → WrongAngle s j → ⊥) → k ≡ fault_line s f → WrongStatement s k
  cut : (f : Fault s) → Early (bodies f.before) → Unended (bodies (f.word ∷ f.behind)) → k ≡ 0 → WrongStatement s k
  short : Early (bodies (words s)) → k ≡ 0 → WrongStatement s k
