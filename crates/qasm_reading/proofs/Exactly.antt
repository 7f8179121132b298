-- What specs/Texts.antt says of words, said of bytes: words with blanks and comments between them, and the line where a statement starts. Assumes nothing.
use mathlib.Core.Path.{◌≡◌, refl, subst}
use mathlib.Core.Bool.{true}
use mathlib.Core.List.{List, ◌++◌}
use Prim.Native.Nat.{ℕ, ◌≤◌}
use Rattle.sets.specs.Lists.{All}
use Rattle.words.specs.Bytes.{line_behind}
use Rattle.words.specs.Taking.{is_name}
use Rattle.words.specs.Places.{StandsIn}
use Rattle.words.proofs.Placed.{word-stood, word_line}
use Rattle.versions.specs.declared.Version.{Version}
use Rattle.statements.specs.Forms.{Form, GoodForm, head_words, forms_words, form_records, phase_of_forms}
use Rattle.qasm_reading.specs.Standing.{Stands}
use Rattle.qasm_reading.specs.Texts.{CircuitText, Fault, fault_line}
use Rattle.qasm_reading.proofs.Standing.{stands-words, words-stand}

-- the words of a circuit's text stand in it, with blanks and comments between them ..
pub circuit-stands : (s : List ℕ) (v : Version) (n : ℕ) (gates : List ℕ) (g : ℕ) (c : CircuitText s v n gates g) → Stands s (head_words v c.name n ++ forms_words c.name c.forms)
circuit-stands s v n gates g c = subst (Stands s) c.spelt (words-stand s)

-- .. and where they stand so, it is a circuit's
pub stands-circuit : (s : List ℕ) (v : Version) (name : List ℕ) (n : ℕ) (forms : List Form) → is_name name ≡ true → n ≤ 255 → All (GoodForm v) forms
    → Stands s (head_words v name n ++ forms_words name forms) → CircuitText s v n (form_records forms) (phase_of_forms v forms)
stands-circuit s v name n forms h k g l = record { name = name; forms = forms; named = h; few = k; good = g; meant = refl; shifted = refl; spelt = stands-words l }

-- the first statement that cannot continue a circuit starts with a word that stands in the text ..
pub fault-stood : (s : List ℕ) (f : Fault s) → StandsIn s f.word
fault-stood s f = word-stood s f.before f.word f.behind f.split

-- .. and its line is one more than the lines that end before that word
pub fault-line : (s : List ℕ) (f : Fault s) → fault_line s f ≡ line_behind (fault-stood s f).front
fault-line s f = word_line s f.word (fault-stood s f)
