-- How a circuit's text is read, statement by statement (requests E1 and E5). proofs/ shows that it finds what specs/Texts.antt says.
use Rattle.std.specs.Prelude.{List, [], ◌∷◌, ◌++◌, ℕ, zero, suc, length, Option, None, Some}
use Rattle.sets.specs.Pick.{pick}
use Rattle.circuit.specs.Phase.{phases}
use Rattle.spots.specs.Numbers.{Got}
use Rattle.words.specs.Words.{Word, words}
use Rattle.versions.specs.declared.Version.{Version}
use Rattle.versions.specs.declared.Version.TheVariants.{Two, Three}
use Rattle.statements.specs.Statements.{Said, read_version, read_include, read_name, read_register, read_gate, has_end, bad_angle}

-- the longest run of statements behind the register, at most f: the records of its gates, its common phase, and the words that are left behind it
pub record StatementRun : Type 0 where
  pub records : List ℕ
  pub phase : ℕ
  pub left : List Word

abbrev pub statement_run_on : Option Said → (List Word → StatementRun) → List Word → StatementRun
statement_run_on None more ws = record { records = []; phase = 0; left = ws }
statement_run_on (Some g) more ws = record { records = g.records ++ (more g.rest).records; phase = phases g.phase (more g.rest).phase; left = (more g.rest).left }

unfoldable pub statement_run_in : ℕ → Version → List ℕ → List Word → StatementRun
statement_run_in zero v name ws = record { records = []; phase = 0; left = ws }
statement_run_in (suc f) v name ws = statement_run_on (read_gate v name (Some ws)) (statement_run_in f v name) ws

-- a statement has at least one word
unfoldable pub statement_run : Version → List ℕ → List Word → StatementRun
statement_run v name ws = statement_run_in (length ws) v name ws

-- what a text is found to be: a circuit with its version, n, gates and common phase; a statement with a wrong angle, or another that cannot stand there, with the bytes left where
-- it begins; or it ends before the register; or no version is stated
pub data ParsedCircuit : Type 0 where
  circuit : Version → ℕ → List ℕ → ℕ → ParsedCircuit
  angle : ℕ → ParsedCircuit
  statement : ℕ → ParsedCircuit
  early : ParsedCircuit
  unversioned : ParsedCircuit

-- how many bytes are left where the first of the words begins
abbrev pub left_of : List Word → ℕ
left_of [] = 0
left_of (w ∷ ws) = w.left

-- the include line or the register does not stand there
unfoldable pub head_fault : List Word → ParsedCircuit
head_fault ws = pick (has_end ws) (statement (left_of ws)) early

-- behind the gates stands nothing
unfoldable pub end_circuit : Version → List ℕ → ℕ → List ℕ → ℕ → List Word → ParsedCircuit
end_circuit v name n gates phase [] = circuit v n gates phase
end_circuit v name n gates phase (w ∷ ws) = pick (bad_angle v name (Some (w ∷ ws))) (angle w.left) (statement w.left)

-- behind the register, on n qubits
unfoldable pub behind_register : Version → List ℕ → ℕ → List Word → ParsedCircuit
behind_register v name n t = end_circuit v name n (statement_run v name t).records (statement_run v name t).phase (statement_run v name t).left

unfoldable pub registered : Version → List ℕ → Option (Got Word) → List Word → ParsedCircuit
registered v name None ws = head_fault ws
registered v name (Some r) ws = behind_register v name r.value r.rest

unfoldable pub included : Version → Option (List Word) → List Word → ParsedCircuit
included v None ws = head_fault ws
included v (Some t) ws = registered v (read_name v (Some t)) (read_register v (Some t)) t

-- "The version line decides"
unfoldable pub versioned : Option (List Word) → Option (List Word) → ParsedCircuit
versioned (Some t) o = included Two (read_include Two (Some t)) t
versioned None (Some t) = included Three (read_include Three (Some t)) t
versioned None None = unversioned

unfoldable pub parsed_words : List Word → ParsedCircuit
parsed_words ws = versioned (read_version Two (Some ws)) (read_version Three (Some ws))

unfoldable pub parsed_circuit : List ℕ → ParsedCircuit
parsed_circuit s = parsed_words (words s)
