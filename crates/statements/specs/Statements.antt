-- What a statement says, as a function of the words in front (requests E1 and E5). None is left behind it where it does not stand there.
use Rattle.std.specs.Prelude.{Bool, true, false, List, [], ◌∷◌, ℕ, ◌%◌, Option, None, Some, option_map, is_some}
use Rattle.std.specs.Option.{option_or}
use Rattle.sets.specs.Pick.{pick, either}
use Rattle.gates.specs.Layout.{packed}
use Rattle.angles.specs.declared.Scale.{Scale}
use Rattle.angles.specs.declared.Scale.TheVariants.{Units, Halves}
use Rattle.angles.specs.Units.{turn_in, most_times, is_over, angle_in}
use Rattle.words.specs.Bytes.{same}
use Rattle.words.specs.Words.{Word}
use Rattle.spots.specs.Numbers.{Got, found, left_behind, ◌>>=◌}
use Rattle.words.specs.Taking.{taken, numbered, front_word, named}
use Rattle.versions.specs.declared.Version.{Version}
use Rattle.versions.specs.declared.Version.TheVariants.{Two, Three}
use Rattle.statements.specs.declared.gate.Closing.{Closing}
use Rattle.statements.specs.declared.gate.Closing.TheVariants.{OnQubit, Alone}
use Rattle.statements.specs.Limits.{most_qubit}
use Rattle.statements.specs.Spelling.{openqasm, numeral, include, library, qreg, qubit, cx, u1, rz, gphase, pi, mark}
use Rattle.statements.specs.Forms.{half_taken}

-- ---- the first three statements

-- "OPENQASM 2.0;" or "OPENQASM 3.0;"
unfoldable pub read_version : Version → Option (List Word) → Option (List Word)
read_version v o = taken (mark 59) (taken (numeral v) (taken openqasm o))

-- "include "qelib1.inc";" or "include "stdgates.inc";"
unfoldable pub read_include : Version → Option (List Word) → Option (List Word)
read_include v o = taken (mark 59) (taken (library v) (taken include o))

-- "[n]": n
unfoldable pub read_size : Option (List Word) → Option (Got Word)
read_size o = do
  n ← numbered most_qubit (taken (mark 91) o)
  found n.value (taken (mark 93) (Some n.rest))

-- "qreg NAME[n];" or "qubit[n] NAME;": the name, and n
unfoldable pub read_name : Version → Option (List Word) → List ℕ
read_name Two o = front_word (taken qreg o)
read_name Three o = front_word (left_behind (read_size (taken qubit o)))

unfoldable pub read_register : Version → Option (List Word) → Option (Got Word)
read_register Two o = do
  n ← read_size (named (taken qreg o))
  found n.value (taken (mark 59) (Some n.rest))
read_register Three o = do
  n ← read_size (taken qubit o)
  found n.value (taken (mark 59) (named (Some n.rest)))

-- ---- angles

-- "`k*pi`": k
unfoldable pub read_many : Scale → Option (List Word) → Option (Got Word)
read_many c o = do
  k ← numbered (most_times c) o
  found k.value (taken pi (taken (mark 42) (Some k.rest)))

-- "0, `pi` or `k*pi`": k
unfoldable pub read_times : Scale → Option (List Word) → Option (Got Word)
read_times c o = option_or (found 1 (taken pi o)) (option_or (read_many c o) (found 0 (taken (mark 48) o)))

-- "over a power of two from 1 to 32768"; of `gphase` "over up to 65536"
unfoldable pub read_divided : Scale → Option (List Word) → Option (Got Word)
read_divided c o = do
  d ← numbered (most_times c) (taken (mark 47) o)
  pick (is_over c d.value) (Some d) None

-- "or these over": over 1 where nothing of that stands there
unfoldable pub read_divisor : Scale → Option (List Word) → Option (Got Word)
read_divisor c o = option_or (read_divided c o) (found 1 o)

unfoldable pub read_multiple : Scale → Bool → Option (List Word) → Option (Got Word)
read_multiple c minus o = do
  k ← read_times c o
  d ← read_divisor c (Some k.rest)
  found (angle_in c minus k.value d.value) (Some d.rest)

-- "with an optional minus"
unfoldable pub read_angle : Scale → Option (List Word) → Option (Got Word)
read_angle c o = pick (is_some (taken (mark 45) o)) (read_multiple c true (taken (mark 45) o)) (read_multiple c false o)

-- ---- gates, on the register of the name

-- what a statement says: the record of its gate, if it is one; what it adds to the common phase; the words that are left behind it
pub record Said : Type 0 where
  pub records : List ℕ
  pub phase : ℕ
  pub rest : List Word

-- a gate that adds nothing
abbrev pub drawn : Got Word → Said
drawn g = record { records = g.value ∷ []; phase = 0; rest = g.rest }

-- "NAME[a]"
unfoldable pub read_qubit : List ℕ → Option (List Word) → Option (Got Word)
read_qubit name o = do
  a ← numbered most_qubit (taken (mark 91) (taken name o))
  found a.value (taken (mark 93) (Some a.rest))

-- "cx NAME[a],NAME[b];"
unfoldable pub read_cnot : List ℕ → Option (List Word) → Option (Got Word)
read_cnot name o = do
  a ← read_qubit name (taken cx o)
  b ← read_qubit name (taken (mark 44) (Some a.rest))
  found (packed 1 a.value b.value) (taken (mark 59) (Some b.rest))

-- "NAME[a];", behind `)`
unfoldable pub read_tail : List ℕ → Option (List Word) → Option (Got Word)
read_tail name o = do
  a ← read_qubit name (taken (mark 41) o)
  found a.value (taken (mark 59) (Some a.rest))

-- "u1(", or with another word
unfoldable pub read_opening : List ℕ → Option (List Word) → Option (List Word)
read_opening word o = taken (mark 40) (taken word o)

-- "u1(ANGLE) NAME[a];", or with another word: the qubit and the angle, modulo two turns
pub record TurnSaid : Type 0 where
  pub qubit : ℕ
  pub angle : ℕ
  pub rest : List Word

unfoldable pub read_turn : List ℕ → List ℕ → Option (List Word) → Option TurnSaid
read_turn word name o = do
  k ← read_angle Units (read_opening word o)
  a ← read_tail name (Some k.rest)
  Some (record { qubit = a.value; angle = k.value; rest = a.rest })

-- a rotation "modulo one turn", which adds to the common phase
abbrev pub rotated : ℕ → TurnSaid → Said
rotated phase t = record { records = packed 2 t.qubit (t.angle % turn_in Units) ∷ []; phase = phase; rest = t.rest }

-- "gphase(ANGLE);"
unfoldable pub read_common : Option (List Word) → Option Said
read_common o = do
  k ← read_angle Halves (read_opening gphase o)
  t ← taken (mark 59) (taken (mark 41) (Some k.rest))
  Some (record { records = []; phase = k.value; rest = t })

-- what 3.0 alone has: "`p` and `gphase` too"
unfoldable pub read_newer : Version → List ℕ → Option (List Word) → Option Said
read_newer Two name o = None
read_newer Three name o = option_or (option_map (rotated 0) (read_turn (mark 112) name o)) (read_common o)

-- "`rz` besides `u1`"; in 3.0 it "carries a common phase of minus half its angle"
unfoldable pub read_rotation : Version → List ℕ → Option (List Word) → Option Said
read_rotation v name o =
    option_or (option_map (rotated 0) (read_turn u1 name o))
    (option_or (option_map (λ t. rotated (half_taken v t.angle) t) (read_turn rz name o)) (read_newer v name o))

-- "x NAME[a];" and "h NAME[a];": the record of the kind
unfoldable pub read_single : ℕ → ℕ → List ℕ → Option (List Word) → Option (Got Word)
read_single byte kind name o = do
  a ← read_qubit name (taken (mark byte) o)
  found (packed kind a.value 0) (taken (mark 59) (Some a.rest))

-- a CNOT, an X or a Hadamard
unfoldable pub read_plain : List ℕ → Option (List Word) → Option (Got Word)
read_plain name o = option_or (read_cnot name o) (option_or (read_single 120 3 name o) (read_single 104 4 name o))

unfoldable pub read_gate : Version → List ℕ → Option (List Word) → Option Said
read_gate v name o = option_or (option_map drawn (read_plain name o)) (read_rotation v name o)

-- ---- up to the end of a statement

-- whether the statement in front ends
unfoldable pub has_end : List Word → Bool
has_end [] = false
has_end (w ∷ ws) = either (same w.bytes (mark 59)) (has_end ws)

-- 12, where only the angle is wrong: it begins "u1 (", and directly before its ";" stands ") NAME [a]"; or it begins "gphase (", and there stands ")"

-- what can follow an angle: ") NAME [a] ;", or ") ;" alone
unfoldable pub read_follow : Closing → List ℕ → Option (List Word) → Option (List Word)
read_follow Alone name o = taken (mark 59) (taken (mark 41) o)
read_follow OnQubit name o = left_behind (read_tail name o)

-- it stands in this statement
unfoldable pub ends_in : Closing → List ℕ → List Word → Bool
ends_in closing name [] = false
ends_in closing name (w ∷ ws) = pick (same w.bytes (mark 59)) false (either (is_some (read_follow closing name (Some (w ∷ ws)))) (ends_in closing name ws))

unfoldable pub ends_at : Closing → List ℕ → Option (List Word) → Bool
ends_at closing name None = false
ends_at closing name (Some ws) = ends_in closing name ws

unfoldable pub bad_newer : Version → List ℕ → Option (List Word) → Bool
bad_newer Two name o = false
bad_newer Three name o = either (ends_at OnQubit name (read_opening (mark 112) o)) (ends_at Alone name (read_opening gphase o))

unfoldable pub bad_angle : Version → List ℕ → Option (List Word) → Bool
bad_angle v name o = either (ends_at OnQubit name (read_opening u1 o)) (either (ends_at OnQubit name (read_opening rz o)) (bad_newer v name o))
