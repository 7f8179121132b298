-- The forms in which gates are written, and the words of each (requests E1 and E5). Nothing here says how they are read.
use Rattle.std.specs.Prelude.{◌≡◌, Bool, true, false, List, [], ◌∷◌, ◌++◌, ℕ, ◌-◌, ◌%◌, ◌≤◌}
use Rattle.sets.specs.Lists.{All}
use Rattle.gates.specs.Layout.{packed}
use Rattle.circuit.specs.Phase.{phases}
use Rattle.angles.specs.declared.Scale.{Scale}
use Rattle.angles.specs.declared.Scale.TheVariants.{Units, Halves}
use Rattle.angles.specs.Units.{turn_in, most_times, is_over, angle_in, units_of}
use Rattle.lines.specs.Lines.{digits}
use Rattle.versions.specs.declared.Version.{Version}
use Rattle.versions.specs.declared.Version.TheVariants.{Two, Three}
use Rattle.statements.specs.Limits.{most_qubit}
use Rattle.statements.specs.Spelling.{openqasm, numeral, include, library, qreg, qubit, cx, u1, rz, gphase, pi, mark}

-- "0, `pi` or `k*pi`"
pub data Times : Type 0 where
  nought : Times
  once : Times
  many : ℕ → Times

-- "or these over"
pub data Divisor : Type 0 where
  plain : Divisor
  over : ℕ → Divisor

-- "The reader takes `rz` besides `u1`, and in 3.0 `p`": how a rotation is written
pub data Rotor : Type 0 where
  as_u1 : Rotor
  as_rz : Rotor
  as_p : Rotor

-- a gate as it is written, or a common phase: an angle has its minus
pub data Form : Type 0 where
  cnot : ℕ → ℕ → Form
  turn : Rotor → Bool → Times → Divisor → ℕ → Form
  xgate : ℕ → Form
  hadamard : ℕ → Form
  common : Bool → Times → Divisor → Form

-- ---- within the limits

-- "in 3.0 `p` and `gphase` too"
unfoldable pub Newer : Version → Type 0
Newer Two = ⊥
Newer Three = Unit {0}

unfoldable pub Carried : Version → Rotor → Type 0
Carried v as_u1 = Unit {0}
Carried v as_rz = Unit {0}
Carried v as_p = Newer v

unfoldable pub GoodTimes : Scale → Times → Type 0
GoodTimes c nought = Unit {0}
GoodTimes c once = Unit {0}
GoodTimes c (many k) = k ≤ most_times c

unfoldable pub GoodDivisor : Scale → Divisor → Type 0
GoodDivisor c plain = Unit {0}
GoodDivisor c (over d) = is_over c d ≡ true

unfoldable pub GoodForm : Version → Form → Type 0
GoodForm v (cnot a b) = (a ≤ most_qubit) × (b ≤ most_qubit)
GoodForm v (turn r m t o a) = Carried v r × GoodTimes Units t × GoodDivisor Units o × (a ≤ most_qubit)
GoodForm v (xgate a) = a ≤ most_qubit
GoodForm v (hadamard a) = a ≤ most_qubit
GoodForm v (common m t o) = Newer v × GoodTimes Halves t × GoodDivisor Halves o

-- ---- the words

unfoldable pub times_words : Times → List (List ℕ)
times_words nought = mark 48 ∷ []
times_words once = pi ∷ []
times_words (many k) = digits k ∷ mark 42 ∷ pi ∷ []

unfoldable pub divisor_words : Divisor → List (List ℕ)
divisor_words plain = []
divisor_words (over d) = mark 47 ∷ digits d ∷ []

unfoldable pub minus_words : Bool → List (List ℕ)
minus_words true = mark 45 ∷ []
minus_words false = []

unfoldable pub qubit_words : List ℕ → ℕ → List (List ℕ)
qubit_words name a = name ∷ mark 91 ∷ digits a ∷ mark 93 ∷ []

abbrev pub rotor_word : Rotor → List ℕ
rotor_word as_u1 = u1
rotor_word as_rz = rz
rotor_word as_p = mark 112

unfoldable pub form_words : List ℕ → Form → List (List ℕ)
form_words name (cnot a b) = cx ∷ (qubit_words name a ++ (mark 44 ∷ (qubit_words name b ++ (mark 59 ∷ []))))
form_words name (turn r m t o a) =
    rotor_word r ∷ mark 40 ∷ (minus_words m ++ (times_words t ++ (divisor_words o ++ (mark 41 ∷ (qubit_words name a ++ (mark 59 ∷ []))))))
form_words name (xgate a) = mark 120 ∷ (qubit_words name a ++ (mark 59 ∷ []))
form_words name (hadamard a) = mark 104 ∷ (qubit_words name a ++ (mark 59 ∷ []))
form_words name (common m t o) = gphase ∷ mark 40 ∷ (minus_words m ++ (times_words t ++ (divisor_words o ++ (mark 41 ∷ mark 59 ∷ []))))

unfoldable pub forms_words : List ℕ → List Form → List (List ℕ)
forms_words name [] = []
forms_words name (f ∷ fs) = form_words name f ++ forms_words name fs

-- "the version line, the `qelib1.inc` line, one quantum register, in that order"; "3.0 has `stdgates.inc` and `qubit[n]`"
unfoldable pub version_words : Version → List (List ℕ)
version_words v = openqasm ∷ numeral v ∷ mark 59 ∷ []

unfoldable pub include_words : Version → List (List ℕ)
include_words v = include ∷ library v ∷ mark 59 ∷ []

unfoldable pub register_words : Version → List ℕ → ℕ → List (List ℕ)
register_words Two name n = qreg ∷ name ∷ mark 91 ∷ digits n ∷ mark 93 ∷ mark 59 ∷ []
register_words Three name n = qubit ∷ mark 91 ∷ digits n ∷ mark 93 ∷ name ∷ mark 59 ∷ []

unfoldable pub head_words : Version → List ℕ → ℕ → List (List ℕ)
head_words v name n = version_words v ++ (include_words v ++ register_words v name n)

-- no word is `;`
abbrev pub Unended : List (List ℕ) → Type 0
Unended bs = All (λ b. b ≡ mark 59 → ⊥) bs

-- what an angle stands between: "u1 (" and ") NAME [a] ;" with a good qubit, "gphase (" and ") ;"
pub data Frame (v : Version) (name : List ℕ) (opening closing : List (List ℕ)) : Type 0 where
  gate : (r : Rotor) (a : ℕ) → Carried v r → a ≤ most_qubit → opening ≡ rotor_word r ∷ mark 40 ∷ [] → closing ≡ mark 41 ∷ (qubit_words name a ++ (mark 59 ∷ [])) → Frame v name opening closing
  alone : Newer v → opening ≡ gphase ∷ mark 40 ∷ [] → closing ≡ mark 41 ∷ mark 59 ∷ [] → Frame v name opening closing

-- between them stands anything: only the angle can be wrong
pub record OnlyAngle (v : Version) (name : List ℕ) (bs : List (List ℕ)) : Type 0 where
  pub opening : List (List ℕ)
  pub angle : List (List ℕ)
  pub closing : List (List ℕ)
  pub frame : Frame v name opening closing
  pub unended : Unended angle
  pub rest : List (List ℕ)
  pub spelt : bs ≡ opening ++ (angle ++ (closing ++ rest))

-- ---- what they mean

unfoldable pub times_in : Times → ℕ
times_in nought = 0
times_in once = 1
times_in (many k) = k

unfoldable pub divisor_in : Divisor → ℕ
divisor_in plain = 1
divisor_in (over d) = d

-- the record of a gate; a common phase has none
unfoldable pub form_record : Form → List ℕ
form_record (cnot a b) = packed 1 a b ∷ []
form_record (turn r m t o a) = packed 2 a (units_of m (times_in t) (divisor_in o)) ∷ []
form_record (xgate a) = packed 3 a 0 ∷ []
form_record (hadamard a) = packed 4 a 0 ∷ []
form_record (common m t o) = []

unfoldable pub form_records : List Form → List ℕ
form_records [] = []
form_records (f ∷ fs) = form_record f ++ form_records fs

-- "In OpenQASM 2.0's qelib1.inc, `rz` is the same as `u1`. In OpenQASM 3.0's stdgates.inc it carries a common phase of minus half its angle": half of a units are a half units
unfoldable pub half_taken : Version → ℕ → ℕ
half_taken Two a = 0
half_taken Three a = (turn_in Halves - a % turn_in Halves) % turn_in Halves

-- what a form adds to the common phase, in half units
unfoldable pub form_phase : Version → Form → ℕ
form_phase v (cnot a b) = 0
form_phase v (turn as_u1 m t o a) = 0
form_phase v (turn as_rz m t o a) = half_taken v (angle_in Units m (times_in t) (divisor_in o))
form_phase v (turn as_p m t o a) = 0
form_phase v (xgate a) = 0
form_phase v (hadamard a) = 0
form_phase v (common m t o) = angle_in Halves m (times_in t) (divisor_in o)

unfoldable pub phase_of_forms : Version → List Form → ℕ
phase_of_forms v [] = 0
phase_of_forms v (f ∷ fs) = phases (form_phase v f) (phase_of_forms v fs)

-- the angle of an `rz`, modulo two turns; of anything else nothing
unfoldable pub rz_angle : Form → ℕ
rz_angle (cnot a b) = 0
rz_angle (turn as_u1 m t o a) = 0
rz_angle (turn as_rz m t o a) = angle_in Units m (times_in t) (divisor_in o)
rz_angle (turn as_p m t o a) = 0
rz_angle (xgate a) = 0
rz_angle (hadamard a) = 0
rz_angle (common m t o) = 0

-- "the sum of the `rz` angles", modulo two turns: as half units, half of it modulo one
unfoldable pub rz_angles : List Form → ℕ
rz_angles [] = 0
rz_angles (f ∷ fs) = phases (rz_angle f) (rz_angles fs)
