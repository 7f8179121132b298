-- The examples of requests E1 and E5, of what reading answers. `-pi/4` is the request's own; the others are the ends and the traps.
use Rattle.std.specs.Prelude.{◌≡◌, List, [], ◌∷◌, ◌++◌, ℕ, Err}
use Rattle.gates.specs.Layout.{packed}
use Rattle.gates.specs.Example.{Example}
use Rattle.verdicts.specs.declared.verdict.Refusal.TheVariants.{Angle, Statement, Unversioned}
use Rattle.versions.specs.declared.Version.TheVariants.{Two, Three}
use Rattle.qasm_reading.specs.Parsing.{circuit, parsed_circuit}
use Rattle.qasm_reading.specs.Readings.{judged_circuit_text}

-- `OPENQASM 2.0;`, `include "qelib1.inc";`, `qreg q[2];`, a line each
abbrev pub three_lines : List ℕ
three_lines =
    (79 ∷ 80 ∷ 69 ∷ 78 ∷ 81 ∷ 65 ∷ 83 ∷ 77 ∷ 32 ∷ 50 ∷ 46 ∷ 48 ∷ 59 ∷ 10 ∷ [])
    ++ (105 ∷ 110 ∷ 99 ∷ 108 ∷ 117 ∷ 100 ∷ 101 ∷ 32 ∷ 34 ∷ 113 ∷ 101 ∷ 108 ∷ 105 ∷ 98 ∷ 49 ∷ 46 ∷ 105 ∷ 110 ∷ 99 ∷ 34 ∷ 59 ∷ 10 ∷ [])
    ++ (113 ∷ 114 ∷ 101 ∷ 103 ∷ 32 ∷ 113 ∷ 91 ∷ 50 ∷ 93 ∷ 59 ∷ 10 ∷ [])

-- `u1(ANGLE) q[1];` behind them
abbrev pub u1_of : List ℕ → List ℕ
u1_of angle = three_lines ++ ((117 ∷ 49 ∷ 40 ∷ []) ++ (angle ++ (41 ∷ 32 ∷ 113 ∷ 91 ∷ 49 ∷ 93 ∷ 59 ∷ 10 ∷ [])))

-- the angle is read as k units
abbrev pub ReadsUnits : List ℕ → ℕ → Type 0
ReadsUnits angle k = parsed_circuit (u1_of angle) ≡ circuit Two 2 (packed 2 1 k ∷ []) 0

-- "`-pi/4` is -8,192 units, so 57,344"
abbrev pub negative : Example
negative = record { number = 15; says = ReadsUnits (45 ∷ 112 ∷ 105 ∷ 47 ∷ 52 ∷ []) 57344 }

-- 0, -0, pi, 65535*pi, -65535*pi, pi/32768, 3*pi/2
abbrev pub angle_ends : Example
angle_ends = record {
  number = 16;
  says = ReadsUnits (48 ∷ []) 0
      × ReadsUnits (45 ∷ 48 ∷ []) 0
      × ReadsUnits (112 ∷ 105 ∷ []) 32768
      × ReadsUnits (54 ∷ 53 ∷ 53 ∷ 51 ∷ 53 ∷ 42 ∷ 112 ∷ 105 ∷ []) 32768
      × ReadsUnits (45 ∷ 54 ∷ 53 ∷ 53 ∷ 51 ∷ 53 ∷ 42 ∷ 112 ∷ 105 ∷ []) 32768
      × ReadsUnits (112 ∷ 105 ∷ 47 ∷ 51 ∷ 50 ∷ 55 ∷ 54 ∷ 56 ∷ []) 1
      × ReadsUnits (51 ∷ 42 ∷ 112 ∷ 105 ∷ 47 ∷ 50 ∷ []) 49152;
}

-- a text that ends before the register: 13, place 0
abbrev pub ends_early : Example
ends_early = record { number = 17; says = (room : ℕ) → judged_circuit_text (79 ∷ 80 ∷ 69 ∷ 78 ∷ 81 ∷ 65 ∷ 83 ∷ 77 ∷ 32 ∷ 50 ∷ 46 ∷ 48 ∷ 59 ∷ 10 ∷ 105 ∷ 110 ∷ 99 ∷ 108 ∷ 117 ∷ 100 ∷ 101 ∷ []) room ≡ Err (Statement 0) }

-- both faults in one statement, `u1(pi/3) q[256];`: 13 on its line; the angle alone, `u1(pi/3) q[255];`: 12
abbrev pub both_faults : Example
both_faults = record {
  number = 18;
  says = (room : ℕ) → (judged_circuit_text (three_lines ++ (117 ∷ 49 ∷ 40 ∷ 112 ∷ 105 ∷ 47 ∷ 51 ∷ 41 ∷ 32 ∷ 113 ∷ 91 ∷ 50 ∷ 53 ∷ 54 ∷ 93 ∷ 59 ∷ [])) room ≡ Err (Statement 4))
      × (judged_circuit_text (three_lines ++ (117 ∷ 49 ∷ 40 ∷ 112 ∷ 105 ∷ 47 ∷ 51 ∷ 41 ∷ 32 ∷ 113 ∷ 91 ∷ 50 ∷ 53 ∷ 53 ∷ 93 ∷ 59 ∷ [])) room ≡ Err (Angle 4));
}

-- a semicolon in a comment ends nothing: `cx q[0], // to;` and `q[1];` on the next line
abbrev pub in_comment : Example
in_comment = record {
  number = 19;
  says = parsed_circuit (three_lines ++ (99 ∷ 120 ∷ 32 ∷ 113 ∷ 91 ∷ 48 ∷ 93 ∷ 44 ∷ 32 ∷ 47 ∷ 47 ∷ 32 ∷ 116 ∷ 111 ∷ 59 ∷ 10 ∷ 113 ∷ 91 ∷ 49 ∷ 93 ∷ 59 ∷ 10 ∷ [])) ≡ circuit Two 2 (packed 1 0 1 ∷ []) 0;
}

-- a statement over three lines has the line on which it starts: `u1(`, `pi/3`, `) q[1];`
abbrev pub over_lines : Example
over_lines = record { number = 20; says = (room : ℕ) → judged_circuit_text (three_lines ++ (117 ∷ 49 ∷ 40 ∷ 10 ∷ 112 ∷ 105 ∷ 47 ∷ 51 ∷ 10 ∷ 41 ∷ 32 ∷ 113 ∷ 91 ∷ 49 ∷ 93 ∷ 59 ∷ 10 ∷ [])) room ≡ Err (Angle 4) }

-- ---- of request E5

-- `OPENQASM 3.0;`, `include "stdgates.inc";`, `qubit[1] q;`, a line each
abbrev pub three_newer : List ℕ
three_newer =
    (79 ∷ 80 ∷ 69 ∷ 78 ∷ 81 ∷ 65 ∷ 83 ∷ 77 ∷ 32 ∷ 51 ∷ 46 ∷ 48 ∷ 59 ∷ 10 ∷ [])
    ++ (105 ∷ 110 ∷ 99 ∷ 108 ∷ 117 ∷ 100 ∷ 101 ∷ 32 ∷ 34 ∷ 115 ∷ 116 ∷ 100 ∷ 103 ∷ 97 ∷ 116 ∷ 101 ∷ 115 ∷ 46 ∷ 105 ∷ 110 ∷ 99 ∷ 34 ∷ 59 ∷ 10 ∷ [])
    ++ (113 ∷ 117 ∷ 98 ∷ 105 ∷ 116 ∷ 91 ∷ 49 ∷ 93 ∷ 32 ∷ 113 ∷ 59 ∷ 10 ∷ [])

-- `rz(ANGLE) q[0];`
abbrev pub rz_of : List ℕ → List ℕ
rz_of angle = (114 ∷ 122 ∷ 40 ∷ []) ++ (angle ++ (41 ∷ 32 ∷ 113 ∷ 91 ∷ 48 ∷ 93 ∷ 59 ∷ 10 ∷ []))

-- these statements behind them are read as these records and this common phase
abbrev pub Reads : List ℕ → List ℕ → ℕ → Type 0
Reads statements records phase = parsed_circuit (three_newer ++ statements) ≡ circuit Three 1 records phase

-- "an angle is kept modulo two turns until the common phase is taken": `rz(2*pi)` is the record 0 and half a turn of common phase, `rz(4*pi)` nothing, `rz(pi)` twice half a turn;
-- `rz(-pi/32768)` takes one half unit less than a turn
abbrev pub rz_examples : Example
rz_examples = record {
  number = 21;
  says = Reads (rz_of (50 ∷ 42 ∷ 112 ∷ 105 ∷ [])) (packed 2 0 0 ∷ []) 65536
      × Reads (rz_of (52 ∷ 42 ∷ 112 ∷ 105 ∷ [])) (packed 2 0 0 ∷ []) 0
      × Reads (rz_of (112 ∷ 105 ∷ []) ++ rz_of (112 ∷ 105 ∷ [])) (packed 2 0 32768 ∷ packed 2 0 32768 ∷ []) 65536
      × Reads (rz_of (45 ∷ 112 ∷ 105 ∷ 47 ∷ 51 ∷ 50 ∷ 55 ∷ 54 ∷ 56 ∷ [])) (packed 2 0 65535 ∷ []) 1;
}

-- "the latter's k up to 131,071 over up to 65536": `gphase(131071*pi/65536);`
abbrev pub gphase_example : Example
gphase_example = record { number = 22; says = Reads (103 ∷ 112 ∷ 104 ∷ 97 ∷ 115 ∷ 101 ∷ 40 ∷ 49 ∷ 51 ∷ 49 ∷ 48 ∷ 55 ∷ 49 ∷ 42 ∷ 112 ∷ 105 ∷ 47 ∷ 54 ∷ 53 ∷ 53 ∷ 51 ∷ 54 ∷ 41 ∷ 59 ∷ 10 ∷ []) [] 131071 }

-- "14, a version line missing or other than 2.0 or 3.0, place 1": an empty text, `OPENQASM 3;` behind an empty line, `OPENQASM 2.0` without its `;`
abbrev pub version_example : Example
version_example = record {
  number = 23;
  says = (room : ℕ) → (judged_circuit_text [] room ≡ Err Unversioned)
      × (judged_circuit_text (10 ∷ 79 ∷ 80 ∷ 69 ∷ 78 ∷ 81 ∷ 65 ∷ 83 ∷ 77 ∷ 32 ∷ 51 ∷ 59 ∷ []) room ≡ Err Unversioned)
      × (judged_circuit_text (79 ∷ 80 ∷ 69 ∷ 78 ∷ 81 ∷ 65 ∷ 83 ∷ 77 ∷ 32 ∷ 50 ∷ 46 ∷ 48 ∷ []) room ≡ Err Unversioned);
}

abbrev pub qasm_examples : List Example
qasm_examples = negative ∷ angle_ends ∷ ends_early ∷ both_faults ∷ in_comment ∷ over_lines ∷ rz_examples ∷ gphase_example ∷ version_example ∷ []
