-- A circuit as it is written in OpenQASM 2.0 or 3.0 (requests E1 and E5), one statement a line, LF at the end of each. In a pattern `#` (35) stands for a number.
use Rattle.std.specs.Prelude.{ℕ, ◌%◌, List, [], ◌∷◌, ◌++◌, eqb}
use Rattle.sets.specs.Pick.{pick}
use Rattle.gates.specs.Layout.{kind_in, a_in, b_in}
use Rattle.lines.specs.Pattern.{filled}
use Rattle.versions.specs.declared.Version.{Version}
use Rattle.versions.specs.declared.Version.TheVariants.{Two, Three}

-- "`cx` .. on indexed qubits", of the register that we call `q`: `cx q[#],q[#];`
abbrev pub cx_pattern : List ℕ
cx_pattern = 99 ∷ 120 ∷ 32 ∷ 113 ∷ 91 ∷ 35 ∷ 93 ∷ 44 ∷ 113 ∷ 91 ∷ 35 ∷ 93 ∷ 59 ∷ 10 ∷ []

-- "We write `u1(k*pi/32768)`", "We write `p` for 3.0": `u1(#*pi/32768) q[#];`, `p(#*pi/32768) q[#];`
abbrev pub turn_pattern : Version → List ℕ
turn_pattern Two = 117 ∷ 49 ∷ 40 ∷ 35 ∷ 42 ∷ 112 ∷ 105 ∷ 47 ∷ 51 ∷ 50 ∷ 55 ∷ 54 ∷ 56 ∷ 41 ∷ 32 ∷ 113 ∷ 91 ∷ 35 ∷ 93 ∷ 59 ∷ 10 ∷ []
turn_pattern Three = 112 ∷ 40 ∷ 35 ∷ 42 ∷ 112 ∷ 105 ∷ 47 ∷ 51 ∷ 50 ∷ 55 ∷ 54 ∷ 56 ∷ 41 ∷ 32 ∷ 113 ∷ 91 ∷ 35 ∷ 93 ∷ 59 ∷ 10 ∷ []

-- an X, "OpenQASM `x`" (request E3): `x q[#];`
abbrev pub x_pattern : List ℕ
x_pattern = 120 ∷ 32 ∷ 113 ∷ 91 ∷ 35 ∷ 93 ∷ 59 ∷ 10 ∷ []

-- a Hadamard, "OpenQASM `h`" (request E12): `h q[#];`
abbrev pub h_pattern : List ℕ
h_pattern = 104 ∷ 32 ∷ 113 ∷ 91 ∷ 35 ∷ 93 ∷ 59 ∷ 10 ∷ []

-- the line of a record of the kind: 1 is a CNOT, 2 a rotation, 3 an X, 4 a Hadamard
unfoldable pub pattern : Version → ℕ → List ℕ
pattern v kind = pick (eqb kind 1) cx_pattern (pick (eqb kind 2) (turn_pattern v) (pick (eqb kind 3) x_pattern h_pattern))

-- its numbers: control and target; of a rotation "k", its units, before the qubit; of an X and a Hadamard the qubit, first of two
unfoldable pub numbers_in : ℕ → List ℕ
numbers_in x = pick (eqb (kind_in x) 2) (b_in x ∷ a_in x ∷ []) (a_in x ∷ b_in x ∷ [])

-- the line of a record, as `cx q[0],q[1];` or `u1(8192*pi/32768) q[1];`
unfoldable pub gate_text : Version → ℕ → List ℕ
gate_text v x = filled (pattern v (kind_in x)) (numbers_in x)

-- the lines of records, one behind another
unfoldable pub gates_text : Version → List ℕ → List ℕ
gates_text v [] = []
gates_text v (x ∷ xs) = gate_text v x ++ gates_text v xs

-- "the version line, the `qelib1.inc` line, one quantum register, in that order": `OPENQASM 2.0;`, `include "qelib1.inc";`, `qreg q[#];`;
-- "3.0 has `stdgates.inc` and `qubit[n]`": `OPENQASM 3.0;`, `include "stdgates.inc";`, `qubit[#] q;`
abbrev pub head_pattern : Version → List ℕ
head_pattern Two = 79 ∷ 80 ∷ 69 ∷ 78 ∷ 81 ∷ 65 ∷ 83 ∷ 77 ∷ 32 ∷ 50 ∷ 46 ∷ 48 ∷ 59 ∷ 10 ∷ 105 ∷ 110 ∷ 99 ∷ 108 ∷ 117 ∷ 100 ∷ 101 ∷ 32 ∷ 34 ∷ 113 ∷ 101 ∷ 108 ∷ 105 ∷ 98 ∷ 49 ∷ 46 ∷ 105 ∷ 110 ∷ 99 ∷ 34 ∷ 59 ∷ 10 ∷ 113 ∷ 114 ∷ 101 ∷ 103 ∷ 32 ∷ 113 ∷ 91 ∷ 35 ∷ 93 ∷ 59 ∷ 10 ∷ []
head_pattern Three = 79 ∷ 80 ∷ 69 ∷ 78 ∷ 81 ∷ 65 ∷ 83 ∷ 77 ∷ 32 ∷ 51 ∷ 46 ∷ 48 ∷ 59 ∷ 10 ∷ 105 ∷ 110 ∷ 99 ∷ 108 ∷ 117 ∷ 100 ∷ 101 ∷ 32 ∷ 34 ∷ 115 ∷ 116 ∷ 100 ∷ 103 ∷ 97 ∷ 116 ∷ 101 ∷ 115 ∷ 46 ∷ 105 ∷ 110 ∷ 99 ∷ 34 ∷ 59 ∷ 10 ∷ 113 ∷ 117 ∷ 98 ∷ 105 ∷ 116 ∷ 91 ∷ 35 ∷ 93 ∷ 32 ∷ 113 ∷ 59 ∷ 10 ∷ []

-- the head of a circuit on n qubits
unfoldable pub head_text : Version → ℕ → List ℕ
head_text v n = filled (head_pattern v) (n ∷ [])

-- "and `gphase(g*pi/65536)`": `gphase(#*pi/65536);`. OpenQASM 2.0 has no such statement; there stands a comment: `// common phase #*pi/65536`
abbrev pub phase_pattern : Version → List ℕ
phase_pattern Two = 47 ∷ 47 ∷ 32 ∷ 99 ∷ 111 ∷ 109 ∷ 109 ∷ 111 ∷ 110 ∷ 32 ∷ 112 ∷ 104 ∷ 97 ∷ 115 ∷ 101 ∷ 32 ∷ 35 ∷ 42 ∷ 112 ∷ 105 ∷ 47 ∷ 54 ∷ 53 ∷ 53 ∷ 51 ∷ 54 ∷ 10 ∷ []
phase_pattern Three = 103 ∷ 112 ∷ 104 ∷ 97 ∷ 115 ∷ 101 ∷ 40 ∷ 35 ∷ 42 ∷ 112 ∷ 105 ∷ 47 ∷ 54 ∷ 53 ∷ 53 ∷ 51 ∷ 54 ∷ 41 ∷ 59 ∷ 10 ∷ []

-- the line of a common phase, in half units modulo one turn, "where g is not 0"
unfoldable pub phase_text : Version → ℕ → List ℕ
phase_text v g = pick (eqb (g % 131072) 0) [] (filled (phase_pattern v) (g % 131072 ∷ []))

-- the text of a circuit: its head, its gates, and last its common phase
unfoldable pub circuit_text : Version → ℕ → List ℕ → ℕ → List ℕ
circuit_text v n gates g = head_text v n ++ (gates_text v gates ++ phase_text v g)
