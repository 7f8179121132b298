-- The words of OpenQASM 2.0 and 3.0 that we carry, as bytes (requests E1 and E5).
use Rattle.std.specs.Prelude.{List, [], ◌∷◌, ℕ}
use Rattle.versions.specs.declared.Version.{Version}
use Rattle.versions.specs.declared.Version.TheVariants.{Two, Three}

-- `OPENQASM`
abbrev pub openqasm : List ℕ
openqasm = 79 ∷ 80 ∷ 69 ∷ 78 ∷ 81 ∷ 65 ∷ 83 ∷ 77 ∷ []

-- `2.0`, `3.0`
abbrev pub numeral : Version → List ℕ
numeral Two = 50 ∷ 46 ∷ 48 ∷ []
numeral Three = 51 ∷ 46 ∷ 48 ∷ []

-- `include`
abbrev pub include : List ℕ
include = 105 ∷ 110 ∷ 99 ∷ 108 ∷ 117 ∷ 100 ∷ 101 ∷ []

-- `"qelib1.inc"`, `"stdgates.inc"`
abbrev pub library : Version → List ℕ
library Two = 34 ∷ 113 ∷ 101 ∷ 108 ∷ 105 ∷ 98 ∷ 49 ∷ 46 ∷ 105 ∷ 110 ∷ 99 ∷ 34 ∷ []
library Three = 34 ∷ 115 ∷ 116 ∷ 100 ∷ 103 ∷ 97 ∷ 116 ∷ 101 ∷ 115 ∷ 46 ∷ 105 ∷ 110 ∷ 99 ∷ 34 ∷ []

-- `qreg`, `qubit`
abbrev pub qreg : List ℕ
qreg = 113 ∷ 114 ∷ 101 ∷ 103 ∷ []

abbrev pub qubit : List ℕ
qubit = 113 ∷ 117 ∷ 98 ∷ 105 ∷ 116 ∷ []

-- `cx`, `u1`, `rz`, `gphase`, `pi`
abbrev pub cx : List ℕ
cx = 99 ∷ 120 ∷ []

abbrev pub u1 : List ℕ
u1 = 117 ∷ 49 ∷ []

abbrev pub rz : List ℕ
rz = 114 ∷ 122 ∷ []

abbrev pub gphase : List ℕ
gphase = 103 ∷ 112 ∷ 104 ∷ 97 ∷ 115 ∷ 101 ∷ []

abbrev pub pi : List ℕ
pi = 112 ∷ 105 ∷ []

-- a word of one byte: `; , ( ) [ ] * / -` are 59 44 40 41 91 93 42 47 45, `0` is 48, `x`, `h` and `p` are 120, 104 and 112
abbrev pub mark : ℕ → List ℕ
mark x = x ∷ []
