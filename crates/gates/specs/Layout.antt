-- Records: what a 32-bit number says, and the number of a gate (document 01, "Records and refusals").
use Rattle.std.specs.Prelude.{◌≢◌, Bool, true, false, List, map, Option, Some, None, ℕ, ◌+◌, ◌*◌, ◌/◌, ◌%◌, ◌<◌, ltb, eqb}
use Rattle.sets.specs.Pick.{pick}
use Rattle.gates.specs.declared.gate.Gate.{Gate}
use Rattle.gates.specs.declared.gate.Gate.TheVariants.{Cnot, Rotation, X, Bad}
use Rattle.gates.specs.declared.coupler.Coupler.{Coupler}

-- "A record is a 32-bit number: kind x 16,777,216 + a x 65,536 + b."
unfoldable pub packed : ℕ → ℕ → ℕ → ℕ
packed kind a b = kind * 16777216 + a * 65536 + b

unfoldable pub kind_in : ℕ → ℕ
kind_in x = x / 16777216

unfoldable pub a_in : ℕ → ℕ
a_in x = x / 65536 % 256

unfoldable pub b_in : ℕ → ℕ
b_in x = x % 65536

-- "kind 1 a CNOT with control a, target b"; bad with "a qubit n or more, or control = target"
unfoldable pub cnot_of : ℕ → ℕ → ℕ → Gate
cnot_of n a b = pick (ltb a n) (pick (ltb b n) (pick (eqb a b) Bad (Cnot a b)) Bad) Bad

-- "kind 2 a rotation on qubit a by b units"; bad with "a qubit n or more"
unfoldable pub rotation_of : ℕ → ℕ → ℕ → Gate
rotation_of n a b = pick (ltb a n) (Rotation a b) Bad

-- "X is record kind 3 with b = 0"; bad with "a bad qubit or b not 0"
unfoldable pub x_of : ℕ → ℕ → ℕ → Gate
x_of n a b = pick (ltb a n) (pick (eqb b 0) (X a) Bad) Bad

-- the gate of a record on n qubits; any other record is bad
unfoldable pub gate_of : ℕ → ℕ → Gate
gate_of n x = pick (eqb (kind_in x) 1) (cnot_of n (a_in x) (b_in x)) (pick (eqb (kind_in x) 2) (rotation_of n (a_in x) (b_in x)) (pick (eqb (kind_in x) 3) (x_of n (a_in x) (b_in x)) Bad))

abbrev pub gates_of : ℕ → List ℕ → List Gate
gates_of n xs = map (gate_of n) xs

-- the record of a gate; 0, which is no gate's, where it is bad
unfoldable pub record_of : Gate → ℕ
record_of (Cnot c t) = packed 1 (c % 256) (t % 65536)
record_of (Rotation q a) = packed 2 (q % 256) (a % 65536)
record_of (X q) = packed 3 (q % 256) 0
record_of Bad = 0

-- a gate on n qubits
unfoldable pub Good : ℕ → Gate → Type 0
Good n (Cnot c t) = (c < n) × (t < n) × (c ≢ t)
Good n (Rotation q a) = (q < n) × (a < 65536)
Good n (X q) = q < n
Good n Bad = ⊥

abbrev pub is_bad : Gate → Bool
is_bad (Cnot c t) = false
is_bad (Rotation q a) = false
is_bad (X q) = false
is_bad Bad = true

-- a coupler of the ends a and b
abbrev pub with_ends : ℕ → ℕ → Option Coupler
with_ends a b = Some (record { a = a; b = b })

-- no coupler
abbrev pub no_coupler : Option Coupler
no_coupler = None

-- "Kind 0 is a coupler a,b"; wrong with "an end n or more, or equal ends", or of another kind
unfoldable pub coupler_of : ℕ → ℕ → Option Coupler
coupler_of n x =
    pick (eqb (kind_in x) 0)
    (pick (ltb (a_in x) n) (pick (ltb (b_in x) n) (pick (eqb (a_in x) (b_in x)) no_coupler (with_ends (a_in x) (b_in x))) no_coupler) no_coupler) no_coupler

abbrev pub is_wrong : Option Coupler → Bool
is_wrong (Some c) = false
is_wrong None = true
