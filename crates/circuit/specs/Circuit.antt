-- What a list of gates does to the parities on the wires, and the angle that it gives to each parity (document 01, "Meaning of a circuit"; request E3 for flipped wires).
use Rattle.std.specs.Prelude.{◌≢◌, List, [], ◌∷◌, ℕ, ◌+◌, ◌-◌, ◌%◌, eqb, get_or}
use Rattle.sets.specs.Pick.{pick}
use Rattle.sets.specs.Columns.{cnot, units}
use Rattle.gates.specs.Limits.{most_qubits}
use Rattle.gates.specs.declared.gate.Gate.{Gate}
use Rattle.gates.specs.declared.gate.Gate.TheVariants.{Cnot, Rotation, X, Bad}
use Rattle.circuit.specs.Flips.{flip_step, no_flips}

-- "A CNOT leaves its control's parity and makes its target's parity the exclusive or of the two. A rotation changes no parity." Nor does an X
unfoldable pub step : Gate → List ℕ → List ℕ
step (Cnot c t) W = cnot c t W
step (Rotation q a) W = W
step (X q) W = W
step Bad W = W

-- "feeding gates one by one to the state of the wires, which comes back changed"
unfoldable pub run : List Gate → List ℕ → List ℕ
run [] W = W
run (g ∷ gs) W = run gs (step g W)

-- "Wire i starts with parity 2^i."
unfoldable pub start : List ℕ
start = units most_qubits

-- the final parity of wire i
unfoldable pub final_of : List Gate → ℕ → ℕ
final_of gs i = get_or (run gs start) i 0

-- ---- angles, where no wire is flipped

-- the angle that one gate gives to parity p: a rotation gives its own to the parity that its wire bears "at that moment"
unfoldable pub gives : ℕ → Gate → List ℕ → ℕ
gives p (Cnot c t) W = 0
gives p (Rotation q a) W = pick (eqb (get_or W q 0) p) a 0
gives p (X q) W = 0
gives p Bad W = 0

-- the angles given to parity p from the wires W on, not reduced
unfoldable pub given : ℕ → List Gate → List ℕ → ℕ
given p [] W = 0
given p (g ∷ gs) W = gives p g W + given p gs (step g W)

-- ---- angles, where F has the wires' flips

-- what an angle a on a wire of flip f gives to the wire's parity: a flipped wire "takes a from its parity's sum, modulo one turn"
unfoldable pub takes : ℕ → ℕ → ℕ
takes f a = pick (eqb f 0) a ((65536 - a % 65536) % 65536)

unfoldable pub gives_on : ℕ → Gate → List ℕ → List ℕ → ℕ
gives_on p (Cnot c t) W F = 0
gives_on p (Rotation q a) W F = pick (eqb (get_or W q 0) p) (takes (get_or F q 0) a) 0
gives_on p (X q) W F = 0
gives_on p Bad W F = 0

unfoldable pub given_on : ℕ → List Gate → List ℕ → List ℕ → ℕ
given_on p [] W F = 0
given_on p (g ∷ gs) W F = gives_on p g W F + given_on p gs (step g W) (flip_step g F)

-- "The sum of a parity is the sum of all angles on wires that bear it at that moment, modulo 65,536."
unfoldable pub sum_of : ℕ → List Gate → ℕ
sum_of p gs = given_on p gs start no_flips % 65536

-- "A term is a parity whose sum is not 0."
unfoldable pub Term : List Gate → ℕ → Type 0
Term gs p = sum_of p gs ≢ 0
