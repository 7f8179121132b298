-- Counts, depth and the bound of a list of gates (document 01, "Records and refusals").
use Rattle.std.specs.Prelude.{List, [], ◌∷◌, ℕ, suc, ◌+◌, ◌-◌, ◌*◌, max, leb, get_or, length, set, replicate}
use Rattle.sets.specs.Pick.{pick}
use Rattle.gates.specs.Limits.{most_qubits, most_parities}
use Rattle.gates.specs.declared.gate.Gate.{Gate}
use Rattle.gates.specs.declared.gate.Gate.TheVariants.{Cnot, Rotation, X, Bad}

-- the sum of a weight over the gates
unfoldable pub tally : (Gate → ℕ) → List Gate → ℕ
tally f [] = 0
tally f (g ∷ gs) = f g + tally f gs

abbrev pub one_cnot : Gate → ℕ
one_cnot (Cnot c t) = 1
one_cnot (Rotation q a) = 0
one_cnot (X q) = 0
one_cnot Bad = 0

abbrev pub one_rotation : Gate → ℕ
one_rotation (Cnot c t) = 0
one_rotation (Rotation q a) = 1
one_rotation (X q) = 0
one_rotation Bad = 0

abbrev pub one_x : Gate → ℕ
one_x (Cnot c t) = 0
one_x (Rotation q a) = 0
one_x (X q) = 1
one_x Bad = 0

unfoldable pub cnots_of : List Gate → ℕ
cnots_of gs = tally one_cnot gs

unfoldable pub rotations_of : List Gate → ℕ
rotations_of gs = tally one_rotation gs

unfoldable pub xs_of : List Gate → ℕ
xs_of gs = tally one_x gs

-- L is the layer of the last CNOT on each wire, 0 where it has none. A CNOT on the wires c and t goes one layer later than both
unfoldable pub raised : ℕ → ℕ → List ℕ → List ℕ
raised c t L = set (set L c (suc (max (get_or L c 0) (get_or L t 0)))) t (suc (max (get_or L c 0) (get_or L t 0)))

-- "put each gate, in order, in the earliest layer later than every earlier gate that shares a qubit with it", where "only CNOTs take a layer"
unfoldable pub layered : Gate → List ℕ → List ℕ
layered (Cnot c t) L = raised c t L
layered (Rotation q a) L = L
layered (X q) L = L
layered Bad L = L

unfoldable pub layers_from : List Gate → List ℕ → List ℕ
layers_from [] L = L
layers_from (g ∷ gs) L = layers_from gs (layered g L)

unfoldable pub highest : List ℕ → ℕ
highest [] = 0
highest (x ∷ xs) = max x (highest xs)

-- the layers after more gates; where their number might not fit, as for no list that a memory holds, they stay as they were
unfoldable pub layers_after : List Gate → List ℕ → List ℕ
layers_after gs L = pick (leb (highest L + length gs) 18446744073709551615) (layers_from gs L) L

-- "the depth is the number of layers, 0 for no gates"
unfoldable pub depth_of : List Gate → ℕ
depth_of gs = highest (layers_from gs (replicate most_qubits 0))

-- "With t terms, laying needs B = 2(n-1)t + t + 2n(n-1) output records", and for X gates "B grows by n"
unfoldable pub bound_of : ℕ → ℕ → ℕ
bound_of n t = 2 * (n - 1) * t + t + 2 * n * (n - 1) + n

-- "For n = 20, t = 256, B is" 10,764: the largest B of a stretch
abbrev pub largest : ℕ
largest = bound_of most_qubits most_parities
