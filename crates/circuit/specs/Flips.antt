-- Flips (request E3): "The state of a wire gains a flip", 1 where the wire is flipped and 0 where it is not.
use Rattle.std.specs.Prelude.{List, [], ◌∷◌, ℕ, get_or, set, replicate}
use Rattle.std.specs.Int.Bits.{bit_xor}
use Rattle.sets.specs.Columns.{cnot}
use Rattle.gates.specs.Limits.{most_qubits}
use Rattle.gates.specs.declared.gate.Gate.{Gate}
use Rattle.gates.specs.declared.gate.Gate.TheVariants.{Cnot, Rotation, X, Bad}

-- "A CNOT adds its control's flip to its target's"; an X turns its wire's over
unfoldable pub flip_step : Gate → List ℕ → List ℕ
flip_step (Cnot c t) F = cnot c t F
flip_step (Rotation q a) F = F
flip_step (X q) F = set F q (bit_xor 1 (get_or F q 0))
flip_step Bad F = F

unfoldable pub flip_run : List Gate → List ℕ → List ℕ
flip_run [] F = F
flip_run (g ∷ gs) F = flip_run gs (flip_step g F)

-- no wire starts flipped
unfoldable pub no_flips : List ℕ
no_flips = replicate most_qubits 0

-- the final flip of wire i
unfoldable pub flip_of : List Gate → ℕ → ℕ
flip_of gs i = get_or (flip_run gs no_flips) i 0
