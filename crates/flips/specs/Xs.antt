-- The X gates of an island (request E3). F has the flip asked for on each wire: 1 where it is to end flipped, else 0.
use Rattle.std.specs.Prelude.{Bool, not, List, [], ◌∷◌, ◌++◌, map, ℕ, zero, suc, eqb, get_or}
use Rattle.sets.specs.Pick.{pick, both}
use Rattle.sets.specs.Bit.{has}
use Rattle.gates.specs.Limits.{most_qubits}
use Rattle.gates.specs.declared.gate.Gate.{Gate}
use Rattle.gates.specs.declared.gate.Gate.TheVariants.{Cnot, Rotation, X, Bad}

-- wire k of Q is to end flipped
unfoldable pub asks_flip : ℕ → List ℕ → ℕ → Bool
asks_flip Q F k = both (has Q k) (not (eqb (get_or F k 0) 0))

-- those below k, ascending
unfoldable pub flipped_to : ℕ → List ℕ → ℕ → List ℕ
flipped_to Q F zero = []
flipped_to Q F (suc k) = flipped_to Q F k ++ pick (asks_flip Q F k) (k ∷ []) []

-- "Flips asked for at the end are laid as X, at most one on a wire"
unfoldable pub xs_on : ℕ → List ℕ → List Gate
xs_on Q F = map X (flipped_to Q F most_qubits)

-- a gate that is no X
unfoldable pub NoX : Gate → Type 0
NoX (Cnot c t) = Unit {0}
NoX (Rotation q a) = Unit {0}
NoX (X q) = ⊥
NoX Bad = Unit {0}
