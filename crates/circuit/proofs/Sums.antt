-- Sums of lists of gates. Assumes nothing.
use mathlib.Core.Path.{◌≡◌, ap, ◌∙◌}
use mathlib.Core.List.{List, [], ◌∷◌, ◌++◌}
use Prim.Native.Nat.{ℕ, ◌+◌, ◌%◌, ◌<◌}
use native.Mathlib.Omega.{arith}
use Rattle.gates.specs.declared.gate.Gate.{Gate}
use Rattle.circuit.specs.Circuit.{step, run, start, gives_on, given_on, sum_of}
use Rattle.circuit.specs.Flips.{flip_step, flip_run, no_flips}

pub sum-small : (p : ℕ) (gs : List Gate) → sum_of p gs < 65536
unfolding sum_of
sum-small p gs = omega arith

-- the later gates find the wires as the earlier ones leave them, flips too
given-on-append : (p : ℕ) (g h : List Gate) (W F : List ℕ) → given_on p (g ++ h) W F ≡ given_on p g W F + given_on p h (run g W) (flip_run g F)
unfolding given_on run flip_run
given-on-append p [] h W F = omega arith
given-on-append p (x ∷ g) h W F = ap (λ (m : ℕ). gives_on p x W F + m) (given-on-append p g h (step x W) (flip_step x F)) ∙ omega arith

pub sum-append : (p : ℕ) (g h : List Gate) → sum_of p (g ++ h) ≡ (sum_of p g + given_on p h (run g start) (flip_run g no_flips)) % 65536
unfolding sum_of
sum-append p g h = ap (λ (m : ℕ). m % 65536) (given-on-append p g h start no_flips) ∙ omega arith
