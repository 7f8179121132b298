-- The closing behind a way of laying terms changes no sum. Assumes nothing.
use mathlib.Core.Path.{◌≡◌, ◌∙◌}
use mathlib.Core.List.{List, [], ◌∷◌, ◌++◌}
use Prim.Native.Nat.{ℕ}
use native.Mathlib.Omega.{arith}
use Rattle.gates.specs.declared.gate.Gate.{Gate}
use Rattle.gates.specs.declared.gate.Gate.TheVariants.{Cnot, Rotation, X, Bad}
use Rattle.circuit.specs.Circuit.{step, run, given}
use Rattle.circuit.proofs.Steps.{gives-cnot}
use Rattle.circuit.proofs.Circuits.{given-none, given-cons, given-append}
use Rattle.sets.specs.Lists.{All}
use Rattle.chip.specs.Inside.{Coupled}

module _ (near : List ℕ) (Q : ℕ) where
  pub coupled-given : (p : ℕ) (gs : List Gate) (W : List ℕ) → All (Coupled near Q) gs → given p gs W ≡ 0
  unfolding All
  coupled-given p [] W h = given-none p W
  coupled-given p (Cnot c t ∷ gs) W h =
      given-cons p (Cnot c t) gs W ∙ omega (arith, gives-cnot p c t W, coupled-given p gs (step (Cnot c t) W) h.1)
  coupled-given p (Rotation q a ∷ gs) W h = absurd h.0
  coupled-given p (X q ∷ gs) W h = absurd h.0
  coupled-given p (Bad ∷ gs) W h = absurd h.0

  -- the sums are those of what stands before
  pub given-before : (p : ℕ) (gs M : List Gate) (W : List ℕ) → All (Coupled near Q) M → given p (gs ++ M) W ≡ given p gs W
  given-before p gs M W h = given-append p gs M W ∙ omega (arith, coupled-given p M (run gs W) h)
