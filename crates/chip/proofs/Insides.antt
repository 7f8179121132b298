-- Gates inside a set of qubits. Assumes nothing.
use mathlib.Core.List.{List}
use Prim.Native.Nat.{ℕ}
use Rattle.sets.specs.Bit.{Sub}
use Rattle.gates.specs.declared.gate.Gate.{Gate}
use Rattle.gates.specs.declared.gate.Gate.TheVariants.{Cnot, Rotation, X, Bad}
use Rattle.sets.specs.Lists.{All}
use Rattle.sets.proofs.Lists.{all_map}
use Rattle.chip.specs.Inside.{Inside, Coupled}

pub coupled-inside : (near : List ℕ) (Q : ℕ) (gs : List Gate) → All (Coupled near Q) gs → All (Inside near Q) gs
coupled-inside near Q = all_map (Coupled near Q) (Inside near Q) one
  where
    one : (g : Gate) → Coupled near Q g → Inside near Q g
    one (Cnot c t) h = h
    one (Rotation q a) h = absurd h
    one (X q) h = absurd h
    one Bad h = absurd h

pub coupled-up : (near : List ℕ) (S R : ℕ) → Sub S R → (gs : List Gate) → All (Coupled near S) gs → All (Coupled near R) gs
coupled-up near S R f = all_map (Coupled near S) (Coupled near R) one
  where
    one : (g : Gate) → Coupled near S g → Coupled near R g
    one (Cnot c t) h = (f c h.0, f t h.1, h.2, h.3)
    one (Rotation q a) h = absurd h
    one (X q) h = absurd h
    one Bad h = absurd h
