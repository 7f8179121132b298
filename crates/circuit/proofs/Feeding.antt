-- One gate fed to the wires. Assumes nothing.
use mathlib.Core.Path.{◌≡◌, sym, ap, ap₂, ◌∙◌}
use mathlib.Core.Logic.{◌⊎◌, inl, inr}
use mathlib.Core.List.{List}
use Prim.Native.Nat.{ℕ}
use Rattle.sets.specs.Columns.{cnot}
use Rattle.gates.specs.declared.gate.Gate.{Gate}
use Rattle.gates.specs.declared.gate.Gate.TheVariants.{Cnot, Rotation, X, Bad}
use Rattle.circuit.specs.declared.wires.Wires.{Wires}
use Rattle.circuit.specs.Circuit.{step}
use Rattle.circuit.specs.Flips.{flip_step}
use Rattle.circuit.specs.State.{fed_wires}

module _ (w : Wires) (g : Gate) where
  pub wires-cnot : (c t : ℕ) (xs fs : List ℕ) → g ≡ Cnot c t → xs ≡ cnot c t w.parity → fs ≡ cnot c t w.flip
      → ◌≡◌ {A = Wires} (record { parity = xs; flip = fs }) (fed_wires w g)
  unfolding fed_wires step flip_step
  wires-cnot c t xs fs e h k = ap₂ (λ (ys zs : List ℕ). record { parity = ys; flip = zs }) h k ∙ ap (fed_wires w) (sym e)

  pub wires-x : (q : ℕ) (fs : List ℕ) → g ≡ X q → fs ≡ flip_step (X q) w.flip → ◌≡◌ {A = Wires} (record { parity = w.parity; flip = fs }) (fed_wires w g)
  unfolding fed_wires step
  wires-x q fs e h = ap (λ (zs : List ℕ). record { parity = w.parity; flip = zs }) h ∙ ap (fed_wires w) (sym e)

  pub wires-same : ((q : ℕ) × (a : ℕ) × (g ≡ Rotation q a)) ⊎ (g ≡ Bad) → w ≡ fed_wires w g
  unfolding fed_wires step flip_step
  wires-same (inl (q, a, e)) = ap (fed_wires w) (sym e)
  wires-same (inr e) = ap (fed_wires w) (sym e)
