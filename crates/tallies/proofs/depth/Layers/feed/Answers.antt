-- `tallies::depth::Layers::feed` meets its contract: only a CNOT takes a layer. Assumes nothing.
use mathlib.Core.Path.{◌≡◌, refl, sym, ap, ◌∙◌}
use mathlib.Core.List.{List}
use Prim.Native.Nat.{ℕ}
use Rattle.gates.specs.declared.gate.Gate.{Gate}
use Rattle.gates.specs.declared.gate.Gate.TheVariants.{Cnot, Rotation, X, Bad}
use Rattle.tallies.specs.Tally.{layered}
use Rattle.tallies.proofs.depth.Layers.feed.Goals as goal

no-layer : (g : Gate) (L : List ℕ) → ((c t : ℕ) → g ≡ Cnot c t → ⊥) → L ≡ layered g L
unfolding layered
no-layer (Cnot c t) L h = absurd (h c t refl)
no-layer (Rotation q a) L h = refl
no-layer (X q) L h = refl
no-layer Bad L h = refl

pub returns-in-Cnot : goal.returns-in-Cnot
unfolding layered
returns-in-Cnot c = c.raise.ensures ∙ ap (λ (g : Gate). layered g c.args.self.now.last) (sym c.in-Cnot.is)

pub returns-in_default : goal.returns-in_default
returns-in_default c = no-layer c.args.g c.args.self.now.last c.in_default.not-Cnot
