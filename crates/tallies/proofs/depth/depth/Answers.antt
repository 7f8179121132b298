-- `tallies::depth::depth` meets its contract: from no layers on, a layer for each gate fits. Assumes nothing.
use mathlib.Core.Path.{ap, ◌∙◌}
use mathlib.Core.List.{List}
use Prim.Native.Nat.{ℕ}
use native.Mathlib.Omega.{arith}
use Rattle.gates.specs.Layout.{gates_of}
use Rattle.tallies.specs.Tally.{layers_from, highest, depth_of}
use Rattle.tallies.proofs.Layers.{highest-none}
use Rattle.tallies.proofs.depth.depth.Goals as goal

pub feed_all-requires : goal.feed_all-requires
feed_all-requires c = omega (arith, ap highest c.none-layers.ensures, highest-none 20)

pub returns : goal.returns
unfolding depth_of
returns c = let a = c.args in
    c.highest.ensures ∙ ap highest (c.feed_all.ensures ∙ ap (λ (L : List ℕ). layers_from (gates_of a.n a.records.now) L) c.none-layers.ensures)
