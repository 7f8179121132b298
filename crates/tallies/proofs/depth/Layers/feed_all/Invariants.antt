use mathlib.Core.Path.{◌≡◌}
use Prim.Native.Nat.{◌+◌, ◌≤◌}
use lib.ListN.{drop}
use Rattle.gates.specs.Layout.{gates_of}
use Rattle.tallies.specs.Tally.{layers_from, highest}
use Rattle.tallies.proofs.depth.Layers.feed_all.Given as goal

abbrev pub invariant-loop-x : goal.invariant-loop-x
invariant-loop-x l = (highest l.self.last ≤ highest l.initial.self.last + l.x-index) × (layers_from (gates_of l.n (drop l.x-index l.records)) l.self.last ≡ layers_from (gates_of l.n l.records) l.initial.self.last)
