-- `tallies::depth::Layers::feed_all` meets its contract: the layers so far, with the gates left put into them, are always the same; no layer is higher than at first by more than the gates passed. Assumes nothing.
use mathlib.Core.Path.{sym, ap, ◌∙◌}
use mathlib.Core.List.{List}
use Prim.Native.Nat.{ℕ, ◌+◌}
use native.Mathlib.Omega.{arith}
use lib.ListN.{drop}
use Rattle.gates.specs.declared.gate.Gate.{Gate}
use Rattle.gates.specs.Layout.{gates_of}
use Rattle.tallies.specs.Tally.{layered, layers_from, highest}
use Rattle.tallies.proofs.Tallies.{one-cnot}
use Rattle.tallies.proofs.Layers.{highest-layered, layers-step, layers-end}
use borrow.Author.Rules.{rules}
use Rattle.tallies.proofs.depth.Layers.feed_all.Goals as goal

pub loop-x-preserved : goal.loop-x-preserved
loop-x-preserved c = let at = c.loop-x in
    let a = c.args in
    let last = at.self.last in
    let e = c.feed.ensures ∙ ap (λ (g : Gate). layered g last) c.decode.ensures in (
      omega (arith, ap highest c.feed.ensures, highest-layered c.decode.result last, one-cnot c.decode.result, at.invariant.0),
      ap (λ (L : List ℕ). layers_from (gates_of a.n (drop (at.x-index + 1) a.records.now)) L) e
          ∙ sym (layers-step a.n a.records.now at.x-index last (search rules)) ∙ at.invariant.1,
    )

pub returns : goal.returns
returns c = let at = c.loop-x in
    let a = c.args in
    sym (layers-end a.n a.records.now at.x-index at.self.last (search rules)) ∙ at.invariant.1
