-- `tallies::depth::Layers::fed` meets its contract: as many gates as records. Assumes nothing.
use mathlib.Core.Path.{sym, ◌∙◌}
use native.Mathlib.Omega.{arith}
use lib.ListN.{length-map}
use Rattle.gates.specs.Layout.{gate_of, gates_of}
use Rattle.tallies.proofs.InParts.{after-fits, after-over}
use Rattle.tallies.proofs.depth.Layers.fed.Goals as goal

pub returns-then-records-highest : goal.returns-then-records-highest
returns-then-records-highest c = let a = c.args in
    let r = a.records.now in
    c.feed_all.ensures ∙ sym (after-fits (gates_of a.n r) a.self.last (omega (arith, length-map r (gate_of a.n), c.highest.ensures, c.if-records-highest.true)))

pub returns-else-records-highest : goal.returns-else-records-highest
returns-else-records-highest c = let a = c.args in
    let r = a.records.now in
    sym (after-over (gates_of a.n r) a.self.last (omega (arith, length-map r (gate_of a.n), c.highest.ensures, c.if-records-highest.false)))
