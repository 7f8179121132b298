-- `tallies::tally::cnots` meets its contract. Assumes nothing.
use mathlib.Core.Path.{◌≡◌, sym, ◌∙◌}
use Rattle.std.specs.List.{count_by}
use Rattle.gates.specs.Layout.{gate_of}
use Rattle.tallies.proofs.Tallies.{is_cnot, cnots-counted}
use borrow.Author.Rules.{rules}
use Rattle.tallies.proofs.tally.cnots.Goals as goal

pub returns : goal.returns
returns c =
    let a = c.args in
    let e : c.count.result ≡ count_by (λ x. is_cnot (gate_of a.n x)) a.records.now = search rules in
    e ∙ sym (cnots-counted a.n a.records.now)
