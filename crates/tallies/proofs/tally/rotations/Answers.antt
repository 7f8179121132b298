-- `tallies::tally::rotations` meets its contract. Assumes nothing.
use mathlib.Core.Path.{◌≡◌, sym, ◌∙◌}
use Rattle.std.specs.List.{count_by}
use Rattle.gates.specs.Layout.{gate_of}
use Rattle.tallies.proofs.Tallies.{is_rotation, rotations-counted}
use borrow.Author.Rules.{rules}
use Rattle.tallies.proofs.tally.rotations.Goals as goal

pub returns : goal.returns
returns c =
    let a = c.args in
    let e : c.count.result ≡ count_by (λ x. is_rotation (gate_of a.n x)) a.records.now = search rules in
    e ∙ sym (rotations-counted a.n a.records.now)
