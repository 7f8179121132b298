-- `share::own::own_terms` meets its contract. Assumes nothing.
use mathlib.Core.Path.{ap, ◌∙◌}
use mathlib.Core.List.{List}
use Prim.Native.Nat.{ℕ}
use Rattle.table.specs.Table.{terms_in}
use Rattle.share.specs.OwnTable.{own_table}
use Rattle.share.proofs.own.own_terms.Goals as goal

pub returns : goal.returns
unfolding own_table
returns c =
    let s = c.args.s in
    c.terms.ensures ∙ ap (λ (l : List ℕ). terms_in (record { parity = s.parity; sum = l; len = s.len })) c.own_sums-sum.ensures
