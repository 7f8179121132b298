-- `columns::work::Work::strike_row` meets its contract: what is left to strike off leads to the same memory. Assumes nothing.
use mathlib.Core.Path.{◌∙◌}
use native.Mathlib.Nat.{sub-zero}
use Rattle.columns.proofs.Strikes.{row_next, row-end}
use Rattle.columns.proofs.Working.{same-still, same-then}
use borrow.Author.Rules.{rules}
use Rattle.columns.proofs.work.Work.strike_row.Goals as goal

pub loop-k-init : goal.loop-k-init
loop-k-init c = (same-still _, rw sub-zero)

pub loop-k-preserved : goal.loop-k-preserved
loop-k-preserved c =
    let w = c.strike_one.ensures in
    (same-then c.loop-k.invariant.0 w.same, rw w.same.angles (row_next _ _ _ c.loop-k.k _ _ _ _ _ _ (search rules) w.memory ∙ c.loop-k.invariant.1))

pub returns : goal.returns
returns c = record { same = c.loop-k.invariant.0; memory = row-end _ _ _ c.loop-k.k _ _ _ (search rules) ∙ c.loop-k.invariant.1 }
