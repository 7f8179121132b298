-- `nearest::moves::lay_moves` meets its contract: the moves still to come lead to the same memory. Assumes nothing.
use mathlib.Core.Path.{refl, ◌∙◌}
use Rattle.columns.proofs.Working.{same-still, same-then}
use Rattle.nearest.proofs.Moving.{move-next, move-end}
use borrow.Author.Rules.{rules}
use Rattle.nearest.proofs.moves.lay_moves.Goals as goal

pub loop-m-init : goal.loop-m-init
loop-m-init c = (same-still _, refl)

pub loop-m-preserved : goal.loop-m-preserved
loop-m-preserved c =
    let w = c.lay_move.ensures in
    (same-then c.loop-m.invariant.0 w.same, rw w.same.angles (move-next _ _ c.loop-m.m-index _ _ _ _ _ _ _ (search rules) w.memory ∙ c.loop-m.invariant.1))

pub returns : goal.returns
returns c = record { same = c.loop-m.invariant.0; memory = move-end _ _ c.loop-m.m-index _ _ _ (search rules) ∙ c.loop-m.invariant.1 }
