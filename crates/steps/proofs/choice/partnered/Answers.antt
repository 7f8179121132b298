-- `steps::choice::partnered` meets its contract. Assumes nothing.
use mathlib.Core.Path.{ap, ◌∙◌}
use native.Mathlib.Omega.{arith}
use Rattle.sets.specs.Bit.{has}
use Rattle.sets.specs.Tables.{tab}
use Rattle.steps.specs.Choice.{partner}
use Rattle.steps.proofs.Selecting.{count-few}
use Rattle.steps.proofs.Choosing.{best-same}
use Rattle.steps.proofs.choice.partnered.Goals as goal

pub overflow_add-n : goal.overflow_add-n
overflow_add-n c = omega (arith, count-few _ _ c.count-n.ensures)

pub returns : goal.returns
unfolding partner
returns c =
    c.best.ensures
    ∙ best-same (c.members.ensures ∙ ap (λ s. tab 20 (has s)) c.neighbours.ensures) c.rows.ensures c.count-n.ensures
