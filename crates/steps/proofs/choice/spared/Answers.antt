-- `steps::choice::spared` meets its contract. Assumes nothing.
use mathlib.Core.Path.{◌∙◌}
use native.Mathlib.Omega.{arith}
use Rattle.steps.specs.Choice.{sparing}
use Rattle.steps.proofs.Selecting.{count-few, equal-all}
use Rattle.steps.proofs.Choosing.{best-same}
use Rattle.steps.proofs.choice.spared.Goals as goal

pub overflow_add-n : goal.overflow_add-n
overflow_add-n c = omega (arith, count-few _ _ c.count-n.ensures)

pub returns : goal.returns
unfolding sparing
returns c =
    c.best.ensures
    ∙ best-same c.spares.ensures
    (c.equals.ensures ∙ equal-all _ _ _ _ c.count-n.ensures c.rows.ensures)
    c.count-n.ensures
