use mathlib.Core.Path.{◌≡◌}
use Rattle.steps.proofs.Selecting.{counted}
use Rattle.steps.proofs.selection.count.Given as goal

abbrev pub invariant-loop-chosen : goal.invariant-loop-chosen
invariant-loop-chosen l = l.n ≡ counted l.chosen-items l.chosen-index
