-- `columns::turning::turned` meets its contract. Assumes nothing.
use mathlib.Core.Path.{sym, ◌∙◌}
use Rattle.columns.proofs.Turns.{turned-yes, turned-no}
use Rattle.columns.proofs.turning.turned.Goals as goal

pub returns-then-holds : goal.returns-then-holds
returns-then-holds c = turned-yes _ _ _ _ (sym c.holds.ensures ∙ c.if-holds.true) c.only.ensures

pub returns-else-holds : goal.returns-else-holds
returns-else-holds c = turned-no _ _ _ (sym c.holds.ensures ∙ c.if-holds.false)
