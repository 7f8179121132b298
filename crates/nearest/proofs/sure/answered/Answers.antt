-- `nearest::sure::answered` meets its contract. Assumes nothing.
use mathlib.Core.Path.{sym, ◌∙◌}
use Rattle.nearest.proofs.Sureness.{answered-has, answered-not}
use Rattle.nearest.proofs.sure.answered.Goals as goal

pub returns-then-not-holds : goal.returns-then-not-holds
returns-then-not-holds c = answered-not _ _ _ _ (sym c.holds.ensures ∙ c.if-not-holds.true)

pub returns-else-not-holds : goal.returns-else-not-holds
returns-else-not-holds c = answered-has _ _ _ _ c.holds-else-not-holds.ensures
