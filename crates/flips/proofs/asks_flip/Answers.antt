use mathlib.Core.Path.{sym, ◌∙◌}
use Rattle.flips.proofs.Xs.{asks-held, asks-not-held}
use Rattle.flips.proofs.asks_flip.Goals as goal

pub returns-then-holds : goal.returns-then-holds
returns-then-holds c = asks-held _ _ _ _ (sym c.holds.ensures ∙ c.if-holds.true) c.borne_on.ensures

pub returns-else-holds : goal.returns-else-holds
returns-else-holds c = c.if-holds.false ∙ asks-not-held _ _ _ (sym c.holds.ensures ∙ c.if-holds.false)
