-- `laying::lay::lay_own` meets its contract: an island that stands gets nothing. Assumes nothing.
use mathlib.Core.Path.{sym, ◌∙◌}
use Rattle.laying.proofs.Standing.{nothing-laid}
use Rattle.laying.proofs.lay.lay_own.Goals as goal

pub returns-then-stands : goal.returns-then-stands
returns-then-stands c = nothing-laid _ (c.requires (sym c.stands.ensures ∙ c.if-stands.true)) _ _
