-- `laying::stands::some_off` meets its contract: no wire passed is off. Assumes nothing.
use mathlib.Core.Path.{sym, ◌∙◌}
use Rattle.laying.proofs.Standing.{seeking-first, seeking-hit, seeking-next, seeking-end}
use borrow.Author.Rules.{rules}
use Rattle.laying.proofs.stands.some_off.Goals as goal

pub loop-i-init : goal.loop-i-init
loop-i-init c = seeking-first _ _

pub returns-then-is_off : goal.returns-then-is_off
returns-then-is_off c = seeking-hit _ _ _ c.loop-i.invariant (search rules) (sym c.is_off.ensures ∙ c.if-is_off.true)

pub loop-i-preserved : goal.loop-i-preserved
loop-i-preserved c = seeking-next _ _ _ c.loop-i.invariant (search rules) (sym c.is_off.ensures ∙ c.if-is_off.false)

pub returns : goal.returns
returns c = seeking-end _ _ _ c.loop-i.invariant (search rules)
