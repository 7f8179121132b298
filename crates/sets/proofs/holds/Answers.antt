-- `sets::holds` meets its contract. Assumes nothing.
use mathlib.Core.Path.{refl, sym, ◌∙◌}
use borrow.Author.Tests.{le-ltb}
use Rattle.sets.specs.Bit.{bit, has}
use Rattle.sets.proofs.Words.{has-past}
use borrow.Author.Rules.{rules}
use Rattle.sets.proofs.holds.Goals as goal

pub returns-then-q-lt32 : goal.returns-then-q-lt32
unfolding bit has
returns-then-q-lt32 c = refl

pub returns-else-q-lt32 : goal.returns-else-q-lt32
returns-else-q-lt32 c = le-ltb _ _ c.if-q-lt32.false ∙ sym (has-past _ _ (search rules) c.if-q-lt32.false)
