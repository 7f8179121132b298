-- `sets::only` meets its contract. Assumes nothing.
use borrow.Author.Tests.{le-ltb}
use Rattle.sets.specs.Size.{only_of}
use Rattle.sets.proofs.Words.{only-shift}
use Rattle.sets.proofs.only.Goals as goal

pub returns-then-q-lt32 : goal.returns-then-q-lt32
returns-then-q-lt32 c = only-shift _ c.if-q-lt32.true

pub returns-else-q-lt32 : goal.returns-else-q-lt32
unfolding only_of
returns-else-q-lt32 c = simp (le-ltb _ _ c.if-q-lt32.false)
