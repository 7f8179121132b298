-- `angles::is_over` meets its contract. Assumes nothing.
use borrow.Author.Tests.{lt-ltb, le-ltb}
use native.Mathlib.Omega.{arith}
use Rattle.angles.specs.Units.{is_over}
use Rattle.angles.proofs.is_over.Goals as goal

pub returns-then-d-eq0 : goal.returns-then-d-eq0
unfolding is_over
returns-then-d-eq0 c = rw (le-ltb 0 c.args.d (omega arith))

pub returns : goal.returns
unfolding is_over
returns c = let d = c.args.d in rw (lt-ltb 0 d (omega arith), c.pi.ensures)
