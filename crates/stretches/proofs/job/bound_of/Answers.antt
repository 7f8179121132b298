-- `stretches::job::bound_of` meets its contract. Assumes nothing.
use mathlib.Core.Path.{ap, ◌∙◌}
use native.Mathlib.Omega.{arith}
use Rattle.tallies.specs.Tally.{bound_of}
use Rattle.stretches.proofs.Bounding.{terms-counted, terms-within}
use Rattle.stretches.proofs.job.bound_of.Goals as goal

pub overflow_cast-count : goal.overflow_cast-count
overflow_cast-count c = omega (arith, terms-within _ _ c.requires.1 c.tell-told.result c.tell-told.ensures c.terms-terms.result c.terms-terms.ensures)

pub returns : goal.returns
returns c = c.bound.ensures ∙ ap (bound_of c.args.n) (terms-counted _ _ c.requires.1 c.tell-told.result c.tell-told.ensures c.terms-terms.result c.terms-terms.ensures)
