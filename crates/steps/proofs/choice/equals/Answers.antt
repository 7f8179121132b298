-- `steps::choice::equals` meets its contract. Assumes nothing.
use Rattle.std.proofs.Common.{rules}
use Rattle.sets.proofs.Making.{tab-mapped}
use Rattle.steps.specs.Choice.{more_of}
use Rattle.steps.proofs.choice.equals.Goals as goal

pub returns : goal.returns
unfolding more_of
returns c = tab-mapped _ (more_of c.args.n) _ (λ o e f r. search rules) _ _ 20 0 0 c.map.ensures.items
