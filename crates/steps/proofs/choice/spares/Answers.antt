-- `steps::choice::spares` meets its contract. Assumes nothing.
use Rattle.std.proofs.Common.{false, rules}
use Rattle.spares.specs.Spare.{spare_of}
use Rattle.sets.proofs.Making.{tab-made}
use Rattle.steps.proofs.choice.spares.Goals as goal

pub returns : goal.returns
returns c = tab-made _ (spare_of c.args.near c.args.set) _ (λ q b f r. search rules) _ 20 false c.from_fn.ensures.items
