-- `steps::choice::members` meets its contract. Assumes nothing.
use Rattle.std.proofs.Common.{false, rules}
use Rattle.sets.specs.Bit.{has}
use Rattle.sets.proofs.Making.{tab-made}
use Rattle.steps.proofs.choice.members.Goals as goal

pub returns : goal.returns
returns c = tab-made _ (has c.args.set) _ (λ q b f r. search rules) _ 20 false c.from_fn.ensures.items
