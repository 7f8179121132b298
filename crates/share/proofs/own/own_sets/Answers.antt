-- `share::own::own_sets` meets its contract. Assumes nothing.
use Rattle.std.proofs.Common.{ℕ, get_or, rules}
use Rattle.sets.proofs.Making.{tab-made}
use Rattle.share.specs.Own.{mine, own_sets}
use Rattle.share.proofs.own.own_sets.Goals as goal

pub returns : goal.returns
unfolding own_sets
returns c = tab-made _ (λ (i : ℕ). mine c.args.set i (get_or c.args.xs i 0)) _ (λ i x f r. search rules) _ 20 0 c.from_fn.ensures.items
