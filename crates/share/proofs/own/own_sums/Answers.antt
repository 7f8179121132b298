-- `share::own::own_sums` meets its contract. Assumes nothing.
use Rattle.std.proofs.Common.{ℕ, get_or, rules}
use Rattle.sets.proofs.Making.{tab-made}
use Rattle.share.specs.OwnTable.{masked_sum, masked_sums}
use Rattle.share.proofs.own.own_sums.Goals as goal

pub returns : goal.returns
unfolding masked_sums
returns c = tab-made _ (λ (k : ℕ). masked_sum c.args.set (get_or c.args.parity k 0) (get_or c.args.sum k 0)) _ (λ k x f r. search rules) _ 256 0 c.from_fn.ensures.items
