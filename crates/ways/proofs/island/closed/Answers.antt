-- `ways::island::closed` meets its contract: the closing goes behind the gates. Assumes nothing.
use mathlib.Core.Path.{refl}
use Rattle.share.specs.OwnTable.{share_in}
use Rattle.ways.specs.Ways.{with_closing}
use Rattle.ways.proofs.Owned.{closed-memory}
use Rattle.ways.proofs.island.closed.Goals as goal

pub returns : goal.returns
unfolding with_closing
returns c =
    closed-memory (share_in c.args.own) _ _ _ _ _ _ c.replay-at.ensures.0 c.replay-at.ensures.1 _ refl c.close.ensures.0 c.close.ensures.1
