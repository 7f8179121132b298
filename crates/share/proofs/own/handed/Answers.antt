-- `share::own::handed` meets its contract. Assumes nothing.
use Rattle.share.specs.OwnTable.{own_of}
use Rattle.share.proofs.own.handed.Goals as goal

pub returns : goal.returns
unfolding own_of
returns c = cc (c.own_sets-3.ensures, c.own_sets-2.ensures, c.own_terms.ensures, c.own_sets.ensures)
