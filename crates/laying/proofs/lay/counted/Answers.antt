-- `laying::lay::counted` meets its contract. Assumes nothing.
use lib.ListN.{length-map}
use Rattle.laying.specs.Answers.{counts_of}
use Rattle.gates.specs.Layout.{gate_of}
use Rattle.laying.proofs.lay.counted.Goals as goal

pub returns : goal.returns
unfolding counts_of
returns c = cc (c.depth.ensures, c.rotations.ensures, c.cnots.ensures, length-map c.args.laid.now (gate_of c.args.n))
