use mathlib.Core.Path.{◌≡◌}
use lib.ListN.{drop}
use Rattle.chip.specs.Couplers.{add_all, near_of}
use Rattle.chip.proofs.couplers.near.Given as goal

abbrev pub invariant-loop-x : goal.invariant-loop-x
invariant-loop-x l = add_all l.n (drop l.x-index l.couplers) l.all ≡ near_of l.n l.couplers
