use mathlib.Core.Path.{◌≡◌}
use lib.ListN.{drop}
use Rattle.gates.specs.Layout.{gates_of}
use Rattle.circuit.specs.Circuit.{run}
use Rattle.gathering.specs.Gather.{exchanged}
use Rattle.ending.specs.Mirror.{mirrors_of}
use Rattle.ending.proofs.mirror.mirrored.Given as goal

abbrev pub invariant-loop-x : goal.invariant-loop-x
invariant-loop-x l = run (exchanged (gates_of l.n (drop l.x-index l.gates))) l.all ≡ mirrors_of (gates_of l.n l.gates)
