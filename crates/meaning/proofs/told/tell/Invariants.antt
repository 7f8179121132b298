use Rattle.gates.specs.Layout.{gates_of}
use Rattle.meaning.proofs.Telling.{Telling}
use Rattle.meaning.proofs.told.tell.Given as goal

abbrev pub invariant-loop-fed : goal.invariant-loop-fed
invariant-loop-fed l = Telling (gates_of l.n l.records) (record { wires = l.wires; sums = l.sums; phase = l.phase }) l.fed
