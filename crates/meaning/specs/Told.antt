-- The meaning of a list of gates as it is told: the wires, the table of the parities that bear a rotation, and the common phase.
use Rattle.std.specs.Prelude.{Bool, false, List, ℕ, length, get_or, take}
use Rattle.sets.specs.Pick.{pick}
use Rattle.gates.specs.declared.gate.Gate.{Gate}
use Rattle.gates.specs.declared.gate.Gate.TheVariants.{Cnot, Rotation, X, Bad}
use Rattle.table.specs.declared.sums.Sums.{Sums}
use Rattle.meaning.specs.declared.told.Meaning.{Meaning}
use Rattle.meaning.specs.declared.told.Told.{Told}
use Rattle.gates.specs.Limits.{most_parities}
use Rattle.gates.specs.Layout.{gates_of}
use Rattle.table.specs.Table.{Added, padded, added_to}
use Rattle.circuit.specs.Circuit.{takes}
use Rattle.circuit.specs.Phase.{shifts, phases, phase_of}
use Rattle.circuit.specs.State.{fed_wires, wires_of}
use Rattle.meaning.specs.Borne.{borne, over_at, sums_of}

-- "ascending by parity, with sums": the parities that bear a rotation
unfoldable pub table_of : List Gate → Sums
table_of gs = record { parity = padded most_parities (borne gs); sum = padded most_parities (sums_of gs (borne gs)); len = length (borne gs) }

unfoldable pub meaning_of : List Gate → Meaning
meaning_of gs = record { wires = wires_of gs; sums = table_of gs; phase = phase_of gs }

-- the meaning after a gate; `full` where the gate brings the 257th parity, and then nothing has changed
pub record Fed : Type 0 where
  pub meaning : Meaning
  pub full : Bool

abbrev pub fed_to : Meaning → Bool → Fed
fed_to m b = record { meaning = m; full = b }

-- the table after an angle a on wire q
abbrev pub added_on : Meaning → ℕ → ℕ → Added
added_on m q a = added_to m.sums (get_or m.wires.parity q 0) (takes (get_or m.wires.flip q 0) a)

-- a rotation goes to the table and to the common phase, any other gate to the wires; a full table leaves all as it was
unfoldable pub fed_meaning : Meaning → Gate → Fed
fed_meaning m (Cnot c t) = record { meaning = record { wires = fed_wires m.wires (Cnot c t); sums = m.sums; phase = m.phase }; full = false }
fed_meaning m (Rotation q a) = record {
  meaning = record {
    wires = m.wires;
    sums = (added_on m q a).sums;
    phase = pick (added_on m q a).full m.phase (phases m.phase (shifts (get_or m.wires.flip q 0) a));
  };
  full = (added_on m q a).full;
}
fed_meaning m (X q) = record { meaning = record { wires = fed_wires m.wires (X q); sums = m.sums; phase = m.phase }; full = false }
fed_meaning m Bad = record { meaning = m; full = false }

-- the meaning of the gates before the one that brings the 257th parity; of all of them where none does
unfoldable pub told_of : ℕ → List ℕ → Told
told_of n xs = record { meaning = meaning_of (take (over_at (gates_of n xs)) (gates_of n xs)); fed = over_at (gates_of n xs) }
