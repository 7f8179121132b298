-- One island laid through memories of the largest B: what they hold of the lists that are written to them.
use Rattle.std.specs.Prelude.{List, map, ◌≤◌, length, take}
use Rattle.gates.specs.declared.gate.Gate.{Gate}
use Rattle.gates.specs.Layout.{gates_of, record_of, Good}
use Rattle.sets.specs.Lists.{All}
use Rattle.gates.specs.Limits.{most_qubits}
use Rattle.tallies.specs.Tally.{largest}
use Rattle.share.specs.Own.{Share}
use Rattle.ways.specs.Ways.{by_steps, by_nearest, with_closing, shorter}

-- the gates that a memory of the largest B holds of the gates gs: as many as it has room for, each as its record says
unfoldable pub in_memory : List Gate → List Gate
in_memory gs = gates_of most_qubits (map record_of (take largest gs))

-- gates that it holds as they are
pub record FitsMemory (gs : List Gate) : Type 0 where
  pub few : length gs ≤ largest
  pub good : All (Good most_qubits) gs

-- the island laid, with each list held by a memory of its own
unfoldable pub island_in_memory : Share → List Gate
island_in_memory s = shorter (in_memory (with_closing s (in_memory (by_steps s)))) (in_memory (with_closing s (in_memory (by_nearest s))))
