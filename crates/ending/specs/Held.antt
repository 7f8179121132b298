-- Gatherings and islands as the code holds them.
use Rattle.std.specs.Prelude.{List, ◌++◌, map, ℕ}
use Rattle.std.specs.Int.Bits.{bit_xor}
use Rattle.sets.specs.Size.{only_of}
use Rattle.gates.specs.declared.gate.Gate.{Gate}
use Rattle.gathering.specs.Gather.{exchanged, turns, cnots_of, moves_of}
use Rattle.ending.specs.declared.clearing.Taking.{Taking}
use Rattle.ending.specs.declared.clearing.Island.{Island}
use Rattle.ending.specs.Mirror.{seen}

-- the CNOTs of both gatherings
unfoldable pub gates_in : Taking → List Gate
gates_in t = seen t.mirrored (cnots_of (moves_of t.first) ++ exchanged (cnots_of (moves_of t.second)))

-- the island without q, and asked rows and mirror rows after the gates gs
unfoldable pub without_of : Island → ℕ → List Gate → Island
without_of i q gs = record {
  near = i.near;
  set = bit_xor i.set (only_of q);
  asked = map (turns gs) i.asked;
  mirror = map (turns (exchanged gs)) i.mirror;
}
