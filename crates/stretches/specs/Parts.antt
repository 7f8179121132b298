-- "The program prints stretch by stretch": what is laid, part by part, each a stretch's records and the Hadamard behind it.
use Rattle.std.specs.Prelude.{List, ◌++◌, map, ℕ, take, drop}
use Rattle.stretches.specs.Cut.{weave}
use Rattle.stretches.specs.Stretches.{end_at, stretch_at, rest_from, hadamards_from}
use Rattle.stretches.specs.Laid.{stretch_records}

-- the Hadamard at which the stretch that begins at k ends, if one is there
abbrev pub hadamard_at : ℕ → List ℕ → ℕ → List ℕ
hadamard_at n gates k = take 1 (drop (end_at n gates k) gates)

-- the part of that stretch
unfoldable pub part_at : ℕ → List ℕ → List ℕ → ℕ → List ℕ
part_at n couplers gates k = stretch_records n couplers (stretch_at n gates k) ++ hadamard_at n gates k

-- all that is laid from the place k on: nothing above the number of gates
unfoldable pub laid_from : ℕ → List ℕ → List ℕ → ℕ → List ℕ
laid_from n couplers gates k = weave (map (stretch_records n couplers) (rest_from n gates k)) (hadamards_from n gates k)
