-- The lines of a job are a form of printing gates: the proof of a law of `Fitting`, which code can only take from here. Assumes nothing.
use mathlib.Core.Path.{◌≡◌, refl}
use mathlib.Core.List.{List, []}
use Prim.Native.Nat.{ℕ, ◌+◌, ◌*◌, ◌≤◌}
use native.Mathlib.Omega.{arith}
use lib.ListN.{length, drop, length-map, length-take}
use Rattle.gates.specs.Limits.{most_couplers}
use Rattle.gates.specs.Layout.{record_of}
use Rattle.verdicts.specs.Verdicts.{number_of}
use Rattle.tallies.specs.Tally.{bound_of, largest}
use Rattle.judging.specs.Tests.{verdict_of}
use Rattle.laying.specs.Answers.{circuit_of}
use Rattle.laying.proofs.Demands.{demand-2-fits}
use Rattle.stretches.specs.Stretches.{end_at}
use Rattle.stretches.specs.Laid.{stretch_records}
use Rattle.stretches.specs.Parts.{hadamard_at}
use Rattle.lines.specs.Lines.{record_text, records_text}
use Rattle.lines.proofs.Writes.{text-length}
use Rattle.reading.proofs.Sizes.{text-most}
use Rattle.console.specs.Printed.{most_printed}
use Rattle.console.specs.Forms.{PartsFit}

-- a stretch that is accepted has at most so many gates
pub stretch-few : (n : ℕ) (xs s : List ℕ) → number_of (verdict_of n xs s largest) ≡ 0 → length (stretch_records n xs s) ≤ largest
stretch-few n xs s z = omega (arith, length-map (circuit_of n xs s) record_of, demand-2-fits n xs s largest z)

-- a line has at most 12 bytes
records-most : (xs : List ℕ) → length (records_text xs) ≤ 6 + 12 * length xs
records-most xs = omega (arith, text-most 0 [] xs (omega arith), text-length 0 [] xs)

part-fits : (n : ℕ) (xs s ys : List ℕ) (k : ℕ) → number_of (verdict_of n xs s largest) ≡ 0 → length (records_text (stretch_records n xs s)) + length (records_text (hadamard_at n ys k)) ≤ most_printed
part-fits n xs s ys k z =
    omega (arith, records-most (stretch_records n xs s), records-most (hadamard_at n ys k), stretch-few n xs s z, length-take 1 (drop (end_at n ys k) ys))

pub lines-fit : PartsFit record_text records_text most_printed
unfolding records_text
lines-fit = record {
  none = refl;
  more = λ x xs. refl;
  refused = omega arith;
  part = part-fits;
}

-- the same with the largest B in numbers, as the code has it
pub lines-form : PartsFit record_text records_text (6 + 12 * most_couplers + 12 * 10764)
unfolding bound_of
lines-form = lines-fit
