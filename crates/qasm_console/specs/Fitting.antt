-- The statements of a circuit are a form of printing gates, and there is room for each part: the proof of a law of `Fitting`, which code can only take from here. Assumes nothing.
use mathlib.Core.Path.{◌≡◌, refl}
use mathlib.Core.List.{List}
use Prim.Native.Nat.{ℕ, ◌+◌, ◌*◌, ◌≤◌}
use native.Mathlib.Omega.{arith}
use lib.ListN.{length}
use Rattle.verdicts.specs.Verdicts.{number_of}
use Rattle.tallies.specs.Tally.{bound_of, largest}
use Rattle.judging.specs.Tests.{verdict_of}
use Rattle.stretches.specs.Laid.{stretch_records}
use Rattle.stretches.specs.Parts.{hadamard_at}
use Rattle.versions.specs.declared.Version.{Version}
use Rattle.qasm_lines.specs.Spelling.{gate_text, gates_text}
use Rattle.console.specs.Forms.{PartsFit}
use Rattle.console.specs.Fitting.{stretch-few}
use Rattle.qasm_console.specs.Printed.{most_shown}
use Rattle.qasm_console.specs.Sizes.{stretch-most, hadamard-most}

part-fits : (v : Version) (n : ℕ) (xs s ys : List ℕ) (k : ℕ) → number_of (verdict_of n xs s largest) ≡ 0 → length (gates_text v (stretch_records n xs s)) + length (gates_text v (hadamard_at n ys k)) ≤ most_shown
part-fits v n xs s ys k z = omega (arith, stretch-most v n xs s largest z, stretch-few n xs s z, hadamard-most v n ys k)

pub statements-fit : (v : Version) → PartsFit (gate_text v) (gates_text v) most_shown
unfolding gates_text
statements-fit v = record {
  none = refl;
  more = λ x xs. refl;
  refused = omega arith;
  part = part-fits v;
}

-- the same with the largest B in numbers, as the code has it
pub statements-form : (v : Version) → PartsFit (gate_text v) (gates_text v) (26 * (10764 + 1))
unfolding bound_of
statements-form = statements-fit
