-- What is printed at a time goes into the memory that is lent, whole: the front of every circuit that passes its tests, and a common phase. Assumes nothing.
use mathlib.Core.Path.{◌≡◌}
use mathlib.Core.List.{List}
use Prim.Native.Nat.{ℕ}
use native.Mathlib.Omega.{arith}
use lib.ListN.{length}
use Rattle.lines.specs.Lent.{Fitted}
use Rattle.verdicts.specs.Verdicts.{number_of}
use Rattle.tallies.specs.Tally.{bound_of}
use Rattle.stretches.specs.Tests.{judged_stretches}
use Rattle.stretches.proofs.Passing.{job-passed}
use Rattle.versions.specs.declared.Version.{Version}
use Rattle.qasm_lines.specs.Spelling.{head_text, phase_text}
use Rattle.qasm_lines.proofs.Sizes.{head-most, phase-most}
use Rattle.console.specs.Printed.{Prints}
use Rattle.console.proofs.Whole.{text-whole}
use Rattle.qasm_console.specs.Printed.{most_shown}

module _ (out out' : List ℕ) (r : ℕ) (lent : length out ≡ most_shown) where
  -- a circuit that passed tests 1 to 7
  pub head-whole : (v : Version) (n : ℕ) (xs ys : List ℕ) → number_of (judged_stretches n xs ys) ≡ 0 → Fitted out 0 (head_text v n) out' r → Prints most_shown (head_text v n) out r out'
  unfolding bound_of
  head-whole v n xs ys z = text-whole most_shown out out' r lent (head_text v n) (omega (arith, head-most v n (omega (arith, (job-passed n xs ys z).few))))

  pub phase-whole : (v : Version) (g : ℕ) → Fitted out 0 (phase_text v g) out' r → Prints most_shown (phase_text v g) out r out'
  unfolding bound_of
  phase-whole v g = text-whole most_shown out out' r lent (phase_text v g) (omega (arith, phase-most v g))
