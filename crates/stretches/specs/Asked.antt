-- What the functions behind the tests ask of each stretch: what the tests before have shown.
use Rattle.std.specs.Prelude.{◌≡◌, List, ℕ, length}
use Rattle.gates.specs.Layout.{gates_of}
use Rattle.verdicts.specs.Verdicts.{number_of}
use Rattle.tallies.specs.Tally.{largest}
use Rattle.meaning.specs.Borne.{over_at}
use Rattle.chip.specs.Couplers.{near_of}
use Rattle.isles.specs.Islands.{islands_of}
use Rattle.judging.specs.Tests.{judged_reach, verdict_of}

-- as a job of its own only test 7 can refuse it
abbrev pub OnlyReach : ℕ → List ℕ → List ℕ → Type 0
OnlyReach n couplers s = verdict_of n couplers s largest ≡ judged_reach n (islands_of (near_of n couplers)) (gates_of n s)

-- it passed test 6
abbrev pub Counted : ℕ → List ℕ → Type 0
Counted n s = over_at (gates_of n s) ≡ length (gates_of n s)

-- as a job of its own it is accepted
abbrev pub Accepts : ℕ → List ℕ → List ℕ → Type 0
Accepts n couplers s = number_of (verdict_of n couplers s largest) ≡ 0
