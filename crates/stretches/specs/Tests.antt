-- The tests of a job, in which Hadamards may stand (document 01, "Records and refusals"; request E12). Tests 6 and 7 are those of one stretch, made of every stretch; test 8 is of all together.
use Rattle.std.specs.Prelude.{List, [], ◌∷◌, ℕ, ◌+◌, eqb, ltb, length, Ok, Err}
use Rattle.sets.specs.Pick.{pick}
use Rattle.gates.specs.Layout.{gates_of}
use Rattle.verdicts.specs.declared.verdict.Refusal.TheVariants.{ManyParities, Unreachable, Room}
use Rattle.verdicts.specs.Verdicts.{Verdict, number_of, judged_qubits, judged_couplers, judged_drawn}
use Rattle.verdicts.specs.InOrder.{and_then}
use Rattle.tallies.specs.Tally.{bound_of}
use Rattle.meaning.specs.Borne.{over_at, terms}
use Rattle.chip.specs.Couplers.{near_of}
use Rattle.isles.specs.Islands.{islands_of}
use Rattle.judging.specs.Tests.{judged_count, judged_reach}
use Rattle.stretches.specs.Stretches.{stretches_of, hadamards_of}

-- ---- 1 to 5, of all gates

unfoldable pub judged_five : ℕ → List ℕ → List ℕ → Verdict
judged_five n couplers gates = and_then (judged_qubits n) (and_then (judged_couplers n couplers) (and_then (judged_count gates) (judged_drawn n gates)))

-- ---- 6: "the 256 parities are counted for each stretch"

-- of a stretch whose first gate has the place k: the gate that brings its 257th parity has its place in the job
unfoldable pub judged_parities_at : ℕ → ℕ → List ℕ → Verdict
judged_parities_at n k s = pick (ltb (over_at (gates_of n s)) (length s)) (Err (ManyParities (k + over_at (gates_of n s)))) (Ok tt)

-- of stretches with a Hadamard between each and the next
unfoldable pub judged_parities_from : ℕ → ℕ → List (List ℕ) → Verdict
judged_parities_from n k [] = Ok tt
judged_parities_from n k (s ∷ ss) = and_then (judged_parities_at n k s) (judged_parities_from n (k + length s + 1) ss)

-- ---- 7: "returns, if the job has a Hadamard, the place of the first gate of the first unreachable stretch"

unfoldable pub judged_reach_at : ℕ → List ℕ → ℕ → List ℕ → Verdict
judged_reach_at n islands k s = pick (eqb (number_of (judged_reach n islands (gates_of n s))) 0) (Ok tt) (Err (Unreachable k))

unfoldable pub judged_reach_from : ℕ → List ℕ → ℕ → List (List ℕ) → Verdict
judged_reach_from n islands k [] = Ok tt
judged_reach_from n islands k (s ∷ ss) = and_then (judged_reach_at n islands k s) (judged_reach_from n islands (k + length s + 1) ss)

unfoldable pub judged_reaches : ℕ → List ℕ → List ℕ → Verdict
judged_reaches n couplers gates =
    pick (eqb (length (hadamards_of n gates)) 0) (judged_reach n (islands_of (near_of n couplers)) (gates_of n gates))
    (judged_reach_from n (islands_of (near_of n couplers)) 0 (stretches_of n gates))

-- ---- 8: "B is the sum over the stretches plus the Hadamards"

unfoldable pub bounds_of : ℕ → List (List ℕ) → ℕ
bounds_of n [] = 0
bounds_of n (s ∷ ss) = bound_of n (length (terms (gates_of n s))) + bounds_of n ss

unfoldable pub job_bound : ℕ → List ℕ → ℕ
job_bound n gates = bounds_of n (stretches_of n gates) + length (hadamards_of n gates)

unfoldable pub judged_bound : ℕ → List ℕ → ℕ → Verdict
judged_bound n gates room = pick (ltb room (job_bound n gates)) (Err Room) (Ok tt)

-- ---- in order

-- 1 to 7: "all stretches pass 6 before any is tested for 7"
unfoldable pub judged_stretches : ℕ → List ℕ → List ℕ → Verdict
judged_stretches n couplers gates = and_then (judged_five n couplers gates) (and_then (judged_parities_from n 0 (stretches_of n gates)) (judged_reaches n couplers gates))

-- "Laying tests 1 to 9 in that order", 9 being gone with request E7
unfoldable pub job_verdict : ℕ → List ℕ → List ℕ → ℕ → Verdict
job_verdict n couplers gates room = and_then (judged_stretches n couplers gates) (judged_bound n gates room)
