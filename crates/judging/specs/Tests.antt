-- Tests 1 to 8 in document 01's order ("Records and refusals").
use Rattle.std.specs.Prelude.{Bool, not, List, ℕ, ltb, length, get_or, Ok, Err}
use Rattle.sets.specs.Pick.{pick}
use Rattle.sets.specs.Size.{lowest_of}
use Rattle.sets.specs.Search.{first_of, some_of}
use Rattle.gates.specs.declared.gate.Gate.{Gate}
use Rattle.verdicts.specs.declared.verdict.Refusal.TheVariants.{ManyGates, ManyParities, Unreachable, Room}
use Rattle.gates.specs.Limits.{most_gates}
use Rattle.gates.specs.Layout.{gates_of}
use Rattle.circuit.specs.Circuit.{run, start}
use Rattle.meaning.specs.Borne.{over_at, terms}
use Rattle.tallies.specs.Tally.{bound_of}
use Rattle.verdicts.specs.Verdicts.{Verdict, judged_qubits, judged_couplers, judged_gates}
use Rattle.verdicts.specs.InOrder.{and_then}
use Rattle.chip.specs.Couplers.{near_of}
use Rattle.isles.specs.Islands.{islands_of}
use Rattle.share.specs.Own.{inside_of}

-- ---- 4

unfoldable pub judged_count : List ℕ → Verdict
judged_count gates = pick (ltb most_gates (length gates)) (Err ManyGates) (Ok tt)

-- ---- 6

unfoldable pub judged_parities : List Gate → Verdict
judged_parities gs = pick (ltb (over_at gs) (length gs)) (Err (ManyParities (over_at gs))) (Ok tt)

-- ---- 7. `islands` has the island of each qubit

-- the parity of wire i leaves its island
unfoldable pub leaves_at : List ℕ → List ℕ → ℕ → Bool
leaves_at islands parity i = not (inside_of (get_or islands i 0) (get_or parity i 0))

-- the "lowest wire whose final parity leaves its island", n where there is none
unfoldable pub stray_at : ℕ → List ℕ → List ℕ → ℕ
stray_at n islands parity = first_of (leaves_at islands parity) n 0

-- p is not inside one island: not inside that of its lowest qubit
unfoldable pub scatters : List ℕ → ℕ → Bool
scatters islands p = not (inside_of (get_or islands (lowest_of p) 0) p)

-- some term is not
unfoldable pub scattered : List ℕ → List ℕ → Bool
scattered islands ps = some_of (λ k. scatters islands (get_or ps k 0)) (length ps)

-- "lowest wire whose final parity leaves its island, else n"
unfoldable pub judged_reach : ℕ → List ℕ → List Gate → Verdict
judged_reach n islands gs =
    pick (ltb (stray_at n islands (run gs start)) n) (Err (Unreachable (stray_at n islands (run gs start))))
    (pick (scattered islands (terms gs)) (Err (Unreachable n)) (Ok tt))

-- ---- 8

unfoldable pub judged_room : ℕ → List Gate → ℕ → Verdict
judged_room n gs room = pick (ltb room (bound_of n (length (terms gs)))) (Err Room) (Ok tt)

-- ---- in order, on the islands that are handed in, wherever they were found

-- 6 to 8
unfoldable pub judged_meaning : ℕ → List ℕ → List Gate → ℕ → Verdict
judged_meaning n islands gs room = and_then (judged_parities gs) (and_then (judged_reach n islands gs) (judged_room n gs room))

-- 1 to 8
unfoldable pub verdict_on : ℕ → List ℕ → List ℕ → List ℕ → ℕ → Verdict
verdict_on n couplers islands gates room =
    and_then (judged_qubits n) (and_then (judged_couplers n couplers) (and_then (judged_count gates) (and_then (judged_gates n gates) (judged_meaning n islands (gates_of n gates) room))))

-- "Laying tests 1 to 9 in that order", 9 being gone with request E7: on the islands of the job's own couplers
unfoldable pub verdict_of : ℕ → List ℕ → List ℕ → ℕ → Verdict
verdict_of n couplers gates room = verdict_on n couplers (islands_of (near_of n couplers)) gates room
