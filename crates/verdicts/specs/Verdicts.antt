-- The table of document 01, "Records and refusals": number and place of each verdict, and the tests of a job's lists.
use Rattle.std.specs.Prelude.{Bool, not, List, ℕ, leb, ltb, length, get_or, Result, Ok, Err}
use Rattle.std.specs.Result.{result_and}
use Rattle.sets.specs.Pick.{pick, both}
use Rattle.sets.specs.Search.{first_of}
use Rattle.gates.specs.Limits.{most_qubits, most_couplers}
use Rattle.gates.specs.Layout.{gate_of, is_bad, coupler_of, is_wrong}
use Rattle.gates.specs.Hadamards.{is_hadamard}
use Rattle.verdicts.specs.declared.verdict.Refusal.{Refusal}
use Rattle.verdicts.specs.declared.verdict.Refusal.TheVariants.{Qubits, ManyCouplers, WrongCoupler, ManyGates, BadGate, ManyParities, Unreachable, Room, Line, LongText, Angle, Statement, Unversioned}

-- what an entry point says of its input: antt has no name for the alias
abbrev pub Verdict : Type 0
Verdict = Result Unit Refusal

-- the column "No."
abbrev pub number_of : Verdict → ℕ
number_of (Ok tt) = 0
number_of (Err Qubits) = 1
number_of (Err ManyCouplers) = 2
number_of (Err (WrongCoupler k)) = 3
number_of (Err ManyGates) = 4
number_of (Err (BadGate k)) = 5
number_of (Err (ManyParities k)) = 6
number_of (Err (Unreachable k)) = 7
number_of (Err Room) = 8
number_of (Err (Line k)) = 10
number_of (Err LongText) = 11
number_of (Err (Angle k)) = 12
number_of (Err (Statement k)) = 13
number_of (Err Unversioned) = 14

-- the column "Place returned"
abbrev pub place_of : Verdict → ℕ
place_of (Ok tt) = 0
place_of (Err Qubits) = 0
place_of (Err ManyCouplers) = 0
place_of (Err (WrongCoupler k)) = k
place_of (Err ManyGates) = 0
place_of (Err (BadGate k)) = k
place_of (Err (ManyParities k)) = k
place_of (Err (Unreachable k)) = k
place_of (Err Room) = 0
place_of (Err (Line k)) = k
place_of (Err LongText) = 0
place_of (Err (Angle k)) = k
place_of (Err (Statement k)) = k
place_of (Err Unversioned) = 1

-- what an answer with a value says of its input
abbrev pub verdict_in : {A : Type 0} → Result A Refusal → Verdict
verdict_in answer = result_and answer (Ok tt)

-- the first place of a list whose record fails, "from 0"; the list's length where none does
unfoldable pub first_failing : (ℕ → Bool) → List ℕ → ℕ
first_failing fails xs = first_of (λ k. fails (get_or xs k 0)) (length xs) 0

-- 1: "n is not 1 to 20"
unfoldable pub judged_qubits : ℕ → Verdict
judged_qubits n = pick (both (leb 1 n) (leb n most_qubits)) (Ok tt) (Err Qubits)

-- 3: "a coupler record not of kind 0, an end n or more, or equal ends", "first such"
unfoldable pub wrong_at : ℕ → List ℕ → ℕ
wrong_at n xs = first_failing (λ x. is_wrong (coupler_of n x)) xs

-- 2: "more than 190 couplers listed"; then 3
unfoldable pub judged_couplers : ℕ → List ℕ → Verdict
judged_couplers n xs =
    pick (ltb most_couplers (length xs)) (Err ManyCouplers) (pick (ltb (wrong_at n xs) (length xs)) (Err (WrongCoupler (wrong_at n xs))) (Ok tt))

-- 5 of one stretch, in which a Hadamard is no gate: "a gate not of kind 1 or 2" or 3, "a qubit n or more, or control = target", an X's "b not 0"; "first such"
unfoldable pub bad_at : ℕ → List ℕ → ℕ
bad_at n xs = first_failing (λ x. is_bad (gate_of n x)) xs

unfoldable pub judged_gates : ℕ → List ℕ → Verdict
judged_gates n xs = pick (ltb (bad_at n xs) (length xs)) (Err (BadGate (bad_at n xs))) (Ok tt)

-- a record that is neither a gate nor a Hadamard
unfoldable pub is_neither : ℕ → ℕ → Bool
is_neither n x = both (is_bad (gate_of n x)) (not (is_hadamard n x))

-- 5 of a job, where Hadamards may stand between the gates: "5 covers a bad Hadamard"; "first such"
unfoldable pub neither_at : ℕ → List ℕ → ℕ
neither_at n xs = first_failing (is_neither n) xs

unfoldable pub judged_drawn : ℕ → List ℕ → Verdict
judged_drawn n xs = pick (ltb (neither_at n xs) (length xs)) (Err (BadGate (neither_at n xs))) (Ok tt)
