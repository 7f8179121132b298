-- What laying answers and leaves ("Records and refusals").
use Rattle.std.specs.Prelude.{List, ◌++◌, map, ℕ, eqb, length, take, drop, Result, Ok, Err}
use Rattle.std.specs.Result.{result_and}
use Rattle.sets.specs.Pick.{pick}
use Rattle.gates.specs.declared.gate.Gate.{Gate}
use Rattle.gates.specs.Layout.{gates_of, record_of}
use Rattle.circuit.specs.Phase.{phase_of}
use Rattle.tallies.specs.Tally.{cnots_of, rotations_of, depth_of}
use Rattle.verdicts.specs.declared.verdict.Refusal.{Refusal}
use Rattle.verdicts.specs.Verdicts.{Verdict, number_of}
use Rattle.chip.specs.Couplers.{near_of}
use Rattle.laying.specs.Laid.{laid_of}
use Rattle.laying.specs.declared.lay.Laid.{Laid}
use Rattle.judging.specs.Tests.{verdict_of}

-- the gates that an accepted job gets
unfoldable pub circuit_of : ℕ → List ℕ → List ℕ → List Gate
circuit_of n couplers gates = laid_of n (near_of n couplers) (gates_of n gates)

-- what laying answers: the counts of the laid gates, or why there are none
abbrev pub Answer : Type 0
Answer = Result Laid Refusal

-- "An acceptance returns the number of records, CNOTs, rotations and the depth", and the common phase that the laid gates lack
unfoldable pub counts_of : List Gate → ℕ → Laid
counts_of gs phase = record { records = length gs; cnots = cnots_of gs; rotations = rotations_of gs; depth = depth_of gs; phase = phase }

unfoldable pub answered : ℕ → List ℕ → List ℕ → ℕ → Answer
answered n couplers gates room = result_and (verdict_of n couplers gates room) (Ok (counts_of (circuit_of n couplers gates) (phase_of (gates_of n gates))))

-- "the first records of the output are the circuit and all later ones stay"; a refusal leaves all as it was
unfoldable pub output_of : ℕ → List ℕ → List ℕ → List ℕ → List ℕ
output_of n couplers gates out =
    pick (eqb (number_of (verdict_of n couplers gates (length out))) 0)
    (map record_of (circuit_of n couplers gates) ++ drop (length (circuit_of n couplers gates)) out) out

-- ---- document 01's number, place and counts of an answer

abbrev pub verdict_in : Answer → Verdict
verdict_in (Ok l) = Ok tt
verdict_in (Err r) = Err r

abbrev pub records_in : Answer → ℕ
records_in (Ok l) = l.records
records_in (Err r) = 0

abbrev pub cnots_in : Answer → ℕ
cnots_in (Ok l) = l.cnots
cnots_in (Err r) = 0

abbrev pub rotations_in : Answer → ℕ
rotations_in (Ok l) = l.rotations
rotations_in (Err r) = 0

abbrev pub depth_in : Answer → ℕ
depth_in (Ok l) = l.depth
depth_in (Err r) = 0

abbrev pub phase_in : Answer → ℕ
phase_in (Ok l) = l.phase
phase_in (Err r) = 0

-- what was laid: "the first records of the output are the circuit"
abbrev pub laid_records : ℕ → List ℕ → List ℕ → List ℕ → List ℕ
laid_records n couplers gates out = take (records_in (answered n couplers gates (length out))) (output_of n couplers gates out)
