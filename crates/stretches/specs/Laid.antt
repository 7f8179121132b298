-- What an accepted job gets, and what the entry point answers and leaves (request E12).
use Rattle.std.specs.Prelude.{List, [], ◌∷◌, ◌++◌, map, ℕ, eqb, length, take, drop, Ok}
use Rattle.std.specs.Result.{result_and}
use Rattle.sets.specs.Pick.{pick}
use Rattle.gates.specs.Layout.{gates_of, record_of}
use Rattle.verdicts.specs.Verdicts.{number_of}
use Rattle.circuit.specs.Phase.{phase_of, phases}
use Rattle.laying.specs.Answers.{Answer, circuit_of, counts_of, records_in}
use Rattle.stretches.specs.Cut.{weave}
use Rattle.stretches.specs.Stretches.{stretches_of, hadamards_of}
use Rattle.stretches.specs.Tests.{job_verdict}

-- the records that a stretch gets
abbrev pub stretch_records : ℕ → List ℕ → List ℕ → List ℕ
stretch_records n couplers s = map record_of (circuit_of n couplers s)

-- "The stretches are laid one by one, and the Hadamards stand between them in their old order."
unfoldable pub job_records : ℕ → List ℕ → List ℕ → List ℕ
job_records n couplers gates = weave (map (stretch_records n couplers) (stretches_of n gates)) (hadamards_of n gates)

-- "Common phases alone are summed over the stretches"
unfoldable pub phases_of : ℕ → List (List ℕ) → ℕ
phases_of n [] = 0
phases_of n (s ∷ ss) = phases (phase_of (gates_of n s)) (phases_of n ss)

-- "the acceptance returns the sum"
unfoldable pub job_phase : ℕ → List ℕ → ℕ
job_phase n gates = phases_of n (stretches_of n gates)

-- the counts are of the whole laid list, in which a Hadamard is no CNOT and no rotation and takes no layer
unfoldable pub job_answered : ℕ → List ℕ → List ℕ → ℕ → Answer
job_answered n couplers gates room = result_and (job_verdict n couplers gates room) (Ok (counts_of (gates_of n (job_records n couplers gates)) (job_phase n gates)))

-- "the first records of the output are the circuit and all later ones stay"; a refusal leaves all as it was
unfoldable pub job_output : ℕ → List ℕ → List ℕ → List ℕ → List ℕ
job_output n couplers gates out =
    pick (eqb (number_of (job_verdict n couplers gates (length out))) 0) (job_records n couplers gates ++ drop (length (job_records n couplers gates)) out) out

-- what was laid
abbrev pub job_laid : ℕ → List ℕ → List ℕ → List ℕ → List ℕ
job_laid n couplers gates out = take (records_in (job_answered n couplers gates (length out))) (job_output n couplers gates out)
