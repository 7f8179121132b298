-- "The program prints stretch by stretch" (request E12): the front of what the laying program prints, and its parts. proofs/InParts.antt shows that together they are `laid_text`.
use Rattle.std.specs.Prelude.{◌≡◌, List, [], ◌++◌, ℕ, zero, suc, ◌+◌, eqb, leb, length}
use Rattle.sets.specs.Pick.{pick}
use Rattle.verdicts.specs.Verdicts.{number_of}
use Rattle.circuit.specs.Phase.{phases}
use Rattle.tallies.specs.Tally.{largest}
use Rattle.chip.specs.Couplers.{near_of}
use Rattle.chip.specs.Ordered.{ordered_list}
use Rattle.judging.specs.Tests.{verdict_of}
use Rattle.laying.specs.Answers.{answered, phase_in}
use Rattle.stretches.specs.Stretches.{stretch_at}
use Rattle.stretches.specs.Tests.{judged_stretches}
use Rattle.stretches.specs.Laid.{stretch_records}
use Rattle.stretches.specs.Parts.{hadamard_at}
use Rattle.lines.specs.Lines.{text_of}
use Rattle.reading.specs.Parsing.{parsed}
use Rattle.reading.specs.Readings.{couplers_in, gates_in, job_in, read_job, judged_reading, reading_of, lent_after}
use Rattle.console.specs.Printed.{most_coupler_lines, most_gate_lines, most_printed, Prints, unless, printed_for}
use Rattle.console.specs.declared.printing.Begun.{Begun}

-- ---- the front: a refusal, or the `q` line and the couplers. No refusal comes behind it

unfoldable pub front_job : ℕ → List ℕ → List ℕ → List ℕ
front_job n couplers gates = unless (judged_stretches n couplers gates) (text_of n (ordered_list (near_of n couplers)) [])

unfoldable pub front_text : List ℕ → List ℕ
front_text s = printed_for front_job s

-- the place where the first part begins: 0, or above the number of gates where the job is refused
unfoldable pub first_part : ℕ → List ℕ → List ℕ → ℕ
first_part n couplers gates = pick (eqb (number_of (judged_stretches n couplers gates)) 0) 0 (length gates + 1)

-- the same of a text; where it is refused there is no gate, and the part would begin at 1
unfoldable pub first_of_text : List ℕ → ℕ
first_of_text s =
    pick (eqb (number_of (judged_reading s most_coupler_lines most_gate_lines)) 0) (first_part (job_in (parsed s)).qubits (couplers_in (parsed s)) (gates_in (parsed s))) 1

-- what beginning leaves: the front in `out`, the job's lists at the front of theirs, and the place of the first part
pub record Begins (s couplers gates out : List ℕ) (r : Begun) (couplers' gates' out' : List ℕ) : Type 0 where
  pub prints : Prints most_printed (front_text s) out r.bytes out'
  pub job : r.job ≡ read_job (reading_of s most_coupler_lines most_gate_lines)
  pub from : r.from ≡ first_of_text s
  pub couplers_read : couplers' ≡ lent_after (reading_of s most_coupler_lines most_gate_lines) (couplers_in (parsed s)) couplers
  pub gates_read : gates' ≡ lent_after (reading_of s most_coupler_lines most_gate_lines) (gates_in (parsed s)) gates

-- ---- the part of the stretch that begins at k: its gates, and the Hadamard behind it, as `text` writes records; nothing above the number of gates

unfoldable pub part_text : (List ℕ → List ℕ) → ℕ → List ℕ → List ℕ → ℕ → List ℕ
part_text text n couplers gates k =
    pick (leb k (length gates))
    (unless (verdict_of n couplers (stretch_at n gates k) largest) (text (stretch_records n couplers (stretch_at n gates k) ++ hadamard_at n gates k))) []

-- where the next one begins
unfoldable pub next_part : ℕ → List ℕ → ℕ → ℕ
next_part n gates k = pick (leb k (length gates)) (k + length (stretch_at n gates k) + 1) k

-- the share of the common phase that laying returns for it
unfoldable pub share_part : ℕ → List ℕ → List ℕ → ℕ → ℕ
share_part n couplers gates k = pick (leb k (length gates)) (phase_in (answered n couplers (stretch_at n gates k) largest)) 0

-- f parts one behind another, the first of which begins at k: how the program goes
unfoldable pub parts_from : (List ℕ → List ℕ) → ℕ → List ℕ → List ℕ → ℕ → ℕ → List ℕ
parts_from text n couplers gates zero k = []
parts_from text n couplers gates (suc f) k = part_text text n couplers gates k ++ parts_from text n couplers gates f (next_part n gates k)

-- ---- the shares of the common phase of f parts, the first of which begins at k, added to g one by one

unfoldable pub phase_from : ℕ → List ℕ → List ℕ → ℕ → ℕ → ℕ → ℕ
phase_from n couplers gates zero k g = g
phase_from n couplers gates (suc f) k g = phase_from n couplers gates f (next_part n gates k) (phases g (share_part n couplers gates k))

-- those of all parts of a text; where it is refused there is none
unfoldable pub phase_of_text : List ℕ → ℕ
phase_of_text s =
    let n = (job_in (parsed s)).qubits in
    let couplers = couplers_in (parsed s) in
    let gates = gates_in (parsed s) in
    pick (eqb (number_of (judged_reading s most_coupler_lines most_gate_lines)) 0) (phase_from n couplers gates (length gates + 1) (first_part n couplers gates) 0) 0
