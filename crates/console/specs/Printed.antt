-- What the laying and the counting program print for a text, and the memory that they lend (document 01, "The job text").
use Rattle.std.specs.Prelude.{◌≡◌, List, [], ◌∷◌, ℕ, ◌+◌, ◌*◌, eqb, length}
use Rattle.sets.specs.Pick.{pick}
use Rattle.gates.specs.Limits.{most_couplers}
use Rattle.gates.specs.Layout.{gates_of}
use Rattle.verdicts.specs.Verdicts.{Verdict, number_of, place_of}
use Rattle.tallies.specs.Tally.{cnots_of, rotations_of, depth_of, largest}
use Rattle.chip.specs.Couplers.{near_of}
use Rattle.chip.specs.Ordered.{ordered_list}
use Rattle.stretches.specs.Tests.{judged_stretches}
use Rattle.stretches.specs.Laid.{job_records}
use Rattle.lines.specs.Lines.{line_text, text_of, refusal_text, counts_text}
use Rattle.lines.specs.Lent.{onto}
use Rattle.reading.specs.Parsing.{parsed}
use Rattle.reading.specs.Readings.{couplers_in, gates_in, job_in, judged_reading}

-- ---- what is lent

-- "it lends the reader 10,922 records", for the couplers
abbrev pub most_coupler_lines : ℕ
most_coupler_lines = 10922

-- request E3: "the program lends 16,383 gate records"
abbrev pub most_gate_lines : ℕ
most_gate_lines = 16383

-- 6 bytes for the `q` line, 12 for each coupler and for each gate: "A text above 65,536 bytes is printed whole too"
abbrev pub most_printed : ℕ
most_printed = 6 + 12 * most_couplers + 12 * largest

-- an `x` line has at most 26: a number of two digits, and a place of at most twenty
abbrev pub most_refused : ℕ
most_refused = 26

-- s is printed whole into `room` bytes of lent memory: r bytes at its front; what lies behind them stays
pub record Prints (room : ℕ) (s out : List ℕ) (r : ℕ) (out' : List ℕ) : Type 0 where
  pub lent : length out ≡ room
  pub bytes : r ≡ length s
  pub memory : out' ≡ onto s out

-- ---- what is printed

-- "On refusal it prints only one line, parted by tabs: `x`, number, place"
unfoldable pub refusal_of : Verdict → List ℕ
refusal_of v = refusal_text (number_of v) (place_of v)

-- a common phase in a line of its own, which begins with `p`; none where it is 0
unfoldable pub phase_line : ℕ → List ℕ
phase_line g = pick (eqb g 0) [] (line_text 112 (g ∷ []))

-- the text, unless v refuses
unfoldable pub unless : Verdict → List ℕ → List ℕ
unless v text = pick (eqb (number_of v) 0) text (refusal_of v)

-- "the `q` line, then couplers lower end first, ascending, each once, then the laid gates"; "The program prints stretch by stretch and never 8", so that tests 1 to 7 are all
unfoldable pub laid_job : ℕ → List ℕ → List ℕ → List ℕ
laid_job n couplers gates = unless (judged_stretches n couplers gates) (text_of n (ordered_list (near_of n couplers)) (job_records n couplers gates))

-- "one line about the laid list, or the same `x` line: `s`, CNOTs, rotations, depth"
unfoldable pub counted_job : ℕ → List ℕ → List ℕ → List ℕ
counted_job n couplers gates =
    let laid = gates_of n (job_records n couplers gates) in
    unless (judged_stretches n couplers gates) (counts_text (cnots_of laid) (rotations_of laid) (depth_of laid))

-- what a program prints for a text: what it says of the job, unless reading refuses
abbrev pub printed_for : (ℕ → List ℕ → List ℕ → List ℕ) → List ℕ → List ℕ
printed_for said s =
    unless (judged_reading s most_coupler_lines most_gate_lines) (said (job_in (parsed s)).qubits (couplers_in (parsed s)) (gates_in (parsed s)))

-- "The laying program reads a job"
unfoldable pub laid_text : List ℕ → List ℕ
laid_text s = printed_for laid_job s

-- "The counting program lays the same input"
unfoldable pub counted_text : List ℕ → List ℕ
counted_text s = printed_for counted_job s
