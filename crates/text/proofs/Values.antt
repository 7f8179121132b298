-- Document 01's number, place and values of what `read` and `write` answer. Assumes nothing.
use mathlib.Core.Path.{◌≡◌}
use mathlib.Core.List.{List}
use Prim.Native.Nat.{ℕ}
use lib.Dec.{eqb}
use lib.ListN.{length}
use Rattle.sets.specs.Pick.{pick}
use Rattle.verdicts.specs.Verdicts.{number_of, verdict_in}
use Rattle.verdicts.proofs.Answered.{answered-verdict, answered-or}
use Rattle.lines.specs.Lines.{text_of}
use Rattle.reading.specs.Parsing.{parsed}
use Rattle.reading.specs.Readings.{read_job, job_in, judged_reading, reading_of}
use Rattle.text.specs.Writings.{write_bytes, judged_text, writing_of}

module _ (s : List ℕ) (a b : ℕ) where
  pub reading-verdict : verdict_in (reading_of s a b) ≡ judged_reading s a b
  unfolding reading_of
  reading-verdict = answered-verdict (judged_reading s a b) (job_in (parsed s))

  pub reading-values : read_job (reading_of s a b) ≡ pick (eqb (number_of (judged_reading s a b)) 0) (job_in (parsed s)) (record { qubits = 0; couplers = 0; gates = 0 })
  unfolding reading_of
  reading-values = answered-or (judged_reading s a b) (job_in (parsed s)) (record { qubits = 0; couplers = 0; gates = 0 })

module _ (n : ℕ) (couplers gates : List ℕ) (room : ℕ) where
  pub writing-verdict : verdict_in (writing_of n couplers gates room) ≡ judged_text n couplers gates room
  unfolding writing_of
  writing-verdict = answered-verdict (judged_text n couplers gates room) (length (text_of n couplers gates))

  pub writing-values : write_bytes (writing_of n couplers gates room) ≡ pick (eqb (number_of (judged_text n couplers gates room)) 0) (length (text_of n couplers gates)) 0
  unfolding writing_of
  writing-values = answered-or (judged_text n couplers gates room) (length (text_of n couplers gates)) 0
