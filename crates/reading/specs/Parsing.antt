-- How a job's text is read, line by line (document 01, "The job text"). proofs/RoundTrip.antt shows that it finds what specs/Misfit.antt says.
use Rattle.std.specs.Prelude.{ℕ, zero, suc, ◌+◌, List, [], ◌∷◌, length, Option, None, Some}
use Rattle.gates.specs.Layout.{packed}
use Rattle.spots.specs.Numbers.{Got, found, skipped, read_number, ◌>>=◌}
use Rattle.std.specs.Option.{option_or}
use Rattle.reading.specs.Limits.{most_first, most_second}
use Rattle.lines.specs.Lines.{letter}
use Rattle.reading.specs.declared.sort.Sort.{Sort}
use Rattle.reading.specs.declared.sort.Sort.TheVariants.{Couplers, Gates}

-- the line of a record of a kind whose line has two numbers
unfoldable pub read_line : ℕ → List ℕ → Option (Got ℕ)
read_line kind s = do
  a ← read_number most_first (skipped 9 (skipped (letter kind) (Some s)))
  b ← read_number most_second (skipped 9 (Some a.rest))
  found (packed kind a.value b.value) (skipped 10 (Some b.rest))

-- .. and of one whose line has one: "text line `n` and a qubit", "`h` and a qubit"
unfoldable pub read_short : ℕ → List ℕ → Option (Got ℕ)
read_short kind s = do
  a ← read_number most_first (skipped 9 (skipped (letter kind) (Some s)))
  found (packed kind a.value 0) (skipped 10 (Some a.rest))

-- the line of a rotation, of an X, or of a Hadamard
unfoldable pub read_other : List ℕ → Option (Got ℕ)
read_other s = option_or (read_line 2 s) (option_or (read_short 3 s) (read_short 4 s))

-- a gate's line, or a coupler's
unfoldable pub read_one : Sort → List ℕ → Option (Got ℕ)
read_one Gates s = option_or (read_line 1 s) (read_other s)
read_one Couplers s = read_line 0 s

-- the longest run of such lines, at most f, and what is left behind it
pub record Run : Type 0 where
  pub records : List ℕ
  pub left : List ℕ

unfoldable pub run_in : ℕ → Sort → List ℕ → Run
run_in zero sort s = record { records = []; left = s }
run_in (suc f) sort s =
    elim (read_one sort s) [
      | None ↦ record { records = []; left = s }
      | Some g ↦ record { records = g.value ∷ (run_in f sort g.rest).records; left = (run_in f sort g.rest).left }
    ]

-- a line has at least one byte, so that the length of s bounds the lines
unfoldable pub run_of : Sort → List ℕ → Run
run_of sort s = run_in (length s) sort s

-- the `q` line
unfoldable pub read_head : List ℕ → Option (Got ℕ)
read_head s = do
  n ← read_number most_first (skipped 9 (skipped 113 (Some s)))
  found n.value (skipped 10 (Some n.rest))

-- the number of the first line that cannot continue a job; or n, the couplers and the gates
pub data Parsed : Type 0 where
  misfit : ℕ → Parsed
  job : ℕ → List ℕ → List ℕ → Parsed

-- behind the gates stands nothing; a line that stands there has the q line, the couplers and the gates before it
unfoldable pub end_of : ℕ → List ℕ → List ℕ → List ℕ → Parsed
end_of n couplers gates [] = job n couplers gates
end_of n couplers gates (x ∷ s) = misfit (2 + length couplers + length gates)

-- couplers, then gates, as many as there are
unfoldable pub body_of : Option (Got ℕ) → Parsed
body_of None = misfit 1
body_of (Some head) =
    let couplers = run_of Couplers head.rest in
    let gates = run_of Gates couplers.left in
    end_of head.value couplers.records gates.records gates.left

unfoldable pub parsed : List ℕ → Parsed
parsed s = body_of (read_head s)
