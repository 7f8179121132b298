-- A line as a pattern, in which each `#` (35) stands for the next number.
use Rattle.std.specs.Prelude.{ℕ, List, [], ◌∷◌, ◌++◌, eqb, get_or, drop}
use Rattle.sets.specs.Pick.{pick}
use Rattle.lines.specs.Lines.{digits}

-- what stands for a byte of a pattern: for `#` the digits of the next number, for any other the byte itself
abbrev pub filled_byte : ℕ → ℕ → List ℕ
filled_byte x v = let number = digits v in pick (eqb x 35) number (x ∷ [])

-- how many numbers the byte uses up
abbrev pub uses : ℕ → ℕ
uses x = pick (eqb x 35) 1 0

-- the line of a pattern and its numbers, 0 for each that is wanting
unfoldable pub filled : List ℕ → List ℕ → List ℕ
filled [] vs = []
filled (x ∷ p) vs = filled_byte x (get_or vs 0 0) ++ filled p (drop (uses x) vs)
