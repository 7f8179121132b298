-- A signed multiple of pi as a whole number (request E1: "`-pi/4` is -8,192 units, so 57,344"; request E5: "an angle is kept modulo two turns").
use Rattle.std.specs.Prelude.{Bool, true, false, ℕ, ◌-◌, ◌*◌, ◌/◌, ◌%◌, eqb, ltb, ℤ, pos, negsuc, neg_ℤ}
use Rattle.sets.specs.Pick.{both}
use Rattle.angles.specs.declared.Scale.{Scale}
use Rattle.angles.specs.declared.Scale.TheVariants.{Units, Halves}

-- half a turn: an angle counts in units, 65,536 to the turn, a common phase "in half units, 131,072 to the turn"
abbrev pub pi_in : Scale → ℕ
pi_in Units = 32768
pi_in Halves = 65536

-- a whole turn
abbrev pub turn_in : Scale → ℕ
turn_in Units = 65536
turn_in Halves = 131072

-- "k up to 65,535"; of a common phase "k up to 131,071"
abbrev pub most_times : Scale → ℕ
most_times c = turn_in c - 1

-- "over a power of two from 1 to 32768"; of a common phase "over up to 65536": these are the divisors of pi (proofs/Powers.antt)
unfoldable pub is_over : Scale → ℕ → Bool
is_over c d = both (ltb 0 d) (eqb (pi_in c % d) 0)

-- "with an optional minus": u of them, or as many the other way round
unfoldable pub signed_of : Bool → ℕ → ℤ
signed_of true u = neg_ℤ (pos u)
signed_of false u = pos u

-- "modulo two turns" of units, one turn of half units: what is below 131,072 and differs from z by a multiple of it (proofs/Laws.antt, `reduced-turns`). `negsuc n` is -(n + 1)
unfoldable pub reduced_of : ℤ → ℕ
reduced_of (pos n) = n % turn_in Halves
reduced_of (negsuc n) = turn_in Halves - 1 - n % turn_in Halves

-- k * pi / d. Over 0 it is 0
unfoldable pub angle_in : Scale → Bool → ℕ → ℕ → ℕ
angle_in c minus k d = reduced_of (signed_of minus (k * (pi_in c / d)))

-- "until the common phase is taken": the units of a rotation's record, modulo one turn
unfoldable pub units_of : Bool → ℕ → ℕ → ℕ
units_of minus k d = angle_in Units minus k d % turn_in Units
