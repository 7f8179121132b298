-- What a search finds: "the lowest-numbered qubit is taken, and the search stops there" (document 01, "Steps from document 000").
use Rattle.std.specs.Prelude.{Bool, ℕ, zero, suc, ◌+◌, ltb, Option, Some, None}
use Rattle.sets.specs.Pick.{pick}

-- the lowest k with f k among the d numbers from r on, and r + d where there is none
unfoldable pub first_of : (ℕ → Bool) → ℕ → ℕ → ℕ
first_of f zero r = r
first_of f (suc d) r = pick (f r) r (first_of f d (r + 1))

-- some number below n has the property
unfoldable pub some_of : (ℕ → Bool) → ℕ → Bool
some_of f n = ltb (first_of f n 0) n

-- the lowest such number, where there is one
unfoldable pub found_of : (ℕ → Bool) → ℕ → Option ℕ
found_of f n = pick (ltb (first_of f n 0) n) (Some (first_of f n 0)) None
