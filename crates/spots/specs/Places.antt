-- What the code's places in a text stand for.
use Rattle.std.specs.Prelude.{ℕ, List, drop, Option, option_map}
use Rattle.spots.specs.Numbers.{Got}
use Rattle.spots.specs.declared.spot.Fetched.{Fetched}

-- what is left of s at a place; nothing where there is none
abbrev pub rest_at : List ℕ → Option ℕ → Option (List ℕ)
rest_at s at = option_map (λ p. drop p s) at

-- what was read, and what is left behind it
abbrev pub got_of : List ℕ → Option Fetched → Option (Got ℕ)
got_of s r = option_map (λ f. record { value = f.value; rest = drop f.next s }) r
