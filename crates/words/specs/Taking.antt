-- What is taken from the front of a list of words: a word, a number, a name. None is left where what was looked for did not stand there.
use Rattle.std.specs.Prelude.{Bool, true, false, List, [], ◌∷◌, ℕ, Option, None, Some}
use Rattle.sets.specs.Pick.{pick, both}
use Rattle.spots.specs.Numbers.{Got, found, read_number, ◌>>=◌}
use Rattle.words.specs.Bytes.{small, in_name, same}
use Rattle.words.specs.Words.{Word}

-- the word b
unfoldable pub taken : List ℕ → Option (List Word) → Option (List Word)
taken b None = None
taken b (Some []) = None
taken b (Some (w ∷ ws)) = pick (same w.bytes b) (Some ws) None

-- ws where nothing is left of a word
abbrev pub behind : List ℕ → List Word → Option (List Word)
behind [] ws = Some ws
behind (x ∷ s) ws = None

-- a number of at most `most`, without a leading zero
unfoldable pub numbered : ℕ → Option (List Word) → Option (Got Word)
numbered most None = None
numbered most (Some []) = None
numbered most (Some (w ∷ ws)) = do
  n ← read_number most (Some w.bytes)
  found n.value (behind n.rest ws)

-- the bytes of the word in front
unfoldable pub front_word : Option (List Word) → List ℕ
front_word None = []
front_word (Some []) = []
front_word (Some (w ∷ ws)) = w.bytes

unfoldable pub all_in_name : List ℕ → Bool
all_in_name [] = true
all_in_name (x ∷ xs) = both (in_name x) (all_in_name xs)

-- a name begins with a small letter
unfoldable pub is_name : List ℕ → Bool
is_name [] = false
is_name (x ∷ xs) = both (small x) (all_in_name xs)

-- a name
unfoldable pub named : Option (List Word) → Option (List Word)
named None = None
named (Some []) = None
named (Some (w ∷ ws)) = pick (is_name w.bytes) (Some ws) None
