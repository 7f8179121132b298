-- Which bytes stand between words, and which go on a word (request E1: "with comments and blanks").
use Rattle.std.specs.Prelude.{◌≡◌, Bool, true, false, List, [], ◌∷◌, ℕ, ◌+◌, ◌-◌, eqb, leb, length, take}
use Rattle.sets.specs.Pick.{pick, both, either}
use Rattle.sets.specs.Lists.{All}

-- from a to b
abbrev pub between : ℕ → ℕ → ℕ → Bool
between a b x = both (leb a x) (leb x b)

-- space, tab, CR, LF
unfoldable pub blank : ℕ → Bool
blank x = either (eqb x 32) (either (eqb x 9) (either (eqb x 13) (eqb x 10)))

-- a small letter
unfoldable pub small : ℕ → Bool
small x = between 97 122 x

-- a letter, a digit, an underscore
unfoldable pub in_name : ℕ → Bool
in_name x = either (small x) (either (between 65 90 x) (either (between 48 57 x) (eqb x 95)))

-- these and the dot
unfoldable pub in_word : ℕ → Bool
in_word x = either (in_name x) (eqb x 46)

-- whether x goes on a word that begins with f: a name or a number goes on over bytes of its kind, what a quote opens over quotes besides
unfoldable pub goes_on : ℕ → ℕ → Bool
goes_on f x = either (both (either (in_word f) (eqb f 34)) (in_word x)) (both (eqb f 34) (eqb x 34))

-- all bytes go on a word that begins with f
abbrev pub AllOn : ℕ → List ℕ → Type 0
AllOn f xs = All (λ x. goes_on f x ≡ true) xs

-- two slashes open a comment
unfoldable pub slashes : ℕ → ℕ → Bool
slashes f x = both (eqb f 47) (eqb x 47)

-- whether two words are the same
unfoldable pub same : List ℕ → List ℕ → Bool
same [] [] = true
same [] (y ∷ ys) = false
same (x ∷ xs) [] = false
same (x ∷ xs) (y ∷ ys) = both (eqb x y) (same xs ys)

-- how many lines end in s
unfoldable pub ended_lines : List ℕ → ℕ
ended_lines [] = 0
ended_lines (x ∷ s) = pick (eqb x 10) 1 0 + ended_lines s

-- the line of what stands behind s, from 1
abbrev pub line_behind : List ℕ → ℕ
line_behind s = 1 + ended_lines s

-- the line on which that stands of which l bytes are left, with all behind it
abbrev pub line_at : List ℕ → ℕ → ℕ
line_at s l = line_behind (take (length s - l) s)
