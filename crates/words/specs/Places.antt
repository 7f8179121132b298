-- What the code's places in a text stand for.
use Rattle.std.specs.Prelude.{false, List, [], ◌∷◌, ◌++◌, ◌≡◌, ℕ, ◌+◌, ◌-◌, ◌≤◌, ◌<◌, length, get_or, take, drop, Option, option_map, MatchOption, IfSome}
use Rattle.words.specs.Bytes.{blank, slashes}
use Rattle.words.specs.Words.{Word, words}
use Rattle.spots.specs.Numbers.{Got}
use Rattle.words.specs.Taking.{named, front_word}
use Rattle.spots.specs.declared.spot.Fetched.{Fetched}
use Rattle.words.specs.declared.word.Bounds.{Bounds}

-- the bytes from `from` up to `to`
abbrev pub part : ℕ → ℕ → List ℕ → List ℕ
part from to s = take (to - from) (drop from s)

-- the words that are left at a place; none where there is none
abbrev pub words_at : List ℕ → Option ℕ → Option (List Word)
words_at s at = option_map (λ p. words (drop p s)) at

-- what was read, and the words that are left behind it
abbrev pub got_words : List ℕ → Option Fetched → Option (Got Word)
got_words s r = option_map (λ f. record { value = f.value; rest = words (drop f.next s) }) r

-- where p is in the text, a word begins there
pub record BeginsWord (s : List ℕ) (p : ℕ) : Type 0 where
  pub no_blank : p < length s → blank (get_or s p 0) ≡ false
  pub no_note : p < length s → slashes (get_or s p 0) (get_or s (p + 1) 0) ≡ false

-- the word that begins at `from` ends before `to`
pub record EndsWord (s : List ℕ) (from to : ℕ) : Type 0 where
  pub further : from < to
  pub inside : to ≤ length s
  pub found : words (drop from s) ≡ record { bytes = part from to s; left = length s - from } ∷ words (drop to s)

-- the first word left at `at` stands from `from` up to `to`
pub record FirstWord (s : List ℕ) (at from to : ℕ) : Type 0 where
  pub further : at < to
  pub ordered : from ≤ to
  pub inside : to ≤ length s
  pub found : words (drop at s) ≡ record { bytes = part from to s; left = length s - from } ∷ words (drop to s)

-- that word; at the end there is none
abbrev pub NextWord : List ℕ → ℕ → Option Bounds → Type 0
NextWord s at found = MatchOption found (words (drop at s) ≡ []) (λ b. FirstWord s at b.from b.to)

-- where a name stands
pub record NameAt (s : List ℕ) (at : Option ℕ) (found : Option Bounds) : Type 0 where
  pub rest : option_map (λ b. words (drop b.to s)) found ≡ named (words_at s at)
  pub place : IfSome found (λ b. (b.from ≤ b.to) × (b.to ≤ length s) × (part b.from b.to s ≡ front_word (words_at s at)))

-- a word stands in the text s behind `front`, and as many bytes are left where it begins as it says
pub record StandsIn (s : List ℕ) (w : Word) : Type 0 where
  pub front : List ℕ
  pub rest : List ℕ
  pub same : s ≡ front ++ (w.bytes ++ rest)
  pub left : w.left ≡ length (w.bytes ++ rest)
