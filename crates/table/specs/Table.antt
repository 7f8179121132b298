-- The table of sums, as the code holds it: parities ascending, each with its sum, at the front of 256 places.
use Rattle.std.specs.Prelude.{Bool, true, false, List, [], ◌∷◌, ◌++◌, ℕ, ◌+◌, ◌-◌, ◌%◌, eqb, ltb, leb, length, get_or, set, take, drop, replicate}
use Rattle.sets.specs.Pick.{pick, both, either}
use Rattle.sets.specs.Search.{first_of}
use Rattle.table.specs.declared.sums.Sums.{Sums}
use Rattle.gates.specs.Limits.{most_parities}

-- a list at the front of n places, 0 behind it
unfoldable pub padded : ℕ → List ℕ → List ℕ
padded n xs = xs ++ replicate (n - length xs) 0

abbrev pub tabled : List ℕ → List ℕ → ℕ → Sums
tabled parity sum len = record { parity = parity; sum = sum; len = len }

-- no parity yet
unfoldable pub empty : Sums
empty = tabled (padded most_parities []) (padded most_parities []) 0

-- ---- an angle comes in

-- the table after an angle came in; `full` where its parity would be the 257th, and then nothing has changed
pub record Added : Type 0 where
  pub sums : Sums
  pub full : Bool

abbrev pub added : Sums → Bool → Added
added sums full = record { sums = sums; full = full }

-- place i is past the first n, or holds p or more
unfoldable pub stops_at : List ℕ → ℕ → ℕ → ℕ → Bool
stops_at xs n p i = either (leb n i) (leb p (get_or xs i 0))

-- where p stands, or is to stand, among the first n of an ascending list
unfoldable pub rank_of : List ℕ → ℕ → ℕ → ℕ
rank_of xs n p = first_of (stops_at xs n p) most_parities 0

-- v put in at k
unfoldable pub put_in : ℕ → ℕ → List ℕ → List ℕ
put_in k v xs = take k xs ++ v ∷ drop k xs

-- v put in at k among the first n, what stood there from k on moved up by one; the rest stays
unfoldable pub moved_in : List ℕ → ℕ → ℕ → ℕ → List ℕ
moved_in xs k n v = take (n + 1) (put_in k v xs) ++ drop (n + 1) xs

-- p has its own place k in the table
unfoldable pub held_at : Sums → ℕ → ℕ → Bool
held_at s k p = both (ltb k s.len) (eqb (get_or s.parity k 0) p)

-- the sum at k grows by a, modulo 65,536
unfoldable pub grown_at : Sums → ℕ → ℕ → Sums
grown_at s k a = record { parity = s.parity; sum = set s.sum k ((get_or s.sum k 0 % 65536 + a % 65536) % 65536); len = s.len }

-- p gets the place k, with the sum a
unfoldable pub new_at : Sums → ℕ → ℕ → ℕ → Sums
new_at s k p a = record { parity = moved_in s.parity k s.len p; sum = moved_in s.sum k s.len (a % 65536); len = s.len + 1 }

-- a goes to the sum of p; a new parity finds the table full where it holds 256
unfoldable pub added_at : Sums → ℕ → ℕ → ℕ → Added
added_at s k p a =
    pick (held_at s k p) (record { sums = grown_at s k a; full = false })
    (pick (ltb s.len most_parities) (record { sums = new_at s k p a; full = false }) (record { sums = s; full = true }))

unfoldable pub added_to : Sums → ℕ → ℕ → Added
added_to s p a =
    pick (ltb most_parities s.len) (record { sums = s; full = true }) (added_at s (rank_of s.parity s.len p) p a)

-- ---- the terms

-- those of xs beside which ss has another number than 0
unfoldable pub kept : List ℕ → List ℕ → List ℕ
kept [] ss = []
kept (x ∷ xs) [] = []
kept (x ∷ xs) (s ∷ ss) = pick (eqb s 0) (kept xs ss) (x ∷ kept xs ss)

-- those of the first n entries whose sum is not 0, at the front
unfoldable pub kept_table : List ℕ → List ℕ → ℕ → Sums
kept_table parity sum n = record {
  parity = padded most_parities (kept (take n parity) (take n sum));
  sum = padded most_parities (kept (take n sum) (take n sum));
  len = length (kept (take n sum) (take n sum));
}

-- the terms of a table
unfoldable pub terms_in : Sums → Sums
terms_in s = kept_table s.parity s.sum s.len
