-- The parities that bear a rotation, and the terms among them, ascending (document 01, "Meaning of a circuit", refusal 6).
use Rattle.std.specs.Prelude.{◌≡◌, ◌⊎◌, Bool, not, List, [], ◌∷◌, ◌++◌, map, ℕ, ◌+◌, ◌<◌, eqb, ltb, length, get_or, take}
use Rattle.sets.specs.Pick.{pick}
use Rattle.sets.specs.Lists.{those}
use Rattle.sets.specs.Search.{first_of}
use Rattle.gates.specs.Limits.{most_parities}
use Rattle.gates.specs.declared.gate.Gate.{Gate}
use Rattle.gates.specs.declared.gate.Gate.TheVariants.{Cnot, Rotation, X, Bad}
use Rattle.circuit.specs.Circuit.{step, run, start, sum_of}

-- p put into an ascending list, once
unfoldable pub insert : ℕ → List ℕ → List ℕ
insert p [] = p ∷ []
insert p (x ∷ xs) = pick (ltb x p) (x ∷ insert p xs) (pick (eqb x p) (x ∷ xs) (p ∷ x ∷ xs))

-- the parities ps, with the one that gate g turns
unfoldable pub bears : Gate → List ℕ → List ℕ → List ℕ
bears (Cnot c t) W ps = ps
bears (Rotation q a) W ps = insert (get_or W q 0) ps
bears (X q) W ps = ps
bears Bad W ps = ps

unfoldable pub borne_from : List Gate → List ℕ → List ℕ → List ℕ
borne_from [] W ps = ps
borne_from (g ∷ gs) W ps = borne_from gs (step g W) (bears g W ps)

-- the different parities that bear a rotation ("sum 0 and angle 0 included"), ascending
unfoldable pub borne : List Gate → List ℕ
borne gs = borne_from gs start []

-- a rotation in the list meets parity p, from the wires W on: its wire bears p at that moment
pub record Meets (p : ℕ) (gs : List Gate) (W : List ℕ) : Type 0 where
  pub before : List Gate
  pub qubit : ℕ
  pub angle : ℕ
  pub behind : List Gate
  pub stands : gs ≡ before ++ Rotation qubit angle ∷ behind
  pub bearing : get_or (run before W) qubit 0 ≡ p

-- refusal 6: the "gate that brings the 257th, from 0"; the number of gates where none does
unfoldable pub over_at : List Gate → ℕ
over_at gs = first_of (λ k. ltb most_parities (length (borne (take (k + 1) gs)))) (length gs) 0

abbrev pub sums_of : List Gate → List ℕ → List ℕ
sums_of gs ps = map (λ p. sum_of p gs) ps

-- "A term is a parity whose sum is not 0", as a test
unfoldable pub is_term : List Gate → ℕ → Bool
is_term gs p = not (eqb (sum_of p gs) 0)

-- the terms, ascending: no other parity has a sum that is not 0
unfoldable pub terms : List Gate → List ℕ
terms gs = those (is_term gs) (borne gs)

-- each number is greater than those before it
unfoldable pub Ascending : List ℕ → Type 0
Ascending xs = (i j : ℕ) → i < j → j < length xs → get_or xs i 0 < get_or xs j 0

-- p is a number of the list
unfoldable pub Among : ℕ → List ℕ → Type 0
Among p [] = ⊥
Among p (x ∷ xs) = (x ≡ p) ⊎ Among p xs
