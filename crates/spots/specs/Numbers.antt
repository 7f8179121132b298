-- How a number is read: decimal, no sign, no leading zero except 0 itself (document 01, "The job text").
use Rattle.std.specs.Prelude.{ℕ, zero, suc, ◌+◌, ◌-◌, ◌*◌, List, [], ◌∷◌, get_or, drop, eqb, leb, Option, None, Some, option_map, option_and_then}
use Rattle.sets.specs.Pick.{pick}

-- a value that was read, and what is left behind it, bytes or words
pub record Got (A : Type 0) : Type 0 where
  pub value : ℕ
  pub rest : List A

-- the value, where something is left behind it
abbrev pub found : {A : Type 0} → ℕ → Option (List A) → Option (Got A)
found v o = option_map (λ t. record { value = v; rest = t }) o

-- what is left behind what was read
abbrev pub left_behind : {A : Type 0} → Option (Got A) → Option (List A)
left_behind o = option_map (λ g. g.rest) o

-- what f makes of what was read; nothing where nothing was
infixl 10 ◌>>=◌
abbrev pub ◌>>=◌ : {A B : Type 0} → Option A → (A → Option B) → Option B
o >>= f = option_and_then f o

-- one byte b
unfoldable pub skipped : ℕ → Option (List ℕ) → Option (List ℕ)
skipped b None = None
skipped b (Some []) = None
skipped b (Some (x ∷ s)) = pick (eqb x b) (Some s) None

-- the value of a digit; any other byte has none
unfoldable pub digit_of : ℕ → Option ℕ
digit_of x = pick (leb 48 x) (pick (leb x 57) (Some (x - 48)) None) None

-- the digits that follow the number v, which with them is at most `most`
unfoldable pub more_digits : ℕ → ℕ → List ℕ → Option (Got ℕ)
more_digits most v [] = Some (record { value = v; rest = [] })
more_digits most v (x ∷ s) =
    elim (digit_of x) [
      | None ↦ Some (record { value = v; rest = x ∷ s })
      | Some d ↦ pick (leb (v * 10 + d) most) (more_digits most (v * 10 + d) s) None
    ]

-- "no leading zero except 0 itself": 0 alone, or digits of which the first is not 0
unfoldable pub number_from : ℕ → Option ℕ → List ℕ → Option (Got ℕ)
number_from most None s = None
number_from most (Some zero) s = Some (record { value = 0; rest = drop 1 s })
number_from most (Some (suc d)) s = more_digits most 0 s

-- a number of at most `most`
unfoldable pub read_number : ℕ → Option (List ℕ) → Option (Got ℕ)
read_number most None = None
read_number most (Some s) = number_from most (digit_of (get_or s 0 0)) s
