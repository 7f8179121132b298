-- An example of document 01, "Examples by number". Each crate lists those that it can state; the last one joins the lists.
use Rattle.std.specs.Prelude.{List, [], ◌∷◌, ℕ}

-- an example: its number, and what it says
pub record Example : Type 1 where
  pub number : ℕ
  pub says : Type 0

-- all of them hold
unfoldable pub AllHold : List Example → Type 0
AllHold [] = Unit {0}
AllHold (e ∷ es) = e.says × AllHold es
