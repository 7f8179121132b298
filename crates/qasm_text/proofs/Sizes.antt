-- The qubits of a record that the writer accepts. Assumes nothing.
use mathlib.Core.Path.{◌≡◌, refl}
use mathlib.Core.Logic.{inl, inr}
use mathlib.Core.Bool.{Bool, true, false}
use Prim.Native.Nat.{ℕ, ◌<◌}
use lib.Dec.{ltb}
use borrow.Author.Tests.{ltb-true, ltb-false}
use Rattle.gates.specs.Layout.{kind_in, a_in, b_in}
use Rattle.verdicts.specs.Rows.{BadDrawn}

-- the qubits of a good record
module _ (n x : ℕ) (good : BadDrawn n x → ⊥) where
  pub first-within : a_in x < n
  first-within = go (ltb (a_in x) n) refl
    where
      go : (t : Bool) → ltb (a_in x) n ≡ t → a_in x < n
      go true e = ltb-true (a_in x) n e
      go false e = absurd (good (inr (inl (ltb-false (a_in x) n e))))

  pub second-within : kind_in x ≡ 1 → b_in x < n
  second-within k = go (ltb (b_in x) n) refl
    where
      go : (t : Bool) → ltb (b_in x) n ≡ t → b_in x < n
      go true e = ltb-true (b_in x) n e
      go false e = absurd (good (inr (inr (inl (k, inl (ltb-false (b_in x) n e))))))
