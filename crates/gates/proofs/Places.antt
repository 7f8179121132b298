-- A list with a place for each of 20 wires says 0 past its end. Assumes nothing.
use mathlib.Core.Path.{◌≡◌, sym, subst}
use mathlib.Core.List.{List}
use Prim.Native.Nat.{ℕ, ◌≤◌}
use lib.ListN.{length, get_or, get_or-eq_default}

pub wire-past : (q : ℕ) (W : List ℕ) → length W ≡ 20 → 20 ≤ q → 0 ≡ get_or W q 0
wire-past q W e h = sym (get_or-eq_default W 0 (subst (λ (n : ℕ). n ≤ q) (sym e) h))
