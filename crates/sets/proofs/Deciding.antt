-- Tests joined by "both", and the facts that they decide. Assumes nothing.
use mathlib.Core.Path.{◌≡◌, refl, sym, ◌∙◌}
use mathlib.Core.Bool.{Bool, true, false}
use Prim.Native.Nat.{ℕ}
use native.Mathlib.Omega.{arith}
use Rattle.sets.specs.Pick.{both}

pub never : {x : Bool} → x ≡ true → x ≡ false → ⊥
never a b = let z : ◌≡◌ {A = Bool} true false = sym a ∙ b in let y : ◌≡◌ {A = ℕ} 0 1 = cc in omega arith

pub both_true : (a b : Bool) → both a b ≡ true → (a ≡ true) × (b ≡ true)
both_true true b e = (refl, e)
both_true false true e = (e, refl)
both_true false false e = (e, e)

pub both_yes : (a b : Bool) → a ≡ true → b ≡ true → both a b ≡ true
both_yes true b p q = q
both_yes false b p q = p

pub both-same : (a : Bool) → both a true ≡ a
both-same true = refl
both-same false = refl

pub both-no : (a b : Bool) → b ≡ false → both a b ≡ false
both-no true b q = q
both-no false b q = refl

pub both-not : (a b : Bool) → a ≡ false → both a b ≡ false
both-not true b p = absurd (never refl p)
both-not false b p = refl
