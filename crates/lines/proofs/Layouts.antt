-- The arithmetic of a record, as the code does it. Assumes nothing.
use mathlib.Core.Path.{◌≡◌, refl}
use Prim.Native.Nat.{ℕ, ◌/◌, ◌%◌, ◌<◌}
use native.Mathlib.Omega.{arith}
use Rattle.gates.specs.Layout.{a_in, b_in}

pub a-is : (x : ℕ) → x / 65536 % 256 ≡ a_in x
unfolding a_in
a-is x = refl

pub a_lt : (x : ℕ) → a_in x < 256
unfolding a_in
a_lt x = omega arith

pub b_lt : (x : ℕ) → b_in x < 65536
unfolding b_in
b_lt x = omega arith
