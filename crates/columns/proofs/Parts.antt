-- The first columns of an array of 256, as many as are counted. Assumes nothing.
use mathlib.Core.Path.{◌≡◌, sym, ap, ◌∙◌}
use mathlib.Core.List.{List}
use Prim.Native.Nat.{ℕ, min, ◌<◌}
use native.Mathlib.Omega.{arith}
use native.Mathlib.Decide.{dec_lt}
use lib.ListN.{length, take}
use lib.Seq.{take_all}

module _ (count : ℕ) (xs : List ℕ) (all : length xs ≡ 256) (n : ℕ) (e : n ≡ min count 256) where
  pub part-is : take n xs ≡ take count xs
  part-is = go (dec_lt count 256)
    where
      go : Dec (count < 256) → take n xs ≡ take count xs
      go (yes l) = let z : n ≡ count = omega (arith, e) in ap (λ (k : ℕ). take k xs) z
      go (no l) = take_all n xs (omega (arith, e)) ∙ sym (take_all count xs (omega arith))
