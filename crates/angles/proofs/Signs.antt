-- The code's signed numbers are the definition's: the sign given to a size, and the remainder with 131,072 more where it is negative. Assumes nothing.
-- A signed local holds bits: what is read back from the bits of a number that fits is that number (`to_z-of_z`).
use mathlib.Core.Path.{◌≡◌, refl, sym, ap, ◌∙◌, subst}
use mathlib.Core.Bool.{Bool, true, false}
use Prim.Native.Nat.{ℕ, zero, suc, ◌+◌, ◌-◌, ◌*◌, ◌/◌, ◌%◌, ◌≤◌, ◌<◌}
use lib.Dec.{T}
use lib.IntN.{ℤ, pos, negsuc, neg_ℤ, nat_abs, ◌+ℤ◌, ◌-ℤ◌, ◌*ℤ◌, +ℤ_idl}
use lib.Signed.{mag, non_neg, lt_z, quot_z, rem_z}
use mir.Syntax.{w32, w64}
use mir.Val.{Fits, SFits, to_z, of_z}
use mir.ValLaws.{to_z-of_z, to_z_pos}
use borrow.Author.Tests.{ltb-true, le-ltb}
use native.Mathlib.Nat.{mul-le-mul, mul-zero, div-zero, div-le_self}
use native.Mathlib.Omega.{arith}
use Rattle.angles.specs.declared.Scale.{Scale}
use Rattle.angles.specs.declared.Scale.TheVariants.{Units, Halves}
use Rattle.angles.specs.Units.{pi_in, signed_of, reduced_of}

fits-64 : (z : ℤ) → mag z < 9223372036854775808 → SFits w64 z
fits-64 z h = record { sfits = h }

under : (n m : ℕ) → n < m → mag (neg_ℤ (pos n)) < m
under zero m h = h
under (suc n) m h = omega arith

-- ---- the sign of a size

module _ (k each : ℕ) (f : Fits w32 k) (h : each ≤ 65536) where
  -- the product as the code has it
  abbrev product : ℤ
  product = to_z w64 k *ℤ to_z w64 each

  size_small : k * each < 9223372036854775808
  size_small = let l : k ≤ 4294967295 = omega arith in omega (arith, mul-le-mul l h)

  product_is : product ≡ pos (k * each)
  product_is =
      let m : k < 9223372036854775808 = omega arith in
      let n : each < 9223372036854775808 = omega arith in
      ap (λ (y : ℤ). y *ℤ to_z w64 each) (to_z_pos w64 k m) ∙ ap (λ (y : ℤ). pos k *ℤ y) (to_z_pos w64 each n)

  pub product-fits : SFits w64 product
  product-fits = subst (SFits w64) (sym product_is) (fits-64 (pos (k * each)) size_small)

  -- the size as the code has it
  abbrev size : ℤ
  size = to_z w64 (of_z w64 product)

  size_is : size ≡ pos (k * each)
  size_is = to_z-of_z w64 product product-fits ∙ product_is

  minus-of : pos 0 -ℤ size ≡ signed_of true (k * each)
  unfolding signed_of
  minus-of = ap (λ (y : ℤ). pos 0 -ℤ y) size_is ∙ +ℤ_idl (neg_ℤ (pos (k * each)))

  pub minus-fits : SFits w64 (pos 0 -ℤ size)
  unfolding signed_of
  minus-fits = subst (SFits w64) (sym minus-of) (fits-64 (neg_ℤ (pos (k * each))) (under (k * each) 9223372036854775808 size_small))

  pub minus_is : to_z w64 (of_z w64 (pos 0 -ℤ size)) ≡ signed_of true (k * each)
  minus_is = to_z-of_z w64 (pos 0 -ℤ size) minus-fits ∙ minus-of

  pub plus-is : size ≡ signed_of false (k * each)
  unfolding signed_of
  plus-is = size_is

-- over 0 there is nothing: dividing by 0 gives 0
pub none_is : (c : Scale) (minus : Bool) (k d : ℕ) → d ≡ 0 → pos 0 ≡ signed_of minus (k * (pi_in c / d))
unfolding signed_of
none_is c minus k d h = go minus (ap (λ e. k * (pi_in c / e)) h ∙ ap (λ m. k * m) (div-zero (pi_in c)) ∙ mul-zero k)
  where
    go : (m : Bool) → k * (pi_in c / d) ≡ 0 → pos 0 ≡ signed_of m (k * (pi_in c / d))
    go true z = sym (ap (λ u. neg_ℤ (pos u)) z)
    go false z = sym (ap pos z)

-- pi over d is no more than pi, in either scale
pub each-small : (c : Scale) (d : ℕ) → pi_in c / d ≤ 65536
each-small Units d = omega (arith, div-le_self 32768 d)
each-small Halves d = div-le_self 65536 d

-- ---- the remainder

-- what is left of z when multiples of 131,072 are taken away toward 0
abbrev rest : ℤ → ℤ
rest z = rem_z z (pos 131072)

rest-small : (z : ℤ) → mag (rest z) < 131072
rest-small (pos a) = omega arith
rest-small (negsuc a) = under (suc a % 131072) 131072 (omega arith)

-- a number that is not negative, and what it is below
record PosBelow (m : ℕ) (z : ℤ) : Type 0 where
  number : ℕ
  less : number < m
  same : z ≡ pos number

-- 131,072 more than what is left is never negative
above : (z : ℤ) → PosBelow 262144 (rest z +ℤ pos 131072)
above (pos a) = record { number = a % 131072 + 131072; less = omega arith; same = refl }
above (negsuc a) = go (suc a % 131072) (omega arith)
  where
    go : (r : ℕ) → r < 131072 → PosBelow 262144 (neg_ℤ (pos r) +ℤ pos 131072)
    go zero h = record { number = 131072; less = omega arith; same = refl }
    go (suc m) h = let l : suc m ≤ 131072 = omega arith in record { number = 131072 - suc m; less = omega arith; same = rw (le-ltb 131072 (suc m) l) }

below : (n : ℕ) → lt_z (pos n) (pos 0) ≡ true → ⊥
below n t = let h = ltb-true n 0 t in omega arith

-- where it is negative, 131,072 more is the count
turn_more : (z : ℤ) → lt_z (rest z) (pos 0) ≡ true → rest z +ℤ pos 131072 ≡ pos (reduced_of z)
unfolding reduced_of
turn_more (pos a) t = absurd (below (a % 131072) t)
turn_more (negsuc a) t = go (suc a % 131072) refl t
  where
    go : (r : ℕ) → suc a % 131072 ≡ r → lt_z (neg_ℤ (pos r)) (pos 0) ≡ true → neg_ℤ (pos r) +ℤ pos 131072 ≡ pos (131071 - a % 131072)
    go zero e u = absurd (below 0 u)
    go (suc m) e u =
        let h : suc m ≤ 131072 = omega arith in
        let w : 131072 - suc m ≡ 131071 - a % 131072 = omega arith in
        rw (le-ltb 131072 (suc m) h, w)

-- where it is not, it is the count
turn-whole : (z : ℤ) → lt_z (rest z) (pos 0) ≡ false → rest z ≡ pos (reduced_of z)
unfolding reduced_of
turn-whole (pos a) t = refl
turn-whole (negsuc a) t = go (suc a % 131072) refl t
  where
    go : (r : ℕ) → suc a % 131072 ≡ r → lt_z (neg_ℤ (pos r)) (pos 0) ≡ false → neg_ℤ (pos r) ≡ pos (131071 - a % 131072)
    go zero e u = let w : 0 ≡ 131071 - a % 131072 = omega arith in ap pos w
    go (suc m) e u = let z : ◌≡◌ {A = ℕ} 0 1 = cc u in absurd (omega arith)

pub reduced-lt : (z : ℤ) → reduced_of z < 131072
unfolding reduced_of
reduced-lt (pos n) = omega arith
reduced-lt (negsuc n) = omega arith

pub quotient_fits : (z : ℤ) → SFits w64 z → SFits w64 (quot_z (to_z w64 (of_z w64 z)) (pos 131072))
quotient_fits z f = subst (λ (y : ℤ). SFits w64 (quot_z y (pos 131072))) (sym (to_z-of_z w64 z f)) (go z f)
  where
    go : (z : ℤ) → SFits w64 z → SFits w64 (quot_z z (pos 131072))
    go (pos a) f = fits-64 (pos (a / 131072)) (omega (arith, f.sfits))
    go (negsuc a) f = fits-64 (neg_ℤ (pos (suc a / 131072))) (under (suc a / 131072) 9223372036854775808 (omega (arith, f.sfits)))

-- a number that is not negative and not large fits a u32
cast_fits : (y : ℤ) → PosBelow 262144 y → T (non_neg y) × Fits w32 (nat_abs y)
cast_fits y b = subst (λ (x : ℤ). T (non_neg x) × Fits w32 (nat_abs x)) (sym b.same) (tt, record { fits = omega (arith, b.less) })

module _ (z : ℤ) (f : SFits w64 z) where
  -- the remainder as the code has it
  abbrev had : ℤ
  had = to_z w64 (of_z w64 (rem_z (to_z w64 (of_z w64 z)) (pos 131072)))

  had-is : had ≡ rest z
  had-is = ap (λ (y : ℤ). to_z w64 (of_z w64 (rem_z y (pos 131072)))) (to_z-of_z w64 z f) ∙ to_z-of_z w64 (rest z) (fits-64 (rest z) (omega (arith, rest-small z)))

  had-above : PosBelow 262144 (had +ℤ pos 131072)
  had-above = subst (λ (y : ℤ). PosBelow 262144 (y +ℤ pos 131072)) (sym had-is) (above z)

  pub more-fits : SFits w64 (had +ℤ pos 131072)
  more-fits = subst (SFits w64) (sym had-above.same) (fits-64 (pos had-above.number) (omega (arith, had-above.less)))

  more-back : to_z w64 (of_z w64 (had +ℤ pos 131072)) ≡ had +ℤ pos 131072
  more-back = to_z-of_z w64 (had +ℤ pos 131072) more-fits

  pub more-casts : T (non_neg (to_z w64 (of_z w64 (had +ℤ pos 131072)))) × Fits w32 (nat_abs (to_z w64 (of_z w64 (had +ℤ pos 131072))))
  more-casts = cast_fits (to_z w64 (of_z w64 (had +ℤ pos 131072))) (record { number = had-above.number; less = had-above.less; same = more-back ∙ had-above.same })

  pub more-count : lt_z had (pos 0) ≡ true → nat_abs (to_z w64 (of_z w64 (had +ℤ pos 131072))) ≡ reduced_of z
  more-count t = ap nat_abs (more-back ∙ ap (λ (y : ℤ). y +ℤ pos 131072) had-is ∙ turn_more z (sym (ap (λ (y : ℤ). lt_z y (pos 0)) had-is) ∙ t))

  whole : lt_z had (pos 0) ≡ false → had ≡ pos (reduced_of z)
  whole t = had-is ∙ turn-whole z (sym (ap (λ (y : ℤ). lt_z y (pos 0)) had-is) ∙ t)

  pub whole-casts : lt_z had (pos 0) ≡ false → T (non_neg had) × Fits w32 (nat_abs had)
  whole-casts t = cast_fits had (record { number = reduced_of z; less = omega (arith, reduced-lt z); same = whole t })

  pub whole-count : lt_z had (pos 0) ≡ false → nat_abs had ≡ reduced_of z
  whole-count t = ap nat_abs (whole t)
