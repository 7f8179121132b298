-- What an angle's count is: below 131,072, exact but for multiples of it, with the two signs taking each other away; and the units of a record, modulo one turn. Assumes nothing.
use mathlib.Core.Path.{◌≡◌, refl, ap, ◌∙◌}
use mathlib.Core.Bool.{Bool, true, false}
use Prim.Native.Nat.{ℕ, zero, suc, ◌+◌, ◌-◌, ◌*◌, ◌/◌, ◌%◌, ◌<◌}
use native.Mathlib.Nat.{add-mul, mul-add, mul_assoc, mul_comm}
use native.Mathlib.Omega.{arith}
use lib.IntN.{ℤ, pos, negsuc, neg_ℤ, ◌+ℤ◌, ◌*ℤ◌}
use borrow.Author.Tests.{lt-ltb}
use Rattle.angles.specs.declared.Scale.{Scale}
use Rattle.angles.specs.declared.Scale.TheVariants.{Units, Halves}
use Rattle.angles.specs.Units.{pi_in, is_over, signed_of, reduced_of, angle_in, units_of}
use Rattle.angles.proofs.Powers.{exact}

-- z is u and multiples of m, forth or back
pub record Turns (m : ℕ) (z : ℤ) (u : ℕ) : Type 0 where
  pub turns : ℤ
  pub same : pos u +ℤ turns *ℤ pos m ≡ z

turns-forth : (m n u q : ℕ) → u + q * m ≡ n → Turns m (pos n) u
turns-forth m n u q e = record { turns = pos q; same = ap pos e }

back : (m n : ℕ) → m ≡ suc n → neg_ℤ (pos m) ≡ negsuc n
back zero n h = absurd (omega arith)
back (suc m) n h = let e : m ≡ n = omega arith in ap negsuc e

turns-back : (m n u q : ℕ) → suc q * m ≡ suc (n + u) → Turns m (negsuc n) u
turns-back m n u q h =
    let l : u < suc (n + u) = omega arith in
    let e : suc (n + u) - suc u ≡ n = omega arith in
    let s : pos u +ℤ negsuc (n + u) ≡ negsuc n = rw (lt-ltb u (suc (n + u)) l, e) in
    record { turns = negsuc q; same = ap (λ (y : ℤ). pos u +ℤ y) (back (suc q * m) (n + u) h) ∙ s }

-- what is reduced differs from z by multiples of 131,072
pub reduced-turns : (z : ℤ) → Turns 131072 z (reduced_of z)
unfolding reduced_of
reduced-turns (pos n) = turns-forth 131072 n (n % 131072) (n / 131072) (omega arith)
reduced-turns (negsuc n) = turns-back 131072 n (131071 - n % 131072) (n / 131072) (omega arith)

-- and within one turn, by whole turns of 65,536
reduced-one-turn : (z : ℤ) → Turns 65536 z (reduced_of z % 65536)
unfolding reduced_of
reduced-one-turn (pos n) = turns-forth 65536 n (n % 131072 % 65536) (n / 65536) (omega arith)
reduced-one-turn (negsuc n) = turns-back 65536 n ((131071 - n % 131072) % 65536) (n / 65536) (omega arith)

-- the units of a record differ from the signed multiple of pi by whole turns
pub units-one-turn : (minus : Bool) (k d : ℕ) → Turns 65536 (signed_of minus (k * (32768 / d))) (units_of minus k d)
unfolding units_of angle_in
units-one-turn minus k d = reduced-one-turn (signed_of minus (k * (32768 / d)))

-- k * pi over all that pi counts is k
pub count-written : (c : Scale) (k : ℕ) → k < 131072 → angle_in c false k (pi_in c) ≡ k
unfolding angle_in reduced_of signed_of
count-written Units k h = omega arith
count-written Halves k h = omega arith

-- "We write `u1(k*pi/32768)`": that is k units
pub units-written : (k : ℕ) → k < 65536 → units_of false k 32768 ≡ k
unfolding units_of
units-written k h = omega (arith, count-written Units k (omega arith))

-- a minus takes the angle from 0: both together are a multiple of 131,072
pub count-minus : (c : Scale) (k d : ℕ) → (angle_in c true k d + angle_in c false k d) % 131072 ≡ 0
unfolding angle_in reduced_of signed_of
count-minus c k d = go (k * (pi_in c / d))
  where
    go : (u : ℕ) → (reduced_of (neg_ℤ (pos u)) + u % 131072) % 131072 ≡ 0
    go zero = refl
    go (suc n) = omega arith

-- 0, at either sign and over anything
pub count-zero : (c : Scale) (minus : Bool) (d : ℕ) → angle_in c minus 0 d ≡ 0
unfolding angle_in reduced_of signed_of
count-zero c true d = let z : 0 * (pi_in c / d) ≡ 0 = omega arith in ap (λ u. reduced_of (neg_ℤ (pos u))) z
count-zero c false d = let z : 0 * (pi_in c / d) ≡ 0 = omega arith in ap (λ u. u % 131072) z

-- over d, n is m and multiples of 131,072
pub record ExactlyOver (d m n : ℕ) : Type 0 where
  pub turns : ℕ
  pub same : m + 131072 * d * turns ≡ n

-- exact: d times the count of k * pi / d is k times that of pi, but for multiples of 131,072
pub count-exact : (c : Scale) (k d : ℕ) → is_over c d ≡ true → ExactlyOver d (angle_in c false k d * d) (k * pi_in c)
unfolding angle_in reduced_of signed_of
count-exact c k d h =
    let e = pi_in c / d in
    let q = k * e / 131072 in
    let w : k * e % 131072 + 131072 * q ≡ k * e = omega arith in
    let b : (k * e % 131072 + 131072 * q) * d ≡ k * pi_in c = ap (λ x. x * d) w ∙ mul_assoc k e d ∙ ap (λ x. k * x) (exact c d h) in
    let s : 131072 * d * q ≡ 131072 * q * d = mul_assoc 131072 d q ∙ ap (λ x. 131072 * x) (mul_comm d q) ∙ omega (arith, mul_assoc 131072 q d) in
    record { turns = q; same = omega (arith, b, s, add-mul (k * e % 131072) (131072 * q) d) }

-- and with a minus, both together are multiples of 131,072
pub count-exact-minus : (c : Scale) (k d : ℕ) → is_over c d ≡ true → ExactlyOver d 0 (angle_in c true k d * d + k * pi_in c)
count-exact-minus c k d h =
    let p = count-exact c k d h in
    let u = angle_in c true k d in
    let v = angle_in c false k d in
    let t = (u + v) / 131072 in
    let w : u + v ≡ 131072 * t = omega (arith, count-minus c k d) in
    let b : (u + v) * d ≡ 131072 * d * t = ap (λ x. x * d) w ∙ mul_assoc 131072 t d ∙ ap (λ x. 131072 * x) (mul_comm t d) ∙ omega (arith, mul_assoc 131072 d t) in
    record { turns = t + p.turns; same = omega (arith, b, add-mul u v d, p.same, mul-add (131072 * d) t p.turns) }

-- exact at both ends: 65535 * pi, and pi / 32768
pub at-the-ends : (units_of false 65535 1 ≡ 32768) × (units_of true 65535 1 ≡ 32768) × (units_of false 1 32768 ≡ 1) × (units_of true 1 32768 ≡ 65535) × (units_of true 65535 32768 ≡ 1)
unfolding units_of angle_in reduced_of signed_of
at-the-ends = (refl, refl, refl, refl, refl)

-- pi, 3 * pi / 2, and "`-pi/4` is -8,192 units, so 57,344"
pub between-the-ends : (units_of false 1 1 ≡ 32768) × (units_of false 3 2 ≡ 49152) × (signed_of true (1 * (32768 / 4)) ≡ negsuc 8191) × (units_of true 1 4 ≡ 57344)
unfolding units_of angle_in reduced_of signed_of
between-the-ends = (refl, refl, refl, refl)

-- "modulo two turns" of units: 2 * pi is one turn, 4 * pi is nothing, and -pi / 32768 one unit less than two turns
pub two-turns : (angle_in Units false 2 1 ≡ 65536) × (angle_in Units false 4 1 ≡ 0) × (angle_in Units true 1 32768 ≡ 131071)
unfolding angle_in reduced_of signed_of
two-turns = (refl, refl, refl)

-- half units, to the ends: 131071 * pi / 65536, either way
pub halves-at-the-ends : (angle_in Halves false 131071 65536 ≡ 131071) × (angle_in Halves true 131071 65536 ≡ 1)
unfolding angle_in reduced_of signed_of
halves-at-the-ends = (refl, refl)
