-- The divisors of pi are the powers of two from 1 to pi, in units and in half units. Assumes nothing.
use mathlib.Core.Path.{◌≡◌, refl, sym, ap, ◌∙◌}
use mathlib.Core.Bool.{Bool, true, false}
use Prim.Native.Nat.{ℕ, zero, suc, ◌+◌, ◌-◌, ◌*◌, ◌/◌, ◌%◌, ◌^◌, ◌≤◌}
use lib.Dec.{eqb, ltb}
use borrow.Author.Tests.{eqb-true, eqb-false, lt-ltb, eq-eqb}
use native.Mathlib.Nat.{div-add-mod', mul_assoc, mul_left_comm, mul_comm, mul-le-mul, add-mul, two-pow-succ, mul-mod_right}
use lib.Pow.{pow-add, pow_pos}
use native.Mathlib.Omega.{arith}
use Rattle.sets.specs.Pick.{both}
use Rattle.angles.specs.declared.Scale.{Scale}
use Rattle.angles.specs.declared.Scale.TheVariants.{Units, Halves}
use Rattle.angles.specs.Units.{pi_in, is_over}

-- a power of two, of which the exponent is at most n
pub record Power (d n : ℕ) : Type 0 where
  pub exponent : ℕ
  pub most : exponent ≤ n
  pub same : d ≡ 2 ^ exponent

one_only : (d q : ℕ) → d * q ≡ 1 → d ≡ 1
one_only zero q h = omega arith
one_only (suc zero) q h = refl
one_only (suc (suc d)) zero h = let z : suc (suc d) * 0 ≡ 0 = omega arith in omega arith
one_only (suc (suc d)) (suc q) h = let a : 2 ≤ suc (suc d) = omega arith in let b : 1 ≤ suc q = omega arith in omega (arith, mul-le-mul a b)

-- a factor of a power of two is one
power : (n d q : ℕ) → d * q ≡ 2 ^ n → Power d n
power zero d q h = record { exponent = 0; most = omega arith; same = one_only d q h }
power (suc n) d q h = go (eqb (d % 2) 0) refl (power n (d / 2) q) (power n d (q / 2))
  where
    go : (t : Bool) → eqb (d % 2) 0 ≡ t → (d / 2 * q ≡ 2 ^ n → Power (d / 2) n) → (d * (q / 2) ≡ 2 ^ n → Power d n) → Power d (suc n)
    go true t even odd =
        let z = eqb-true (d % 2) 0 t in
        let w : d ≡ 2 * (d / 2) = omega arith in
        let r = even (omega (arith, ap (λ x. x * q) w, mul_assoc 2 (d / 2) q, h, two-pow-succ n)) in
        record { exponent = suc r.exponent; most = omega (arith, r.most); same = omega (arith, w, r.same, two-pow-succ r.exponent) }
    go false t even odd =
        let z = eqb-false (d % 2) 0 t in
        let w : d ≡ 2 * (d / 2) + 1 = omega arith in
        let v : d * q ≡ 2 * (d / 2 * q) + q = ap (λ x. x * q) w ∙ add-mul (2 * (d / 2)) 1 q ∙ omega (arith, mul_assoc 2 (d / 2) q) in
        let p : q ≡ 2 * (q / 2) = omega (arith, v, h, two-pow-succ n) in
        let r = odd (omega (arith, ap (λ x. d * x) p, mul_left_comm d 2 (q / 2), h, two-pow-succ n)) in
        record { exponent = r.exponent; most = omega (arith, r.most); same = r.same }

-- pi is 2 ^ 15 units, 2 ^ 16 half units
abbrev pub most_exponent : Scale → ℕ
most_exponent Units = 15
most_exponent Halves = 16

pi-power : (c : Scale) → 2 ^ most_exponent c ≡ pi_in c
pi-power Units = refl
pi-power Halves = refl

-- what is no divisor of pi is refused
over-divides : (c : Scale) (d : ℕ) → is_over c d ≡ true → pi_in c % d ≡ 0
unfolding is_over
over-divides c d h = go (ltb 0 d) (eqb (pi_in c % d) 0) refl h
  where
    go : (t u : Bool) → eqb (pi_in c % d) 0 ≡ u → both t u ≡ true → pi_in c % d ≡ 0
    go true true q e = eqb-true (pi_in c % d) 0 q
    go true false q e = let z : ◌≡◌ {A = ℕ} 0 1 = cc e in absurd (omega arith)
    go false u q e = let z : ◌≡◌ {A = ℕ} 0 1 = cc e in absurd (omega arith)

-- exactly: k * pi / d has k times pi over d, and nothing is lost
pub exact : (c : Scale) (d : ℕ) → is_over c d ≡ true → pi_in c / d * d ≡ pi_in c
exact c d h = omega (arith, div-add-mod' (pi_in c) d, over-divides c d h)

-- "a power of two from 1 to 32768", and for half units to 65536, both ways
pub over-power : (c : Scale) (d : ℕ) → is_over c d ≡ true → Power d (most_exponent c)
over-power c d h = power (most_exponent c) d (pi_in c / d) (mul_comm d (pi_in c / d) ∙ exact c d h ∙ sym (pi-power c))

few : (c : Scale) (e : ℕ) → e ≤ most_exponent c → is_over c (2 ^ e) ≡ true
unfolding is_over
few c e h =
    let n = most_exponent c in
    let z : n ≡ e + (n - e) = omega arith in
    let w : pi_in c % 2 ^ e ≡ 0 = ap (λ m. m % 2 ^ e) (sym (pi-power c) ∙ ap (λ m. 2 ^ m) z ∙ pow-add 2 e (n - e)) ∙ mul-mod_right (2 ^ e) (2 ^ (n - e)) in
    rw (lt-ltb 0 (2 ^ e) (pow_pos e), eq-eqb (pi_in c % 2 ^ e) 0 w)

pub power-over : (c : Scale) (d : ℕ) → Power d (most_exponent c) → is_over c d ≡ true
power-over c d p = ap (is_over c) p.same ∙ few c p.exponent p.most
