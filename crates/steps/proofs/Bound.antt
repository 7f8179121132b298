-- The arithmetic of the bound: 2(q-1)k CNOTs for k columns on q qubits. Assumes nothing.
use mathlib.Core.Path.{◌≡◌, ap, subst}
use Prim.Native.Nat.{ℕ, zero, suc, ◌+◌, ◌-◌, ◌*◌, ◌≤◌, ◌<◌}
use native.Mathlib.Nat.{mul-add, add-mul, mul-le-mul_left, mul-le-mul_right, mul-one}
use native.Mathlib.Omega.{arith}

sum-up : (u j k₁ k a b : ℕ) → a ≤ u * j → b ≤ u * k₁ → j + k₁ ≤ k → a + b ≤ u * k
sum-up u j k₁ k a b ha hb h = omega (arith, ha, hb, mul-add u j k₁, mul-le-mul_left u h)

-- s is one less than the number of qubits
pub bound-base : (s k₀ k₁ k a b : ℕ) → a ≤ 2 * (s - 1) * k₀ → b ≤ 2 * s * k₁ → k₀ + k₁ ≤ k → a + b ≤ 2 * s * k
bound-base s k₀ k₁ k a b ha hb h =
    let w : 2 * (s - 1) ≤ 2 * s = omega arith in
    sum-up (2 * s) k₀ k₁ k a b (omega (arith, ha, mul-le-mul_right k₀ w)) hb h

pub bound-ones : (s k₀ k₁ k c a b : ℕ) → 1 ≤ s → c ≤ 2 → a ≤ 2 * (s - 1) * k₀ → b ≤ 2 * s * k₁ → k₀ + k₁ ≤ k → k₁ < k → c + (a + b) ≤ 2 * s * k
bound-ones s zero k₁ k c a b one hc ha hb h l =
    let r = sum-up (2 * s) 1 k₁ k (c + a) b (omega (arith, mul-one (2 * s))) hb (omega arith) in
    omega (arith, r)
bound-ones (suc s) (suc k₀) k₁ k c a b one hc ha hb h l =
    let e : 2 * suc s ≡ 2 * s + 2 = omega arith in
    let d : (2 * s + 2) * suc k₀ ≡ 2 * s * suc k₀ + 2 * suc k₀ = add-mul (2 * s) 2 (suc k₀) in
    let f : 2 * suc s * suc k₀ ≡ (2 * s + 2) * suc k₀ = ap (λ (n : ℕ). n * suc k₀) e in
    let m : suc s - 1 ≡ s = omega arith in
    let ha2 : a ≤ 2 * s * suc k₀ = subst (λ (n : ℕ). a ≤ 2 * n * suc k₀) m ha in
    let r = sum-up (2 * suc s) (suc k₀) k₁ k (c + a) b (omega (arith, f, d, ha2)) hb h in
    omega (arith, r)
bound-ones zero (suc k₀) k₁ k c a b one hc ha hb h l = absurd (omega arith)
