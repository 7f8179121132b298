-- Sums over places: one that counts, two together, a common factor, the other way round. Assumes nothing.
use mathlib.Core.Path.{◌≡◌, refl, sym, ap, ◌∙◌}
use mathlib.Core.Logic.{◌≢◌}
use Prim.Native.Nat.{ℕ, zero, suc, ◌+◌, ◌*◌, ◌^◌, ◌/◌, ◌<◌}
use native.Mathlib.Nat.{not-suc-le-zero, mul-add, pow-suc}
use native.Mathlib.Omega.{arith}
use native.Mathlib.Decide.{ℕ_discrete}
use lib.Arith.{lt-one}
use lib.Count.{ones, ones_step}
use Rattle.sets.specs.Bit.{bit}
use Rattle.sets.proofs.Bits.{bit-zero, bit-suc}
use Rattle.sets.proofs.Ones.{ones_of_zero}
use Rattle.sets.specs.Tables.{sum_to}
use Rattle.sets.proofs.Tabling.{sum-ext, sum-none}

-- only the place j counts
pub sum_one : (n : ℕ) (f : ℕ → ℕ) (j : ℕ) → j < n → ((k : ℕ) → k < n → k ≢ j → f k ≡ 0) → sum_to n f ≡ f j
unfolding sum_to
sum_one zero f j l h = absurd (not-suc-le-zero l)
sum_one (suc n) f j l h = go (ℕ_discrete n j) (sum_one n f j)
  where
    go : Dec (n ≡ j) → (j < n → ((k : ℕ) → k < n → k ≢ j → f k ≡ 0) → sum_to n f ≡ f j) → sum_to n f + f n ≡ f j
    go (yes e) ih = omega (arith, sum-none n f (λ k (b : k < n). h k (omega arith) (λ (d : k ≡ j). omega arith)), ap f e)
    go (no d) ih = omega (arith, ih (omega arith) (λ k b c. h k (omega arith) c), h n (omega arith) d)

pub sum-plus : (n : ℕ) (f g : ℕ → ℕ) → sum_to n (λ k. f k + g k) ≡ sum_to n f + sum_to n g
unfolding sum_to
sum-plus zero f g = refl
sum-plus (suc n) f g = omega (arith, sum-plus n f g)

pub sum-times : (n c : ℕ) (f : ℕ → ℕ) → sum_to n (λ k. c * f k) ≡ c * sum_to n f
unfolding sum_to
sum-times zero c f = omega arith
sum-times (suc n) c f = omega (arith, sum-times n c f, mul-add c (sum_to n f) (f n))

pub sum-swap : (n m : ℕ) (f : ℕ → ℕ → ℕ) → sum_to n (λ q. sum_to m (λ i. f q i)) ≡ sum_to m (λ i. sum_to n (λ q. f q i))
unfolding sum_to
sum-swap zero m f = sym (sum-none m (λ i. sum_to 0 (λ q. f q i)) (λ i l. refl))
sum-swap (suc n) m f = ap (λ (a : ℕ). a + sum_to m (λ i. f n i)) (sum-swap n m f) ∙ sym (sum-plus m (λ i. sum_to n (λ q. f q i)) (λ i. f n i))

sum_first : (n : ℕ) (f : ℕ → ℕ) → sum_to (suc n) f ≡ f 0 + sum_to n (λ k. f (suc k))
unfolding sum_to
sum_first zero f = omega arith
sum_first (suc n) f = omega (arith, sum_first n f)

-- a set has as many members as it has bits
pub ones-bits : (n x : ℕ) → x < 2 ^ n → ones x ≡ sum_to n (bit x)
unfolding sum_to
ones-bits zero x l = ap ones (lt-one l) ∙ ones_of_zero
ones-bits (suc n) x l =
    let l2 : x < 2 ^ n * 2 = rw pow-suc at l in
    omega (arith, ones_step x, ones-bits n (x / 2) (omega arith), sum_first n (bit x), bit-zero x, sum-ext n (bit (x / 2)) (λ k. bit x (suc k)) (λ k b. sym (bit-suc x k)))
