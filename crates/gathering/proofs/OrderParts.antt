-- A part of a small set is small. Assumes nothing.
use mathlib.Core.Path.{◌≡◌, sym, ◌∙◌}
use mathlib.Core.Logic.{◌⊎◌, inl, inr}
use Prim.Native.Nat.{ℕ, zero, suc, ◌/◌, ◌^◌, ◌≤◌, ◌<◌, suc-le-suc}
use native.Mathlib.Nat.{pow-suc}
use native.Mathlib.Omega.{arith}
use Rattle.sets.specs.Bit.{bit, Sub}
use Rattle.sets.proofs.Bits.{bit-suc, bit-cases, bit_high, zero-ext}

pub bits-lt : (k x : ℕ) → ((i : ℕ) → k ≤ i → bit x i ≡ 0) → x < 2 ^ k
bits-lt zero x h = let z : x ≡ 0 = zero-ext x (λ i. h i (omega arith)) in omega arith
bits-lt (suc k) x h =
    let l : x / 2 < 2 ^ k = bits-lt k (x / 2) (λ i m. sym (bit-suc x i) ∙ h (suc i) (suc-le-suc m)) in
    rw pow-suc (omega arith)

pub sub-lt : (x Q k : ℕ) → Sub x Q → Q < 2 ^ k → x < 2 ^ k
sub-lt x Q k f l = bits-lt k x (λ i m. none i m (bit-cases x i))
  where
    none : (i : ℕ) → k ≤ i → (bit x i ≡ 0) ⊎ (bit x i ≡ 1) → bit x i ≡ 0
    none i m (inl z) = z
    none i m (inr h) = absurd (omega (arith, f i h, bit_high k Q i l m))
