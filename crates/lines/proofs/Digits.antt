-- The digits of a number, one more at a time. Assumes nothing.
use mathlib.Core.Path.{◌≡◌, refl}
use mathlib.Core.Bool.{Bool, true, false}
use mathlib.Core.List.{[], ◌∷◌, ◌++◌}
use Prim.Native.Nat.{ℕ, zero, suc, ◌+◌, ◌*◌, ◌/◌, ◌%◌, ◌≤◌, ◌<◌}
use native.Mathlib.Omega.{arith}
use lib.Dec.{ltb}
use borrow.Author.Tests.{ltb-false, lt-ltb, le-ltb}
use Rattle.lines.specs.Lines.{digits_in, digits}

-- fuel enough is enough
digits_in-fuel : (f g n : ℕ) → n < f → n < g → digits_in f n ≡ digits_in g n
unfolding digits_in
digits_in-fuel zero g n h k = absurd (omega arith)
digits_in-fuel (suc f) zero n h k = absurd (omega arith)
digits_in-fuel (suc f) (suc g) n h k = go (ltb n 10) refl (digits_in-fuel f g (n / 10))
  where
    go : (t : Bool) → ltb n 10 ≡ t → (n / 10 < f → n / 10 < g → digits_in f (n / 10) ≡ digits_in g (n / 10)) → digits_in (suc f) n ≡ digits_in (suc g) n
    go true e ih = rw (digits_in, e)
    go false e ih = let q : 10 ≤ n = ltb-false n 10 e in rw (digits_in, e, ih (omega arith) (omega arith))

pub digits-small : (n : ℕ) → n < 10 → digits n ≡ (48 + n) ∷ []
unfolding digits digits_in
digits-small n h = rw (lt-ltb n 10 h)

pub digits-big : (n : ℕ) → 10 ≤ n → digits n ≡ digits (n / 10) ++ ((48 + n % 10) ∷ [])
unfolding digits digits_in
digits-big n h = rw (le-ltb n 10 h, digits_in-fuel n (suc (n / 10)) (n / 10) (omega arith) (omega arith))

-- digit by digit, as the code goes
pub ruleset digit_steps = (digits-small, digits-big)

pub digits_step : (v k : ℕ) → 0 < v → k < 10 → digits (v * 10 + k) ≡ digits v ++ ((48 + k) ∷ [])
digits_step v k h j =
    let q : (v * 10 + k) / 10 ≡ v = omega arith in
    let r : (v * 10 + k) % 10 ≡ k = omega arith in
    rw (digits-big (v * 10 + k) (omega arith), q, r)
