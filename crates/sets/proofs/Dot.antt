-- The number of common members modulo 2, and Law 2. Assumes nothing.
use mathlib.Core.Path.{◌≡◌, refl, sym, ap, ap₂, ◌∙◌}
use mathlib.Core.Logic.{◌≢◌}
use Prim.Native.Nat.{ℕ, zero, suc, ◌+◌, ◌*◌, ◌/◌, ◌%◌, ◌^◌, ◌<◌}
use native.Mathlib.Nat.{zero-lt-suc, mod-lt, mul-one, mod-add-mod, add-mod-mod}
use native.Mathlib.Omega.{arith}
use lib.Arith.{bin_ind}
use lib.Bits.{bit_and, bit_xor, and_comm}
use lib.Count.{ones, ones_step}
use Rattle.sets.specs.Bit.{bit, when}
use Rattle.sets.specs.Columns.{turn, dot}
use Rattle.sets.proofs.Bits.{by_bit, bit-zero, bit-suc, bit-lt, xor_low, xor-half, and_low, and-half, pow-half, pow_even, when-zero}
use Rattle.sets.proofs.Ones.{ones_of_zero}
use Rattle.sets.proofs.Turn.{turn_is, turn-other}

pub dot-lt : (x y : ℕ) → dot x y < 2
unfolding dot
dot-lt x y = omega arith

pub dot-step : (x y : ℕ) → dot x y ≡ (x % 2 * (y % 2) + dot (x / 2) (y / 2)) % 2
unfolding dot
dot-step x y =
    let e : ones (bit_and x y) ≡ x % 2 * (y % 2) + ones (bit_and (x / 2) (y / 2)) = ones_step (bit_and x y) ∙ ap₂ (λ (a b : ℕ). a + ones b) (and_low x y) (and-half x y) in
    omega arith

pub dot-comm : (x y : ℕ) → dot x y ≡ dot y x
unfolding dot
dot-comm x y = ap (λ (n : ℕ). ones n % 2) (and_comm x y)

pub dot-zero : (y : ℕ) → dot 0 y ≡ 0
unfolding dot
dot-zero y = rw ones_of_zero

-- dot is linear
pub dot-xor : (y a b : ℕ) → dot (bit_xor a b) y ≡ (dot a y + dot b y) % 2
dot-xor =
    bin_ind (λ (y : ℕ). (a b : ℕ) → dot (bit_xor a b) y ≡ (dot a y + dot b y) % 2)
    (λ a b. dot-comm (bit_xor a b) 0 ∙ dot-zero (bit_xor a b) ∙ sym (ap₂ (λ (m n : ℕ). (m + n) % 2) (dot-comm a 0 ∙ dot-zero a) (dot-comm b 0 ∙ dot-zero b)))
    (λ y ih a b.
    dot-step (bit_xor a b) y
    ∙ ap₂ (λ (m n : ℕ). (m * (y % 2) + n) % 2) (xor_low a b) (ap (λ (n : ℕ). dot n (y / 2)) (xor-half a b) ∙ ih (a / 2) (b / 2))
    ∙ mid (a % 2) (b % 2) (dot (a / 2) (y / 2)) (dot (b / 2) (y / 2)) (y % 2) (mod-lt y (zero-lt-suc 1))
    ∙ sym (ap₂ (λ (m n : ℕ). (m + n) % 2) (dot-step a y) (dot-step b y)))
  where
    mid : (p q m n r : ℕ) → r < 2 → ((p + q) % 2 * r + (m + n) % 2) % 2 ≡ ((p * r + m) % 2 + (q * r + n) % 2) % 2
    mid p q m n = by_bit (λ (r : ℕ). ((p + q) % 2 * r + (m + n) % 2) % 2 ≡ ((p * r + m) % 2 + (q * r + n) % 2) % 2)
        (omega arith) (simp (mul-one, mod-add-mod, add-mod-mod) (ap (λ (k : ℕ). k % 2) (omega arith)))

pub dot-pow : (q y : ℕ) → dot (2 ^ q) y ≡ bit y q
dot-pow zero y = dot-step 1 y ∙ rw (dot-zero, bit-zero) (omega arith)
dot-pow (suc q) y = dot-step (2 ^ suc q) y ∙ rw (pow-half, pow_even, dot-pow q (y / 2), bit-suc) (omega (arith, bit-lt (y / 2) q))

pub dot-when : (b x y : ℕ) → dot (when b x) y ≡ when b (dot x y)
dot-when zero x y = dot-zero y
dot-when (suc b) x y = refl

-- LAW 2
pub dot-turn : (x y c t : ℕ) → c < 32 → t < 32 → c ≢ t → dot (turn c t x) (turn t c y) ≡ dot x y
dot-turn x y c t lc lt ne =
    ap (λ (z : ℕ). dot z (turn t c y)) (turn_is x c t lc) ∙ dot-xor (turn t c y) x (when (bit x t) (2 ^ c))
    ∙ ap₂ (λ (m n : ℕ). (m + n) % 2)
    (dot-comm x (turn t c y) ∙ ap (λ (z : ℕ). dot z x) (turn_is y t c lt) ∙ dot-xor x y (when (bit y c) (2 ^ t))
    ∙ ap₂ (λ (m n : ℕ). (m + n) % 2) (dot-comm y x) (dot-when (bit y c) (2 ^ t) x ∙ ap (when (bit y c)) (dot-pow t x)))
    (dot-when (bit x t) (2 ^ c) (turn t c y) ∙ ap (when (bit x t)) (dot-pow c (turn t c y) ∙ turn-other y t c c (λ e. ne (sym e))))
    ∙ by_bit (λ (b : ℕ). ((dot x y + when (bit y c) b) % 2 + when b (bit y c)) % 2 ≡ dot x y)
    (rw when-zero (omega (arith, dot-lt x y)))
    (by_bit (λ (d : ℕ). ((dot x y + when d 1) % 2 + d) % 2 ≡ dot x y) (omega (arith, dot-lt x y)) (omega (arith, dot-lt x y)) (bit y c) (bit-lt y c))
    (bit x t) (bit-lt x t)
