-- The bits of a number, and of xor, and, or: a law of sets is shown bit by bit (`ext`). Assumes nothing.
use mathlib.Core.Path.{◌≡◌, refl, sym, ap, ◌∙◌}
use mathlib.Core.Logic.{◌≢◌, ◌⊎◌, inl, inr}
use Prim.Native.Nat.{ℕ, zero, suc, ◌+◌, ◌*◌, ◌/◌, ◌%◌, ◌^◌, ◌≤◌, ◌<◌, max}
use native.Mathlib.Nat.{le_of_suc-le-suc, zero-lt-suc, mod-lt, pow-suc}
use native.Mathlib.Omega.{arith}
use native.Mathlib.Numerals.{one-add}
use lib.Arith.{bin_ind, lt-one}
use lib.Pow.{shr-shr}
use lib.Bits.{bit_and, bit_or, bit_xor, xor_shr, xor_mod, and_shr, and_mod, or_shr, or_mod, xor_comm, xor_self, xor_zero_r}
use Rattle.sets.specs.Bit.{bit, when}

-- a bit b < 2 is 0 or 1: prove both
pub by_bit : (P : ℕ → Type 0) → P 0 → P 1 → (b : ℕ) → b < 2 → P b
by_bit P p q zero l = p
by_bit P p q (suc zero) l = q
by_bit P p q (suc (suc b)) l = absurd (omega arith)

pub bit-zero : (x : ℕ) → bit x 0 ≡ x % 2
unfolding bit
bit-zero x = omega arith

pub bit-suc : (x i : ℕ) → bit x (suc i) ≡ bit (x / 2) i
unfolding bit
bit-suc x i = ap (λ (n : ℕ). n % 2) (ap (λ (k : ℕ). x / 2 ^ k) (sym (one-add i)) ∙ sym (shr-shr x 1 i))

pub bit-lt : (x i : ℕ) → bit x i < 2
unfolding bit
bit-lt x i = omega arith

-- one digit of a xor, and the rest
pub xor_low : (a b : ℕ) → bit_xor a b % 2 ≡ (a % 2 + b % 2) % 2
xor_low a b = xor_mod a b 1 ∙ low (a % 2) (b % 2) (mod-lt a (zero-lt-suc 1)) (mod-lt b (zero-lt-suc 1))
  where
    low : (x y : ℕ) → x < 2 → y < 2 → bit_xor x y ≡ (x + y) % 2
    low zero zero ha hb = refl
    low zero (suc zero) ha hb = refl
    low (suc zero) zero ha hb = refl
    low (suc zero) (suc zero) ha hb = refl
    low zero (suc (suc b)) ha hb = absurd (omega arith)
    low (suc zero) (suc (suc b)) ha hb = absurd (omega arith)
    low (suc (suc a)) b ha hb = absurd (omega arith)

pub xor-half : (a b : ℕ) → bit_xor a b / 2 ≡ bit_xor (a / 2) (b / 2)
xor-half a b = xor_shr a b 1

-- bit i of the xor is the xor of the bits
pub bit-xor : (a b i : ℕ) → bit (bit_xor a b) i ≡ (bit a i + bit b i) % 2
bit-xor a b zero = bit-zero (bit_xor a b) ∙ xor_low a b ∙ simp bit-zero
bit-xor a b (suc i) = bit-suc (bit_xor a b) i ∙ ap (λ (n : ℕ). bit n i) (xor-half a b) ∙ bit-xor (a / 2) (b / 2) i ∙ simp bit-suc

pub bit-of-zero : (i : ℕ) → bit 0 i ≡ 0
bit-of-zero zero = bit-zero 0
bit-of-zero (suc i) = bit-suc 0 i ∙ bit-of-zero i

-- a number whose bits are all 0 is 0
pub zero-ext : (x : ℕ) → ((i : ℕ) → bit x i ≡ 0) → x ≡ 0
zero-ext =
    bin_ind (λ (n : ℕ). ((i : ℕ) → bit n i ≡ 0) → n ≡ 0) (λ h. refl)
    (λ n ih h. let e : n / 2 ≡ 0 = ih (λ i. sym (bit-suc n i) ∙ h (suc i)) in let z : n % 2 ≡ 0 = sym (bit-zero n) ∙ h 0 in omega arith)

-- numbers with the same bits are equal
pub ext : (x y : ℕ) → ((i : ℕ) → bit x i ≡ bit y i) → x ≡ y
ext =
    bin_ind (λ (n : ℕ). (y : ℕ) → ((i : ℕ) → bit n i ≡ bit y i) → n ≡ y)
    (λ y h. sym (zero-ext y (λ i. sym (h i) ∙ bit-of-zero i)))
    (λ n ih y h.
    let e : n / 2 ≡ y / 2 = ih (y / 2) (λ i. sym (bit-suc n i) ∙ h (suc i) ∙ bit-suc y i) in
    let z : n % 2 ≡ y % 2 = sym (bit-zero n) ∙ h 0 ∙ bit-zero y in
    omega arith)

-- past the k digits there is nothing
pub bit_high : (k x i : ℕ) → x < 2 ^ k → k ≤ i → bit x i ≡ 0
bit_high zero x i hx l = ap (λ (n : ℕ). bit n i) (lt-one hx) ∙ bit-of-zero i
bit_high (suc k) x zero hx l = absurd (omega arith)
bit_high (suc k) x (suc i) hx l =
    let hx2 : x < 2 ^ k * 2 = rw pow-suc at hx in
    bit-suc x i ∙ bit_high k (x / 2) i (omega arith) (le_of_suc-le-suc l)

pub pow-half : (i : ℕ) → 2 ^ suc i / 2 ≡ 2 ^ i
pow-half i = rw pow-suc (omega arith)

pub pow_even : (i : ℕ) → 2 ^ suc i % 2 ≡ 0
pow_even i = rw pow-suc (omega arith)

pub bit-pow-same : (i : ℕ) → bit (2 ^ i) i ≡ 1
bit-pow-same zero = bit-zero 1
bit-pow-same (suc i) = bit-suc (2 ^ suc i) i ∙ rw pow-half (bit-pow-same i)

pub bit-pow-other : (i j : ℕ) → i ≢ j → bit (2 ^ i) j ≡ 0
bit-pow-other zero zero h = absurd (h refl)
bit-pow-other zero (suc j) h = bit-suc 1 j ∙ bit-of-zero j
bit-pow-other (suc i) zero h = bit-zero (2 ^ suc i) ∙ pow_even i
bit-pow-other (suc i) (suc j) h = bit-suc (2 ^ suc i) j ∙ rw pow-half (bit-pow-other i j (λ e. h (ap suc e)))

pub xor_assoc : (a b c : ℕ) → bit_xor (bit_xor a b) c ≡ bit_xor a (bit_xor b c)
xor_assoc a b c = ext (bit_xor (bit_xor a b) c) (bit_xor a (bit_xor b c)) (λ i. simp bit-xor (omega arith))

-- a xor b is 0 only of equals; xor cancels
pub xor-cancel : (a b : ℕ) → bit_xor (bit_xor a b) b ≡ a
xor-cancel a b = ext (bit_xor (bit_xor a b) b) a (λ i. simp bit-xor (omega (arith, bit-lt a i, bit-lt b i)))

pub xor-cancel-l : (a b : ℕ) → bit_xor a (bit_xor a b) ≡ b
xor-cancel-l a b = ext (bit_xor a (bit_xor a b)) b (λ i. simp bit-xor (omega (arith, bit-lt a i, bit-lt b i)))

pub xor-left-comm : (a b c : ℕ) → bit_xor a (bit_xor b c) ≡ bit_xor b (bit_xor a c)
xor-left-comm a b c = ext (bit_xor a (bit_xor b c)) (bit_xor b (bit_xor a c)) (λ i. simp bit-xor (omega arith))

-- sorts both sides of an equation between xors, and strikes what stands twice
pub ruleset xors = (xor_assoc, xor_comm, xor-left-comm, xor_self, xor-cancel-l, xor_zero_r)

-- ---- and

pub and_low : (a b : ℕ) → bit_and a b % 2 ≡ a % 2 * (b % 2)
and_low a b = and_mod a b 1 ∙ low (a % 2) (b % 2) (mod-lt a (zero-lt-suc 1)) (mod-lt b (zero-lt-suc 1))
  where
    low : (x y : ℕ) → x < 2 → y < 2 → bit_and x y ≡ x * y
    low zero zero ha hb = refl
    low zero (suc zero) ha hb = refl
    low (suc zero) zero ha hb = refl
    low (suc zero) (suc zero) ha hb = refl
    low zero (suc (suc b)) ha hb = absurd (omega arith)
    low (suc zero) (suc (suc b)) ha hb = absurd (omega arith)
    low (suc (suc a)) b ha hb = absurd (omega arith)

pub and-half : (a b : ℕ) → bit_and a b / 2 ≡ bit_and (a / 2) (b / 2)
and-half a b = and_shr a b 1

pub bit-and : (a b i : ℕ) → bit (bit_and a b) i ≡ bit a i * bit b i
bit-and a b zero = bit-zero (bit_and a b) ∙ and_low a b ∙ simp bit-zero
bit-and a b (suc i) = bit-suc (bit_and a b) i ∙ ap (λ (n : ℕ). bit n i) (and-half a b) ∙ bit-and (a / 2) (b / 2) i ∙ simp bit-suc

-- a bit is 0 or 1
pub bit-cases : (x i : ℕ) → (bit x i ≡ 0) ⊎ (bit x i ≡ 1)
bit-cases x i = go (bit x i) refl (bit-lt x i)
  where
    go : (b : ℕ) → bit x i ≡ b → b < 2 → (bit x i ≡ 0) ⊎ (bit x i ≡ 1)
    go zero e l = inl e
    go (suc zero) e l = inr e
    go (suc (suc b)) e l = absurd (omega arith)

-- ---- or

or-low : (a b : ℕ) → bit_or a b % 2 ≡ max (a % 2) (b % 2)
or-low a b = or_mod a b 1 ∙ low (a % 2) (b % 2) (mod-lt a (zero-lt-suc 1)) (mod-lt b (zero-lt-suc 1))
  where
    low : (x y : ℕ) → x < 2 → y < 2 → bit_or x y ≡ max x y
    low zero zero ha hb = refl
    low zero (suc zero) ha hb = refl
    low (suc zero) zero ha hb = refl
    low (suc zero) (suc zero) ha hb = refl
    low zero (suc (suc b)) ha hb = absurd (omega arith)
    low (suc zero) (suc (suc b)) ha hb = absurd (omega arith)
    low (suc (suc a)) b ha hb = absurd (omega arith)

pub bit-or : (a b i : ℕ) → bit (bit_or a b) i ≡ max (bit a i) (bit b i)
bit-or a b zero = bit-zero (bit_or a b) ∙ or-low a b ∙ simp bit-zero
bit-or a b (suc i) = bit-suc (bit_or a b) i ∙ ap (λ (n : ℕ). bit n i) (or_shr a b 1) ∙ bit-or (a / 2) (b / 2) i ∙ simp bit-suc

pub or_assoc : (a b c : ℕ) → bit_or (bit_or a b) c ≡ bit_or a (bit_or b c)
or_assoc a b c = ext (bit_or (bit_or a b) c) (bit_or a (bit_or b c)) (λ i. simp bit-or (omega arith))

-- ---- a choice by a bit

pub bit-when : (b x j : ℕ) → bit (when b x) j ≡ when b (bit x j)
bit-when zero x j = bit-of-zero j
bit-when (suc b) x j = refl

pub when-zero : (b : ℕ) → when b 0 ≡ 0
when-zero zero = refl
when-zero (suc b) = refl
