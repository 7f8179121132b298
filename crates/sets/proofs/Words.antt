-- What the definitions say of numbers of 32 digits, and what callers use: tests and members. Assumes nothing.
use mathlib.Core.Path.{◌≡◌, refl, sym, ap, ◌∙◌, subst}
use mathlib.Core.Logic.{◌≢◌}
use mathlib.Core.Bool.{Bool, true, false}
use Prim.Native.Nat.{ℕ, ◌*◌, ◌%◌, ◌^◌, ◌≤◌, ◌<◌}
use native.Mathlib.Omega.{arith}
use native.Mathlib.Nat.{one-mul, lt_of_lt_of_le, lt_irrefl}
use lib.Dec.{lit<, ltb}
use lib.Pow.{shl_exact, pow_mono}
use lib.Count.{ones, count_trailing_zeros}
use borrow.Author.Tests.{lt-ltb, eqb-true, eqb-false, eq-eqb, ne_eqb, ltb-true, ltb-false}
use Rattle.sets.specs.Bit.{bit, has, In}
use Rattle.sets.specs.Size.{lowest_of, single_of, only_of}
use Rattle.sets.proofs.Bits.{bit-lt, bit_high, bit-of-zero, bit-pow-other}
use Rattle.sets.proofs.Members.{in-lt}
use Rattle.sets.proofs.Ones.{single, ones-pow, trailing-bit}

-- ---- the test for a member

pub has-true : (x i : ℕ) → has x i ≡ true → In i x
unfolding has
has-true x i e = eqb-true (bit x i) 1 e

pub has-false : (x i : ℕ) → has x i ≡ false → bit x i ≡ 0
unfolding has
has-false x i e = none (eqb-false (bit x i) 1 e)
  where
    none : (bit x i ≢ 1) → bit x i ≡ 0
    none n = omega (arith, bit-lt x i)

pub in-has : (x i : ℕ) → In i x → has x i ≡ true
unfolding has
in-has x i h = eq-eqb (bit x i) 1 h

pub out-has : (x i : ℕ) → bit x i ≡ 0 → has x i ≡ false
unfolding has
out-has x i h = ne_eqb (bit x i) 1 (λ (e : bit x i ≡ 1). omega arith)

pub has-past : (x i : ℕ) → x < 2 ^ 32 → 32 ≤ i → has x i ≡ false
has-past x i l h = out-has x i (bit_high 32 x i l h)

-- ---- sets of one member

pub only-is : (q : ℕ) → q < 32 → only_of q ≡ 2 ^ q
unfolding only_of
only-is q h = simp (lt-ltb q 32 h)

pub only_none : (q : ℕ) → ltb q 32 ≡ false → only_of q ≡ 0
unfolding only_of
only_none q e = simp e

-- a member of a set of 32 digits alone is its power of two
pub only_of_lem : (x q : ℕ) → x < 2 ^ 32 → has x q ≡ true → only_of q ≡ 2 ^ q
only_of_lem x q l e = only-is q (in-lt 32 x q l (has-true x q e))

-- no other number is a member
pub only-other : (q j : ℕ) → q ≢ j → bit (only_of q) j ≡ 0
only-other q j ne = go (ltb q 32) refl
  where
    go : (b : Bool) → ltb q 32 ≡ b → bit (only_of q) j ≡ 0
    go true e = ap (λ (x : ℕ). bit x j) (only-is q (ltb-true q 32 e)) ∙ bit-pow-other q j ne
    go false e = ap (λ (x : ℕ). bit x j) (only_none q e) ∙ bit-of-zero j

pub only-shift : (q : ℕ) → q < 32 → (1 * 2 ^ q) % 4294967296 ≡ only_of q
only-shift q h = shl_exact 1 q 32 (lit< tt) (omega arith) ∙ one-mul (2 ^ q) ∙ sym (only-is q h)

pub pow_below : (n q : ℕ) → 2 ^ q < 2 ^ n → q < n
pow_below n q h = go (ltb q n) refl
  where
    go : (b : Bool) → ltb q n ≡ b → q < n
    go true e = ltb-true q n e
    go false e = absurd (lt_irrefl (2 ^ q) (lt_of_lt_of_le h (pow_mono (ltb-false q n e))))

-- a set below 2^n of one member is that of its lowest member, which is below n
pub single-is : (n x : ℕ) → n ≤ 32 → x < 2 ^ n → single_of x ≡ true → (x ≡ 2 ^ lowest_of x) × (lowest_of x < n)
unfolding single_of lowest_of
single-is n x few h e =
    let is : x ≡ 2 ^ count_trailing_zeros 32 x = (single 32 x (lt_of_lt_of_le h (pow_mono few)) (eqb-true (ones x) 1 e)).0 in
    (is, pow_below n (count_trailing_zeros 32 x) (subst (λ (y : ℕ). y < 2 ^ n) is h))

pub single-pow : (q : ℕ) → single_of (2 ^ q) ≡ true
unfolding single_of
single-pow q = eq-eqb (ones (2 ^ q)) 1 (ones-pow q)

-- ---- the lowest member of a set that is not empty

pub lowest-in : (x : ℕ) → x < 2 ^ 32 → x ≢ 0 → In (lowest_of x) x
unfolding lowest_of
lowest-in x l ne = (trailing-bit 32 x l ne).1

pub lowest-first : (x j : ℕ) → x < 2 ^ 32 → x ≢ 0 → j < lowest_of x → bit x j ≡ 0
unfolding lowest_of
lowest-first x j l ne h = (trailing-bit 32 x l ne).2 j h

pub lowest-below : (n x : ℕ) → n ≤ 32 → x < 2 ^ n → x ≢ 0 → lowest_of x < n
lowest-below n x few l ne = in-lt n x (lowest_of x) l (lowest-in x (lt_of_lt_of_le l (pow_mono few)) ne)

pub only-lowest : (x : ℕ) → x < 2 ^ 32 → x ≢ 0 → only_of (lowest_of x) ≡ 2 ^ lowest_of x
only-lowest x l ne = only-is (lowest_of x) (lowest-below 32 x (omega arith) l ne)
