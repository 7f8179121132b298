-- The number of members, the lowest member, and sets of one member. Assumes nothing.
use mathlib.Core.Path.{◌≡◌, refl, sym, ap, ◌∙◌}
use mathlib.Core.Logic.{◌≢◌}
use Prim.Native.Nat.{ℕ, zero, suc, ◌*◌, ◌/◌, ◌%◌, ◌^◌, ◌<◌, suc-le-suc}
use native.Mathlib.Nat.{le_of_suc-le-suc, not-suc-le-zero, zero-lt-suc, mod-lt, pow-suc}
use native.Mathlib.Omega.{arith}
use lib.Arith.{bin_ind, lt-one}
use lib.Bits.{bit_xor, xor_zero_r}
use lib.Count.{ones, ones_step, count_trailing_zeros, under}
use Rattle.sets.specs.Bit.{bit, In}
use Rattle.sets.proofs.Bits.{bit-zero, bit-suc, bit-xor, xor_low, xor-half, xor-cancel, pow-half, pow_even, bit-pow-same}

pub ones-zero : (n : ℕ) → ones n ≡ 0 → n ≡ 0
ones-zero =
    bin_ind (λ (n : ℕ). ones n ≡ 0 → n ≡ 0) (λ h. refl)
    (λ n ih h. let e : n / 2 ≡ 0 = ih (omega (arith, ones_step n)) in omega (arith, ones_step n))

pub ones_of_zero : ones 0 ≡ 0
unfolding ones
ones_of_zero = refl

pub ones-pow : (q : ℕ) → ones (2 ^ q) ≡ 1
unfolding ones
ones-pow zero = refl
ones-pow (suc q) = ones_step (2 ^ suc q) ∙ rw (pow-half, pow_even) (omega (arith, ones-pow q))

-- one bit set: the number is the power of two whose exponent count_trailing_zeros tells
pub single : (k x : ℕ) → x < 2 ^ k → ones x ≡ 1 → (x ≡ 2 ^ count_trailing_zeros k x) × (count_trailing_zeros k x < k)
unfolding count_trailing_zeros
single zero x l h = absurd (omega (arith, sym h ∙ ap ones (lt-one l) ∙ ones_of_zero))
single (suc k) x l h = go (x % 2) refl (mod-lt x (zero-lt-suc 1)) (single k (x / 2))
  where
    l2 : x < 2 ^ k * 2
    l2 = rw pow-suc at l

    go : (b : ℕ) → x % 2 ≡ b → b < 2
        → (x / 2 < 2 ^ k → ones (x / 2) ≡ 1 → (x / 2 ≡ 2 ^ count_trailing_zeros k (x / 2)) × (count_trailing_zeros k (x / 2) < k))
        → (x ≡ 2 ^ under b (count_trailing_zeros k (x / 2))) × (under b (count_trailing_zeros k (x / 2)) < suc k)
    go zero e p ih =
        let r : (x / 2 ≡ 2 ^ count_trailing_zeros k (x / 2)) × (count_trailing_zeros k (x / 2) < k) = ih (omega (arith, l2)) (omega (arith, ones_step x)) in
        (rw pow-suc (omega (arith, r.0)), suc-le-suc r.1)
    go (suc zero) e p ih = let z : x / 2 ≡ 0 = ones-zero (x / 2) (omega (arith, ones_step x)) in (omega arith, zero-lt-suc k)
    go (suc (suc b)) e p ih = absurd (omega arith)

-- count_trailing_zeros of a number that is not 0 is its lowest set bit
pub trailing-bit : (k x : ℕ) → x < 2 ^ k → x ≢ 0 → (count_trailing_zeros k x < k) × (bit x (count_trailing_zeros k x) ≡ 1) × ((j : ℕ) → j < count_trailing_zeros k x → bit x j ≡ 0)
unfolding count_trailing_zeros
trailing-bit zero x l h = absurd (h (lt-one l))
trailing-bit (suc k) x l h = go (x % 2) refl (mod-lt x (zero-lt-suc 1)) (trailing-bit k (x / 2))
  where
    l2 : x < 2 ^ k * 2
    l2 = rw pow-suc at l

    down : (T : ℕ) → ((j : ℕ) → j < T → bit (x / 2) j ≡ 0) → x % 2 ≡ 0 → (j : ℕ) → j < suc T → bit x j ≡ 0
    down T f e zero p = bit-zero x ∙ e
    down T f e (suc j) p = bit-suc x j ∙ f j (le_of_suc-le-suc p)

    go : (b : ℕ) → x % 2 ≡ b → b < 2
        → (x / 2 < 2 ^ k → x / 2 ≢ 0 → (count_trailing_zeros k (x / 2) < k) × (bit (x / 2) (count_trailing_zeros k (x / 2)) ≡ 1) × ((j : ℕ) → j < count_trailing_zeros k (x / 2) → bit (x / 2) j ≡ 0))
        → (under b (count_trailing_zeros k (x / 2)) < suc k) × (bit x (under b (count_trailing_zeros k (x / 2))) ≡ 1) × ((j : ℕ) → j < under b (count_trailing_zeros k (x / 2)) → bit x j ≡ 0)
    go zero e p ih =
        let r : (count_trailing_zeros k (x / 2) < k) × (bit (x / 2) (count_trailing_zeros k (x / 2)) ≡ 1) × ((j : ℕ) → j < count_trailing_zeros k (x / 2) → bit (x / 2) j ≡ 0) = ih (omega (arith, l2)) (λ z. h (omega arith)) in
        (suc-le-suc r.0, bit-suc x (count_trailing_zeros k (x / 2)) ∙ r.1, down (count_trailing_zeros k (x / 2)) r.2 e)
    go (suc zero) e p ih = (zero-lt-suc k, bit-zero x ∙ e, λ j q. absurd (not-suc-le-zero q))
    go (suc (suc b)) e p ih = absurd (omega arith)

-- one more member
pub ones-put : (u S : ℕ) → bit S u ≡ 0 → ones (bit_xor S (2 ^ u)) ≡ suc (ones S)
ones-put zero S z =
    let h : bit_xor S 1 / 2 ≡ S / 2 = xor-half S 1 ∙ xor_zero_r (S / 2) in
    omega (arith, ones_step S, ones_step (bit_xor S 1), xor_low S 1, ap ones h, bit-zero S)
ones-put (suc u) S z =
    let h : bit_xor S (2 ^ suc u) / 2 ≡ bit_xor (S / 2) (2 ^ u) = xor-half S (2 ^ suc u) ∙ ap (bit_xor (S / 2)) (pow-half u) in
    omega (arith, ones_step S, ones_step (bit_xor S (2 ^ suc u)), xor_low S (2 ^ suc u), pow_even u, ap ones h, ones-put u (S / 2) (sym (bit-suc S u) ∙ z))

pub drop-same : (u Q : ℕ) → In u Q → bit (bit_xor Q (2 ^ u)) u ≡ 0
drop-same u Q h = bit-xor Q (2 ^ u) u ∙ omega (arith, bit-pow-same u)

-- one member less
pub ones-drop : (u Q : ℕ) → In u Q → ones Q ≡ suc (ones (bit_xor Q (2 ^ u)))
ones-drop u Q h =
    sym (ap ones (xor-cancel Q (2 ^ u))) ∙ ones-put u (bit_xor Q (2 ^ u)) (drop-same u Q h)
