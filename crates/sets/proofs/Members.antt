-- Members and parts of a set. Assumes nothing.
use mathlib.Core.Path.{◌≡◌, refl, sym, ap, ap₂, ◌∙◌, subst}
use mathlib.Core.Logic.{◌≢◌, ◌⊎◌, inl, inr}
use Prim.Native.Nat.{ℕ, zero, suc, ◌-◌, ◌*◌, ◌/◌, ◌%◌, ◌^◌, ◌<◌}
use native.Mathlib.Nat.{pow-suc}
use native.Mathlib.Omega.{arith}
use native.Mathlib.Decide.{ℕ_discrete, dec_lt}
use lib.Arith.{bin_ind}
use lib.Bits.{bit_and, bit_or, bit_xor}
use lib.Count.{ones, ones_step}
use lib.Pow.{suc_ones}
use Rattle.sets.specs.Bit.{bit, In, Sub}
use Rattle.sets.proofs.Bits.{bit-zero, bit-suc, bit-lt, bit-cases, bit-xor, bit-and, bit-or, bit-of-zero, ext, bit-pow-same, bit-pow-other, bit_high}

pub in-or : (a b i : ℕ) → In i (bit_or a b) → In i a ⊎ In i b
in-or a b i h = go (bit-cases a i)
  where
    go : (bit a i ≡ 0) ⊎ (bit a i ≡ 1) → In i a ⊎ In i b
    go (inl z) = inr (omega (arith, bit-or a b i))
    go (inr e) = inl e

pub or_left : (a b i : ℕ) → In i a → In i (bit_or a b)
or_left a b i h = omega (arith, bit-or a b i, bit-lt b i)

pub or_right : (a b i : ℕ) → In i b → In i (bit_or a b)
or_right a b i h = omega (arith, bit-or a b i, bit-lt a i)

pub in_and : (a b i : ℕ) → In i (bit_and a b) → In i a × In i b
in_and a b i h = go (bit a i) (bit b i) (bit-lt a i) (bit-lt b i) (sym (bit-and a b i) ∙ h)
  where
    go : (x y : ℕ) → x < 2 → y < 2 → x * y ≡ 1 → (x ≡ 1) × (y ≡ 1)
    go zero y lx ly e = absurd (omega arith)
    go (suc zero) y lx ly e = (refl, omega arith)
    go (suc (suc x)) y lx ly e = absurd (omega arith)

pub and_in : (a b i : ℕ) → In i a → In i b → In i (bit_and a b)
and_in a b i ha hb = bit-and a b i ∙ ap₂ (λ (x y : ℕ). x * y) ha hb

pub sub-eq : (S Q : ℕ) → Sub S Q → Sub Q S → S ≡ Q
sub-eq S Q f g = ext S Q (λ i. at i (bit-cases S i) (bit-cases Q i))
  where
    at : (i : ℕ) → (bit S i ≡ 0) ⊎ (bit S i ≡ 1) → (bit Q i ≡ 0) ⊎ (bit Q i ≡ 1) → bit S i ≡ bit Q i
    at i (inl x) (inl y) = x ∙ sym y
    at i (inl x) (inr y) = g i y ∙ sym y
    at i (inr x) q = x ∙ sym (f i x)

pub some-bit : (x : ℕ) → x ≢ 0 → (i : ℕ) × In i x
some-bit =
    bin_ind (λ (x : ℕ). x ≢ 0 → (i : ℕ) × In i x) (λ h. absurd (h refl)) (λ x ih h. go x ih h (x % 2) refl)
  where
    go : (x : ℕ) → (x / 2 ≢ 0 → (i : ℕ) × In i (x / 2)) → x ≢ 0 → (b : ℕ) → x % 2 ≡ b → (i : ℕ) × In i x
    go x ih h zero e = let r = ih (λ z. h (omega arith)) in (suc r.0, bit-suc x r.0 ∙ r.1)
    go x ih h (suc b) e = (0, bit-zero x ∙ omega arith)

-- a part of Q is Q, or has fewer members
pub sub_cases : (Q S : ℕ) → Sub S Q → (S ≡ Q) ⊎ (ones S < ones Q)
sub_cases =
    bin_ind (λ (Q : ℕ). (S : ℕ) → Sub S Q → (S ≡ Q) ⊎ (ones S < ones Q))
    (λ S h. inl (sub-eq S 0 h (λ i z. absurd (omega (arith, bit-of-zero i)))))
    (λ Q ih S h. go Q S (h 0) (bit-zero S) (bit-zero Q) (ih (S / 2) (λ i z. sym (bit-suc Q i) ∙ h (suc i) (bit-suc S i ∙ z))) (bit-cases S 0) (bit-cases Q 0))
  where
    go : (Q S : ℕ) → (In 0 S → In 0 Q) → bit S 0 ≡ S % 2 → bit Q 0 ≡ Q % 2 → (S / 2 ≡ Q / 2) ⊎ (ones (S / 2) < ones (Q / 2))
        → (bit S 0 ≡ 0) ⊎ (bit S 0 ≡ 1) → (bit Q 0 ≡ 0) ⊎ (bit Q 0 ≡ 1) → (S ≡ Q) ⊎ (ones S < ones Q)
    go Q S h s q (inl e) (inl a) (inl b) = inl (omega arith)
    go Q S h s q (inl e) (inl a) (inr b) = inr (omega (arith, ones_step S, ones_step Q, ap ones e))
    go Q S h s q (inl e) (inr a) c = inl (omega (arith, h a))
    go Q S h s q (inr l) (inl a) (inl b) = inr (omega (arith, ones_step S, ones_step Q))
    go Q S h s q (inr l) (inl a) (inr b) = inr (omega (arith, ones_step S, ones_step Q))
    go Q S h s q (inr l) (inr a) c = inr (omega (arith, ones_step S, ones_step Q, h a))

-- ---- one member more

pub put_other : (S u j : ℕ) → j ≢ u → bit (bit_xor S (2 ^ u)) j ≡ bit S j
put_other S u j ne = bit-xor S (2 ^ u) j ∙ omega (arith, bit-pow-other u j (λ e. ne (sym e)), bit-lt S j)

pub put_same : (S u : ℕ) → bit S u ≡ 0 → In u (bit_xor S (2 ^ u))
put_same S u z = bit-xor S (2 ^ u) u ∙ omega (arith, bit-pow-same u)

pub put_keeps : (S u : ℕ) → bit S u ≡ 0 → Sub S (bit_xor S (2 ^ u))
put_keeps S u z i h = put_other S u i (λ (e : i ≡ u). let d : bit S i ≡ bit S u = ap (bit S) e in omega arith) ∙ h

pub put-cases : (S u i : ℕ) → In i (bit_xor S (2 ^ u)) → (i ≡ u) ⊎ In i S
put-cases S u i h = go (ℕ_discrete i u)
  where
    go : Dec (i ≡ u) → (i ≡ u) ⊎ In i S
    go (yes e) = inl e
    go (no n) = inr (sym (put_other S u i n) ∙ h)

pub in-pow : (u i : ℕ) → In i (2 ^ u) → i ≡ u
in-pow u i h = go (ℕ_discrete u i)
  where
    go : Dec (u ≡ i) → i ≡ u
    go (yes e) = sym e
    go (no n) = absurd (omega (arith, bit-pow-other u i n))

pub in-lt : (n Q u : ℕ) → Q < 2 ^ n → In u Q → u < n
in-lt n Q u l h = go (dec_lt u n)
  where
    go : Dec (u < n) → u < n
    go (yes k) = k
    go (no k) = absurd (omega (arith, bit_high n Q u l (omega arith)))

pub xor-sub : (a b Q : ℕ) → Sub a Q → Sub b Q → Sub (bit_xor a b) Q
xor-sub a b Q f g i h = go (bit-cases a i)
  where
    go : (bit a i ≡ 0) ⊎ (bit a i ≡ 1) → In i Q
    go (inl z) = g i (omega (arith, bit-xor a b i, bit-lt b i))
    go (inr y) = f i y

-- a part of Q without r is inside Q without r
pub sub-drop : (Q x r : ℕ) → Sub x Q → bit x r ≡ 0 → Sub x (bit_xor Q (2 ^ r))
sub-drop Q x r f z i k = put_other Q r i (λ (e : i ≡ r). omega (arith, ap (bit x) e)) ∙ f i k

-- a part of {q} is {q} or empty
pub single-sub : (q x : ℕ) → Sub x (2 ^ q) → x ≢ 0 → x ≡ 2 ^ q
single-sub q x f ne =
    let r = some-bit x ne in
    let e : r.0 ≡ q = in-pow q r.0 (f r.0 r.1) in
    sub-eq x (2 ^ q) f (λ i h. subst (λ (j : ℕ). In j x) (e ∙ sym (in-pow q i h)) r.1)

-- the set of the first k numbers
pub all_in : (k i : ℕ) → i < k → In i (2 ^ k - 1)
all_in zero i h = absurd (omega arith)
all_in (suc k) zero h = let p : 2 ^ suc k ≡ 2 ^ k * 2 = pow-suc 2 k in bit-zero (2 ^ suc k - 1) ∙ omega (arith, suc_ones k)
all_in (suc k) (suc i) h =
    let p : 2 ^ suc k ≡ 2 ^ k * 2 = pow-suc 2 k in
    let e : (2 ^ suc k - 1) / 2 ≡ 2 ^ k - 1 = omega (arith, suc_ones k) in
    bit-suc (2 ^ suc k - 1) i ∙ ap (λ (n : ℕ). bit n i) e ∙ all_in k i (omega arith)
