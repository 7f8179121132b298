-- Columns over wires: what a column stands for, and Law 1. Assumes nothing.
use mathlib.Core.Path.{◌≡◌, refl, sym, ap, ap₂, ◌∙◌}
use mathlib.Core.Logic.{◌≢◌}
use mathlib.Core.List.{List, [], ◌∷◌, map}
use Prim.Native.Nat.{ℕ, zero, suc, ◌+◌, ◌*◌, ◌/◌, ◌%◌, ◌^◌, ◌<◌}
use native.Mathlib.Nat.{le_of_suc-le-suc, not-suc-le-zero, zero-lt-suc, suc-ne-zero, suc_inj, mod-lt, pow-suc}
use native.Mathlib.Omega.{arith}
use lib.Dec.{lit<}
use lib.Arith.{lt-one}
use lib.ListN.{length, get_or, set, length-map, get_or-map}
use lib.Seq.{get_or-set_other}
use lib.Bits.{bit_xor, xor_zero_r, xor_comm, xor_step, xor_shifted}
use Rattle.sets.specs.Bit.{bit, when, In}
use Rattle.sets.specs.Columns.{turn, comb, cnot, units}
use Rattle.sets.proofs.Bits.{by_bit, bit-zero, bit-suc, bit-lt, xor_low, xor-half, pow-half, pow_even, xor_assoc, xors}
use Rattle.sets.proofs.Turn.{turn_is}

xor4 : (a b c d : ℕ) → bit_xor (bit_xor a b) (bit_xor c d) ≡ bit_xor (bit_xor a c) (bit_xor b d)
xor4 a b c d = simp xors

pub when-xor : (w a b : ℕ) → a < 2 → b < 2 → when ((a + b) % 2) w ≡ bit_xor (when a w) (when b w)
when-xor w a b la lb =
    by_bit (λ (a : ℕ). when ((a + b) % 2) w ≡ bit_xor (when a w) (when b w))
    (by_bit (λ (b : ℕ). when ((0 + b) % 2) w ≡ bit_xor 0 (when b w)) refl refl b lb)
    (by_bit (λ (b : ℕ). when ((1 + b) % 2) w ≡ bit_xor w (when b w)) (sym (xor_zero_r w)) (simp xors) b lb)
    a la

pub comb-xor : (W : List ℕ) (x y : ℕ) → comb (bit_xor x y) W ≡ bit_xor (comb x W) (comb y W)
unfolding comb
comb-xor [] x y = refl
comb-xor (w ∷ ws) x y =
    ap₂ (λ (a b : ℕ). bit_xor (when a w) (comb b ws)) (xor_low x y) (xor-half x y)
    ∙ ap₂ bit_xor (when-xor w (x % 2) (y % 2) (mod-lt x (zero-lt-suc 1)) (mod-lt y (zero-lt-suc 1))) (comb-xor ws (x / 2) (y / 2))
    ∙ xor4 (when (x % 2) w) (when (y % 2) w) (comb (x / 2) ws) (comb (y / 2) ws)

pub comb-zero : (W : List ℕ) → comb 0 W ≡ 0
unfolding comb
comb-zero [] = refl
comb-zero (w ∷ ws) = comb-zero ws

pub comb-pow : (W : List ℕ) (q : ℕ) → comb (2 ^ q) W ≡ get_or W q 0
unfolding comb
comb-pow [] q = refl
comb-pow (w ∷ ws) zero = ap (bit_xor w) (comb-zero ws) ∙ xor_zero_r w
comb-pow (w ∷ ws) (suc q) = rw (pow_even, pow-half) (comb-pow ws q)

pub comb-when : (W : List ℕ) (b x : ℕ) → comb (when b x) W ≡ when b (comb x W)
comb-when W zero x = comb-zero W
comb-when W (suc b) x = refl

-- one wire changed: the columns that hold it change by the difference
pub comb-set : (W : List ℕ) (x t v : ℕ) → t < length W → comb x (set W t v) ≡ bit_xor (comb x W) (when (bit x t) (bit_xor (get_or W t 0) v))
unfolding comb
comb-set [] x t v l = absurd (not-suc-le-zero l)
comb-set (w ∷ ws) x zero v l =
    rw bit-zero
    (by_bit (λ (b : ℕ). bit_xor (when b v) (comb (x / 2) ws) ≡ bit_xor (bit_xor (when b w) (comb (x / 2) ws)) (when b (bit_xor w v)))
    (sym (xor_zero_r (comb (x / 2) ws))) (mix (comb (x / 2) ws)) (x % 2) (mod-lt x (zero-lt-suc 1)))
  where
    mix : (c : ℕ) → bit_xor v c ≡ bit_xor (bit_xor w c) (bit_xor w v)
    mix c = simp xors
comb-set (w ∷ ws) x (suc t) v l = rw (comb-set ws (x / 2) t v (le_of_suc-le-suc l), bit-suc) (sym (xor_assoc (when (x % 2) w) (comb (x / 2) ws) (when (bit (x / 2) t) (bit_xor (get_or ws t 0) v))))

-- LAW 1: a CNOT turns the columns and the wires together, and the parities that the columns stand for stay
pub comb-turn : (W : List ℕ) (x c t : ℕ) → c < 32 → c ≢ t → t < length W → comb (turn c t x) (cnot c t W) ≡ comb x W
unfolding cnot
comb-turn W x c t few ne l =
    let p : ℕ = get_or W c 0 in
    let q : ℕ = get_or W t 0 in
    let W' : List ℕ = set W t (bit_xor p q) in
    ap (λ (y : ℕ). comb y W') (turn_is x c t few) ∙ comb-xor W' x (when (bit x t) (2 ^ c))
    ∙ ap₂ bit_xor (comb-set W x t (bit_xor p q) l) (comb-when W' (bit x t) (2 ^ c) ∙ ap (when (bit x t)) (comb-pow W' c ∙ get_or-set_other W t c (bit_xor p q) 0 ne))
    ∙ by_bit (λ (b : ℕ). bit_xor (bit_xor (comb x W) (when b (bit_xor q (bit_xor p q)))) (when b p) ≡ comb x W)
    (simp xors) (mix p q (comb x W)) (bit x t) (bit-lt x t)
  where
    mix : (p q n : ℕ) → bit_xor (bit_xor n (bit_xor q (bit_xor p q))) p ≡ n
    mix p q n = simp xors

-- ---- at the start: wire i holds qubit i

pub length-units : (n : ℕ) → length (units n) ≡ n
unfolding units
length-units zero = refl
length-units (suc n) = ap suc (length-map (units n) (λ k. k * 2) ∙ length-units n)

pub get_or-units : (n i : ℕ) → i < n → get_or (units n) i 0 ≡ 2 ^ i
unfolding units
get_or-units zero i l = absurd (not-suc-le-zero l)
get_or-units (suc n) zero l = refl
get_or-units (suc n) (suc i) l = get_or-map (λ k. k * 2) (units n) i 0 ∙ ap (λ (k : ℕ). k * 2) (get_or-units n i (le_of_suc-le-suc l)) ∙ sym (pow-suc 2 i)

xor-double : (a b : ℕ) → bit_xor (a * 2) (b * 2) ≡ bit_xor a b * 2
xor-double a b = xor_step (a * 2) (b * 2) ∙ rw (dbl a, dbl b, evn a, evn b) (omega arith)
  where
    dbl : (a : ℕ) → a * 2 / 2 ≡ a
    dbl a = omega arith

    evn : (a : ℕ) → a * 2 % 2 ≡ 0
    evn a = omega arith

when-double : (b w : ℕ) → when b (w * 2) ≡ when b w * 2
when-double zero w = refl
when-double (suc b) w = refl

comb-double : (W : List ℕ) (x : ℕ) → comb x (map (λ k. k * 2) W) ≡ comb x W * 2
unfolding comb
comb-double [] x = refl
comb-double (w ∷ ws) x = ap₂ bit_xor (when-double (x % 2) w) (comb-double ws (x / 2)) ∙ xor-double (when (x % 2) w) (comb (x / 2) ws)

pub comb-units : (n x : ℕ) → x < 2 ^ n → comb x (units n) ≡ x
unfolding units comb
comb-units zero x l = sym (lt-one l)
comb-units (suc n) x l =
    let l2 : x < 2 ^ n * 2 = rw pow-suc at l in
    ap (bit_xor (when (x % 2) 1)) (comb-double (units n) (x / 2) ∙ ap (λ (k : ℕ). k * 2) (comb-units n (x / 2) (omega arith)))
    ∙ by_bit (λ (b : ℕ). bit_xor (when b 1) (x / 2 * 2) ≡ x / 2 * 2 + b) (omega arith) (xor_comm 1 (x / 2 * 2) ∙ xor_shifted (x / 2) 1 1 (lit< tt)) (x % 2) (mod-lt x (zero-lt-suc 1))
    ∙ omega arith

-- a column stands for a parity that only its own wires decide
pub comb-agree : (W U : List ℕ) (x : ℕ) → length W ≡ length U → ((i : ℕ) → In i x → get_or W i 0 ≡ get_or U i 0) → comb x W ≡ comb x U
unfolding comb
comb-agree [] [] x e h = refl
comb-agree [] (v ∷ vs) x e h = absurd (suc-ne-zero (length vs) (sym e))
comb-agree (w ∷ ws) [] x e h = absurd (suc-ne-zero (length ws) e)
comb-agree (w ∷ ws) (v ∷ vs) x e h =
    ap₂ bit_xor (by_bit (λ (b : ℕ). x % 2 ≡ b → when b w ≡ when b v) (λ z. refl) (λ z. h 0 (bit-zero x ∙ z)) (x % 2) (mod-lt x (zero-lt-suc 1)) refl)
    (comb-agree ws vs (x / 2) (suc_inj e) (λ i k. h (suc i) (bit-suc x i ∙ k)))
