-- What a CNOT makes of a column. Assumes nothing.
use mathlib.Core.Path.{◌≡◌, refl, sym, ap, ◌∙◌, subst}
use mathlib.Core.Logic.{◌≢◌}
use mathlib.Core.Bool.{false}
use Prim.Native.Nat.{ℕ, ◌+◌, ◌%◌, ◌^◌, ◌<◌}
use native.Mathlib.Omega.{arith}
use native.Mathlib.Decide.{ℕ_discrete}
use lib.Dec.{ltb}
use lib.Bits.{bit_xor, xor_zero_r}
use Rattle.sets.specs.Bit.{bit, when, In, Sub}
use Rattle.sets.specs.Size.{only_of}
use Rattle.sets.specs.Columns.{turn}
use Rattle.sets.proofs.Bits.{by_bit, bit-lt, bit-xor, bit-of-zero, bit-pow-same, bit-when, when-zero, xor-cancel}
use Rattle.sets.proofs.Words.{only-is, only_none, only-other}

pub turn-other : (x c t j : ℕ) → c ≢ j → bit (turn c t x) j ≡ bit x j
unfolding turn
turn-other x c t j ne =
    let e : bit (when (bit x t) (only_of c)) j ≡ 0 = bit-when (bit x t) (only_of c) j ∙ ap (when (bit x t)) (only-other c j ne) ∙ when-zero (bit x t) in
    bit-xor x (when (bit x t) (only_of c)) j ∙ omega (arith, bit-lt x j)

pub turn-off : (x c t : ℕ) → bit x t ≡ 0 → turn c t x ≡ x
unfolding turn
turn-off x c t e = ap (λ (b : ℕ). bit_xor x (when b (only_of c))) e ∙ xor_zero_r x

pub turn-none : (c t : ℕ) → turn c t 0 ≡ 0
turn-none c t = turn-off 0 c t (bit-of-zero t)

-- past the 32 digits nothing is turned
pub turn-past : (x c t : ℕ) → ltb c 32 ≡ false → turn c t x ≡ x
unfolding turn
turn-past x c t e = ap (λ (w : ℕ). bit_xor x (when (bit x t) w)) (only_none c e) ∙ ap (bit_xor x) (when-zero (bit x t)) ∙ xor_zero_r x

-- below 32, where a qubit is a digit of x
pub turn_is : (x c t : ℕ) → c < 32 → turn c t x ≡ bit_xor x (when (bit x t) (2 ^ c))
unfolding turn
turn_is x c t l = ap (λ (w : ℕ). bit_xor x (when (bit x t) w)) (only-is c l)

pub turn_on : (x c t : ℕ) → c < 32 → bit x t ≡ 1 → turn c t x ≡ bit_xor x (2 ^ c)
turn_on x c t l e = turn_is x c t l ∙ ap (λ (b : ℕ). bit_xor x (when b (2 ^ c))) e

pub turn-same : (x c t : ℕ) → c < 32 → bit (turn c t x) c ≡ (bit x c + bit x t) % 2
turn-same x c t l =
    ap (λ (y : ℕ). bit y c) (turn_is x c t l) ∙ bit-xor x (when (bit x t) (2 ^ c)) c
    ∙ ap (λ (n : ℕ). (bit x c + n) % 2) (bit-when (bit x t) (2 ^ c) c ∙ ap (when (bit x t)) (bit-pow-same c) ∙ by_bit (λ (b : ℕ). when b 1 ≡ b) refl refl (bit x t) (bit-lt x t))

pub turn-zero : (x c t : ℕ) → c ≢ t → turn c t x ≡ 0 → x ≡ 0
turn-zero x c t ne h =
    let b0 : bit x t ≡ 0 = sym (turn-other x c t t ne) ∙ ap (λ (n : ℕ). bit n t) h ∙ bit-of-zero t in
    sym (turn-off x c t b0) ∙ h

-- a column inside Q stays inside Q
pub turn-sub : (Q x c t : ℕ) → In c Q → Sub x Q → Sub (turn c t x) Q
turn-sub Q x c t h f i k = go (ℕ_discrete c i)
  where
    go : Dec (c ≡ i) → In i Q
    go (yes e) = subst (λ (j : ℕ). In j Q) e h
    go (no n) = f i (sym (turn-other x c t i n) ∙ k)

-- a CNOT undoes itself
pub turn-back : (x c t : ℕ) → c ≢ t → turn c t (turn c t x) ≡ x
turn-back x c t ne =
    let w : ℕ = when (bit x t) (only_of c) in
    unfold turn in ap (λ (b : ℕ). bit_xor (bit_xor x w) (when b (only_of c))) (turn-other x c t t ne) ∙ xor-cancel x w
