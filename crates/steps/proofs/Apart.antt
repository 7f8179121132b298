-- Columns that are set aside: a CNOT inside Q never makes one of them a column of one qubit. Assumes nothing.
use mathlib.Core.Path.{◌≡◌, sym, ap, ◌∙◌, subst}
use mathlib.Core.Logic.{◌≢◌, ◌⊎◌, inl, inr}
use mathlib.Core.Bool.{true, false}
use Prim.Native.Nat.{ℕ, ◌^◌, ◌≤◌}
use native.Mathlib.Omega.{arith}
use native.Mathlib.Decide.{ℕ_discrete}
use lib.Bits.{bit_xor}
use lib.Count.{ones}
use borrow.Author.Tests.{ne_eqb}
use Rattle.sets.specs.Bit.{bit, In, Sub}
use Rattle.sets.specs.Size.{single_of}
use Rattle.sets.specs.Columns.{turn}
use Rattle.sets.proofs.Bits.{bit-of-zero, bit-cases, xor-cancel}
use Rattle.sets.proofs.Members.{some-bit, put_other}
use Rattle.sets.proofs.Ones.{ones-zero, ones-drop, drop-same}
use Rattle.sets.proofs.Turn.{turn-other, turn-off, turn-zero, turn-sub}
use Rattle.sets.proofs.Words.{single-pow}

-- ---- columns of two qubits and more

abbrev pub Many : ℕ → Type 0
Many x = (a b : ℕ) × (a ≢ b) × In a x × In b x

pub many-live : (x : ℕ) → Many x → x ≢ 0
many-live x m z = omega (arith, m.3, ap (λ (n : ℕ). bit n m.0) z, bit-of-zero m.0)

pub many-ones : (x : ℕ) → Many x → 2 ≤ ones x
many-ones x m =
    let a : ℕ = m.0 in
    let b : ℕ = m.1 in
    let still : In b (bit_xor x (2 ^ a)) = put_other x a b (λ e. m.2 (sym e)) ∙ m.4 in
    let some : ones (bit_xor x (2 ^ a)) ≢ 0 = λ z. omega (arith, still, ap (λ (n : ℕ). bit n b) (ones-zero (bit_xor x (2 ^ a)) z), bit-of-zero b) in
    omega (arith, ones-drop a x m.3, some)

pub many-not-single : (x : ℕ) → Many x → single_of x ≡ false
unfolding single_of
many-not-single x m = ne_eqb (ones x) 1 (λ (e : ones x ≡ 1). omega (arith, many-ones x m))

pub many-of : (x : ℕ) → x ≢ 0 → (single_of x ≡ true → ⊥) → Many x
many-of x h n =
    let a = some-bit x h in
    let rest : bit_xor x (2 ^ a.0) ≢ 0 = λ z. n (subst (λ (y : ℕ). single_of y ≡ true) (sym (only a.0 z)) (single-pow a.0)) in
    let b = some-bit (bit_xor x (2 ^ a.0)) rest in
    let ne : a.0 ≢ b.0 = λ e. omega (arith, subst (λ (i : ℕ). In i (bit_xor x (2 ^ a.0))) (sym e) b.1, gone a.0 a.1) in
    (a.0, b.0, ne, a.1, sym (put_other x a.0 b.0 (λ e. ne (sym e))) ∙ b.1)
  where
    only : (q : ℕ) → bit_xor x (2 ^ q) ≡ 0 → x ≡ 2 ^ q
    only q z = sym (xor-cancel x (2 ^ q)) ∙ ap (λ (y : ℕ). bit_xor y (2 ^ q)) z

    gone : (q : ℕ) → In q x → bit (bit_xor x (2 ^ q)) q ≡ 0
    gone q h = drop-same q x h

-- ---- what CNOTs inside Q make of a column

pub data Reached (Q x : ℕ) : ℕ → Type 0 where
  still : {y : ℕ} → y ≡ x → Reached Q x y
  more : {y z : ℕ} (c t : ℕ) → Reached Q x y → In c Q → In t Q → c ≢ t → z ≡ turn c t y → Reached Q x z

pub reached-trans : {Q x y z : ℕ} → Reached Q x y → Reached Q y z → Reached Q x z
reached-trans {Q} {x} {y} {z} a (still e) = subst (Reached Q x) (sym e) a
reached-trans a (more c t b hc ht ne e) = more c t (reached-trans a b) hc ht ne e

pub reached-wider : {S Q x y : ℕ} → Sub S Q → Reached S x y → Reached Q x y
reached-wider f (still e) = still e
reached-wider f (more c t b hc ht ne e) = more c t (reached-wider f b) (f c hc) (f t ht) ne e

pub reached-zero : {Q x y : ℕ} → Reached Q x y → x ≡ 0 → y ≡ 0
reached-zero (still e) z = e ∙ z
reached-zero (more {y = y} c t b hc ht ne e) z = e ∙ ap (λ (w : ℕ). turn c t w) (reached-zero b z) ∙ turn-off 0 c t (bit-of-zero t)

pub reached-live : {Q x y : ℕ} → Reached Q x y → x ≢ 0 → y ≢ 0
reached-live (still e) h z = h (sym e ∙ z)
reached-live (more {y = y} c t b hc ht ne e) h z = reached-live b h (turn-zero y c t ne (sym e ∙ z))

-- a qubit outside Q stays
pub reached-outside : {Q x y : ℕ} → Reached Q x y → (s : ℕ) → bit Q s ≡ 0 → bit y s ≡ bit x s
reached-outside (still e) s z = ap (λ (w : ℕ). bit w s) e
reached-outside {Q} (more {y = y} c t b hc ht ne e) s z =
    ap (λ (w : ℕ). bit w s) e ∙ turn-other y c t s (λ (d : c ≡ s). omega (arith, hc, z, ap (bit Q) d)) ∙ reached-outside b s z

-- inside a larger set it stays inside
pub reached-sub : {Q x y : ℕ} (P : ℕ) → Reached Q x y → Sub Q P → Sub x P → Sub y P
reached-sub P (still e) g f = subst (λ (w : ℕ). Sub w P) (sym e) f
reached-sub P (more {y = y} c t b hc ht ne e) g f = subst (λ (w : ℕ). Sub w P) (sym e) (turn-sub P y c t (g c hc) (reached-sub P b g f))

-- ---- columns set aside

-- a qubit s of x lies outside a set P around Q, and another of its qubits in P
pub record Guard (Q x : ℕ) : Type 0 where
  pub P : ℕ
  pub s : ℕ
  pub i : ℕ
  pub around : Sub Q P
  pub outside : bit P s ≡ 0
  pub own : In s x
  pub other : In i x
  pub inside : In i P

-- struck off, or guarded
abbrev pub Safe : ℕ → ℕ → Type 0
Safe Q x = (x ≡ 0) ⊎ Guard Q x

pub safe-narrow : (S Q x : ℕ) → Sub S Q → Safe Q x → Safe S x
safe-narrow S Q x f (inl z) = inl z
safe-narrow S Q x f (inr g) =
    inr (record { P = g.P; s = g.s; i = g.i; around = λ j h. g.around j (f j h); outside = g.outside; own = g.own; other = g.other; inside = g.inside })

safe-turn : (Q x c t : ℕ) → In c Q → In t Q → c ≢ t → Safe Q x → Safe Q (turn c t x)
safe-turn Q x c t hc ht ne (inl z) = inl (ap (λ (w : ℕ). turn c t w) z ∙ turn-off 0 c t (bit-of-zero t))
safe-turn Q x c t hc ht ne (inr g) = inr (go (bit-cases x t))
  where
    keeps : In g.s (turn c t x)
    keeps = turn-other x c t g.s (λ (d : c ≡ g.s). omega (arith, g.around c hc, g.outside, ap (bit g.P) d)) ∙ g.own

    go : (bit x t ≡ 0) ⊎ (bit x t ≡ 1) → Guard Q (turn c t x)
    go (inl z) = record { P = g.P; s = g.s; i = g.i; around = g.around; outside = g.outside; own = keeps; other = ap (λ (w : ℕ). bit w g.i) (turn-off x c t z) ∙ g.other; inside = g.inside }
    go (inr h) = record { P = g.P; s = g.s; i = t; around = g.around; outside = g.outside; own = keeps; other = turn-other x c t t ne ∙ h; inside = g.around t ht }

pub reached-safe : {Q x y : ℕ} → Reached Q x y → Safe Q x → Safe Q y
reached-safe {Q} (still e) s = subst (Safe Q) (sym e) s
reached-safe {Q} (more {y = y} c t b hc ht ne e) s = subst (Safe Q) (sym e) (safe-turn Q y c t hc ht ne (reached-safe b s))

pub safe-many : (Q x : ℕ) → Safe Q x → x ≢ 0 → Many x
safe-many Q x (inl z) h = absurd (h z)
safe-many Q x (inr g) h = (g.s, g.i, (λ (d : g.s ≡ g.i). omega (arith, g.outside, g.inside, ap (bit g.P) d)), g.own, g.other)

-- a column of Q of two qubits and more that has r is safe from what happens in the rest S of Q
pub safe-rest : (S Q x r : ℕ) → bit S r ≡ 0 → ((j : ℕ) → In j Q → j ≢ r → In j S) → Sub x Q → Many x → In r x → Safe S x
safe-rest S Q x r z f g m h = inr (go (ℕ_discrete m.0 r))
  where
    with-other : (j : ℕ) → j ≢ r → In j x → Guard S x
    with-other j ne k = record { P = S; s = r; i = j; around = λ a b. b; outside = z; own = h; other = k; inside = f j (g j k) ne }

    go : Dec (m.0 ≡ r) → Guard S x
    go (yes e) = with-other m.1 (λ d. m.2 (e ∙ sym d)) m.4
    go (no ne) = with-other m.0 ne m.3
