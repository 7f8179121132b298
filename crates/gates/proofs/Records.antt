-- The record of a gate decodes to the gate, and a record to a gate that is good or bad. Assumes nothing.
use mathlib.Core.Path.{◌≡◌, refl}
use mathlib.Core.Logic.{◌⊎◌, inl, inr}
use mathlib.Core.Bool.{Bool, true, false}
use Prim.Native.Nat.{ℕ, ◌/◌, ◌%◌, ◌≤◌, ◌<◌}
use native.Mathlib.Omega.{arith}
use lib.Dec.{eqb, ltb}
use borrow.Author.Tests.{lt-ltb, ne_eqb, ltb-true, eqb-true, eqb-false}
use Rattle.sets.specs.Pick.{pick}
use Rattle.gates.specs.declared.gate.Gate.{Gate}
use Rattle.gates.specs.declared.gate.Gate.TheVariants.{Cnot, Rotation, X, Bad}
use Rattle.gates.specs.Layout.{packed, kind_in, a_in, b_in, gate_of, cnot_of, rotation_of, x_of, record_of, Good, is_bad}

-- ---- the three numbers of a record

module _ (k a b : ℕ) (ha : a < 256) (hb : b < 65536) where
  pub kind-packed : kind_in (packed k a b) ≡ k
  unfolding kind_in packed
  kind-packed = omega arith

  pub a-packed : a_in (packed k a b) ≡ a
  unfolding a_in packed
  a-packed = omega arith

  pub b-packed : b_in (packed k a b) ≡ b
  unfolding b_in packed
  b-packed = omega arith

-- a 32-bit number is the record of its three numbers
pub packed-back : (x : ℕ) → packed (kind_in x) (a_in x) (b_in x) ≡ x
unfolding packed kind_in a_in b_in
packed-back x = omega arith

-- ---- gates

pub gate-record : (n : ℕ) (g : Gate) → n ≤ 256 → Good n g → gate_of n (record_of g) ≡ g
unfolding gate_of cnot_of rotation_of x_of record_of Good
gate-record n (Cnot c t) few (hc, ht, ne) =
    let ec : c % 256 ≡ c = omega arith in
    let et : t % 65536 ≡ t = omega arith in
    let c< : c < 256 = omega arith in
    let t< : t < 65536 = omega arith in
    rw (ec, et) (simp (kind-packed 1 c t c< t<, a-packed 1 c t c< t<, b-packed 1 c t c< t<, lt-ltb c n hc, lt-ltb t n ht, ne_eqb c t ne))
gate-record n (Rotation q a) few (hq, ha) =
    let eq : q % 256 ≡ q = omega arith in
    let ea : a % 65536 ≡ a = omega arith in
    let q< : q < 256 = omega arith in
    rw (eq, ea) (simp (kind-packed 2 q a q< ha, a-packed 2 q a q< ha, b-packed 2 q a q< ha, lt-ltb q n hq))
gate-record n (X q) few hq =
    let eq : q % 256 ≡ q = omega arith in
    let q< : q < 256 = omega arith in
    rw eq (simp (kind-packed 3 q 0 q< (omega arith), a-packed 3 q 0 q< (omega arith), b-packed 3 q 0 q< (omega arith), lt-ltb q n hq))
gate-record n Bad few hq = elim hq [ ]

-- what a record decodes to is good, and then the record is that gate's; or it is bad
pub gate-back : (n x : ℕ) → (gate_of n x ≡ Bad) ⊎ (Good n (gate_of n x) × (record_of (gate_of n x) ≡ x))
unfolding gate_of cnot_of rotation_of x_of Good record_of packed kind_in a_in b_in
gate-back n x = go (eqb (x / 16777216) 1) (eqb (x / 16777216) 2) (eqb (x / 16777216) 3) (ltb a n) (ltb b n) (eqb a b) (eqb b 0) refl refl refl refl refl refl refl
  where
    a : ℕ
    a = x / 65536 % 256

    b : ℕ
    b = x % 65536

    G : Bool → Bool → Bool → Bool → Bool → Bool → Bool → Gate
    G k₁ k₂ k₃ s t u z = pick k₁ (pick s (pick t (pick u Bad (Cnot a b)) Bad) Bad) (pick k₂ (pick s (Rotation a b) Bad) (pick k₃ (pick s (pick z (X a) Bad) Bad) Bad))

    go : (k₁ k₂ k₃ s t u z : Bool) → eqb (x / 16777216) 1 ≡ k₁ → eqb (x / 16777216) 2 ≡ k₂ → eqb (x / 16777216) 3 ≡ k₃ → ltb a n ≡ s → ltb b n ≡ t → eqb a b ≡ u → eqb b 0 ≡ z
        → (G k₁ k₂ k₃ s t u z ≡ Bad) ⊎ (Good n (G k₁ k₂ k₃ s t u z) × (record_of (G k₁ k₂ k₃ s t u z) ≡ x))
    go true k₂ k₃ true true true z k l m p q r o = inl refl
    go true k₂ k₃ true true false z k l m p q r o =
        inr ((ltb-true a n p, ltb-true b n q, eqb-false a b r), omega (arith, eqb-true (x / 16777216) 1 k))
    go true k₂ k₃ true false u z k l m p q r o = inl refl
    go true k₂ k₃ false t u z k l m p q r o = inl refl
    go false true k₃ true t u z k l m p q r o = inr ((ltb-true a n p, omega arith), omega (arith, eqb-true (x / 16777216) 2 l))
    go false true k₃ false t u z k l m p q r o = inl refl
    go false false true true t u true k l m p q r o = inr (ltb-true a n p, omega (arith, eqb-true (x / 16777216) 3 m, eqb-true b 0 o))
    go false false true true t u false k l m p q r o = inl refl
    go false false true false t u z k l m p q r o = inl refl
    go false false false s t u z k l m p q r o = inl refl

pub good-not-bad : (n : ℕ) (g : Gate) → Good n g → is_bad g ≡ false
unfolding Good
good-not-bad n (Cnot c t) h = refl
good-not-bad n (Rotation q a) h = refl
good-not-bad n (X q) h = refl
good-not-bad n Bad h = absurd h
