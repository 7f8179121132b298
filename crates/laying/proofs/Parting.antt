-- Islands part the qubits: each qubit has one leader, and a set of qubits is inside one island at most. Assumes nothing.
use mathlib.Core.Path.{◌≡◌, refl, sym, ap, ◌∙◌, subst}
use mathlib.Core.Logic.{◌≢◌}
use mathlib.Core.Bool.{Bool, true, false}
use Prim.Native.Nat.{ℕ, ◌^◌, ◌≤◌, ◌<◌}
use native.Mathlib.Nat.{lt_of_lt_of_le}
use native.Mathlib.Omega.{arith}
use lib.Bits.{bit_and}
use lib.Pow.{pow_mono}
use borrow.Author.Tests.{eq-eqb, eqb-true}
use Rattle.sets.specs.Bit.{bit, In, Sub}
use Rattle.sets.specs.Size.{lowest_of}
use Rattle.sets.proofs.Bits.{bit-of-zero}
use Rattle.sets.proofs.Members.{in_and, and_in, sub-eq, some-bit}
use Rattle.sets.proofs.Words.{lowest-in}
use Rattle.share.specs.Own.{inside_of}
use Rattle.laying.specs.Islands.{leads}

-- what islands are, for the qubits below n
pub record Parts (n : ℕ) (isl : ℕ → ℕ) : Type 0 where
  pub self : (i : ℕ) → i < n → In i (isl i)
  pub same : (i j : ℕ) → i < n → In j (isl i) → isl i ≡ isl j
  pub small : (i j : ℕ) → i < n → In j (isl i) → j < n
  pub fits : (i : ℕ) → i < n → isl i < 2 ^ n

module _ (n : ℕ) (isl : ℕ → ℕ) (few : n ≤ 20) (parts : Parts n isl) where
  not-empty : (i : ℕ) → i < n → isl i ≢ 0
  not-empty i h z = omega (arith, parts.self i h, ap (λ (m : ℕ). bit m i) z, bit-of-zero i)

  wide : (i : ℕ) → i < n → isl i < 2 ^ 32
  wide i h = lt_of_lt_of_le (parts.fits i h) (pow_mono {i = n} {j = 32} (omega arith))

  -- the leader of i's island
  pub leader-in : (i : ℕ) → i < n → In (lowest_of (isl i)) (isl i)
  leader-in i h = lowest-in (isl i) (wide i h) (not-empty i h)

  pub leader-below : (i : ℕ) → i < n → lowest_of (isl i) < n
  leader-below i h = parts.small i (lowest_of (isl i)) h (leader-in i h)

  pub leader-same : (i : ℕ) → i < n → isl (lowest_of (isl i)) ≡ isl i
  leader-same i h = sym (parts.same i (lowest_of (isl i)) h (leader-in i h))

  pub leader-leads : (i : ℕ) → i < n → leads isl (lowest_of (isl i)) ≡ true
  unfolding leads
  leader-leads i h = eq-eqb (lowest_of (isl (lowest_of (isl i)))) (lowest_of (isl i)) (ap lowest_of (leader-same i h))

  pub leads-is : (q : ℕ) → leads isl q ≡ true → lowest_of (isl q) ≡ q
  unfolding leads
  leads-is q e = eqb-true (lowest_of (isl q)) q e

  -- i is on the island led by q exactly where q is i's leader
  pub on-led : (q i : ℕ) → q < n → leads isl q ≡ true → In i (isl q) → lowest_of (isl i) ≡ q
  on-led q i h e m = ap lowest_of (sym (parts.same q i h m)) ∙ leads-is q e

  pub led_on : (q i : ℕ) → i < n → lowest_of (isl i) ≡ q → In i (isl q)
  led_on q i h e = subst (λ (k : ℕ). In i (isl k)) e (subst (In i) (sym (leader-same i h)) (parts.self i h))

  -- a set that is not empty is inside the islands of its members only
  pub inside_one : (q r p : ℕ) → q < n → r < n → leads isl q ≡ true → leads isl r ≡ true → p ≢ 0 → Sub p (isl q) → Sub p (isl r) → q ≡ r
  inside_one q r p hq hr eq er ne sq sr =
      let m = some-bit p ne in
      sym (on-led q m.0 hq eq (sq m.0 m.1)) ∙ on-led r m.0 hr er (sr m.0 m.1)

-- ---- the test for "inside"

pub inside-sub : (Q p : ℕ) → inside_of Q p ≡ true → Sub p Q
unfolding inside_of
inside-sub Q p e i h = (in_and p Q i (subst (In i) (sym (eqb-true (bit_and p Q) p e)) h)).1

pub sub-inside : (Q p : ℕ) → Sub p Q → inside_of Q p ≡ true
unfolding inside_of
sub-inside Q p s = eq-eqb (bit_and p Q) p (sub-eq (bit_and p Q) p (λ i h. (in_and p Q i h).0) (λ i h. and_in p Q i h (s i h)))

pub not-inside : (Q p : ℕ) → (Sub p Q → ⊥) → inside_of Q p ≡ false
not-inside Q p n = go (inside_of Q p) refl
  where
    go : (b : Bool) → inside_of Q p ≡ b → b ≡ false
    go true e = absurd (n (inside-sub Q p e))
    go false e = refl
