-- The order of a connected set from one member is a growth order: all members, each once, each after the first beside an earlier one.
-- Assumes nothing.
use mathlib.Core.Path.{◌≡◌, refl, sym, ap, ◌∙◌, subst}
use mathlib.Core.Logic.{◌≢◌, ◌⊎◌, inl, inr}
use mathlib.Core.Bool.{Bool, true, false}
use mathlib.Core.List.{List, [], ◌∷◌}
use Prim.Native.Nat.{ℕ, zero, suc, ◌+◌, ◌-◌, ◌^◌, ◌≤◌, ◌<◌}
use native.Mathlib.Nat.{lt_of_lt_of_le}
use native.Mathlib.Omega.{arith}
use native.Mathlib.Decide.{ℕ_discrete}
use lib.Bits.{bit_and, bit_or, bit_xor, xor_zero_l}
use lib.Count.{ones, ones-le}
use lib.Dec.{eqb}
use lib.ListN.{get_or, length, drop}
use lib.Pow.{pow_mono}
use borrow.Author.Tests.{eq-eqb, ne_eqb, eqb-false}
use Rattle.sets.specs.Pick.{pick}
use Rattle.sets.specs.Bit.{bit, In, Sub}
use Rattle.sets.specs.Size.{lowest_of, only_of}
use Rattle.sets.proofs.Bits.{bit-lt, bit-cases, bit-xor, bit-of-zero, bit-pow-same, xor-cancel}
use Rattle.sets.proofs.Members.{in-or, or_left, in_and, in-lt, sub-eq, sub_cases, put_other, put_same, put_keeps, put-cases, in-pow}
use Rattle.sets.proofs.Ones.{ones-pow, ones-put, drop-same}
use Rattle.sets.proofs.Words.{lowest-in, only-is}
use Rattle.chip.specs.Graph.{Near, Joined, nbrs, grow}
use Rattle.chip.proofs.Closure.{nbrs-sound, fixed-chain}
use Rattle.chip.proofs.Growth.{pow-sub}
use Rattle.gathering.proofs.OrderParts.{sub-lt}
use Rattle.gathering.specs.Order.{beyond_of, layer_of, order_from, order_of, Along, root, then}

-- a member one step further away: inside Q, not in S, beside a member of S
abbrev Fringe : List ℕ → ℕ → ℕ → ℕ → Type 0
Fringe near Q S i = In i Q × (bit S i ≡ 0) × ((w : ℕ) × In w S × Near near w i)

beyond-fringe : (near : List ℕ) (Q S i : ℕ) → In i (beyond_of near Q S) → Fringe near Q S i
unfolding beyond_of grow
beyond-fringe near Q S i h = go (bit-cases S i)
  where
    G : ℕ
    G = bit_or S (bit_and (nbrs S near) Q)

    new : bit S i ≡ 0 → In i S ⊎ In i (bit_and (nbrs S near) Q) → In i Q × (bit S i ≡ 0) × ((w : ℕ) × In w S × Near near w i)
    new z (inl k) = absurd (omega arith)
    new z (inr k) = let a = in_and (nbrs S near) Q i k in (a.1, z, nbrs-sound near S i a.0)

    go : (bit S i ≡ 0) ⊎ (bit S i ≡ 1) → In i Q × (bit S i ≡ 0) × ((w : ℕ) × In w S × Near near w i)
    go (inl z) = new z (in-or S (bit_and (nbrs S near) Q) i (omega (arith, bit-xor G S i, bit-lt G i, h)))
    go (inr k) = absurd (omega (arith, bit-xor G S i, or_left S (bit_and (nbrs S near) Q) i k, h))

-- nothing further away: all that chains reach is in S
beyond-none : (near : List ℕ) (Q S v : ℕ) → Joined near Q → Sub S Q → In v S → beyond_of near Q S ≡ 0 → S ≡ Q
unfolding beyond_of Joined
beyond-none near Q S v j f h e =
    let still : grow near Q S ≡ S = sym (xor-cancel (grow near Q S) S) ∙ ap (λ (n : ℕ). bit_xor n S) e ∙ xor_zero_l S in
    sub-eq S Q f (λ i q. fixed-chain near Q S v still h i (j v i (f v h) q))

-- what holds while the order grows: S has v, and what is left of the layer is one step away
record Growing (near : List ℕ) (Q v S L : ℕ) : Type 0 where
  part : Sub S Q
  has_root : In v S
  fringe : (i : ℕ) → In i L → Fringe near Q S i

layer-fringe : (near : List ℕ) (Q v S L : ℕ) → Growing near Q v S L → (i : ℕ) → In i (layer_of near Q S L) → Fringe near Q S i
unfolding layer_of
layer-fringe near Q v S L g i h = go (eqb L 0) h
  where
    go : (b : Bool) → In i (pick b (beyond_of near Q S) L) → Fringe near Q S i
    go true k = beyond-fringe near Q S i k
    go false k = g.fringe i k

layer-none : (near : List ℕ) (Q v S L : ℕ) → Joined near Q → Growing near Q v S L → layer_of near Q S L ≡ 0 → S ≡ Q
unfolding layer_of
layer-none near Q v S L j g e = go (eqb L 0) refl e
  where
    go : (b : Bool) → eqb L 0 ≡ b → pick b (beyond_of near Q S) L ≡ 0 → S ≡ Q
    go true t z = beyond-none near Q S v j g.part g.has_root z
    go false t z = absurd (eqb-false L 0 t z)

-- one more: the lowest of the layer
module _ (near : List ℕ) (Q v S L : ℕ) (low : Q < 2 ^ 20) (g : Growing near Q v S L) (some : layer_of near Q S L ≢ 0) where
  abbrev M : ℕ
  M = layer_of near Q S L

  abbrev u : ℕ
  u = lowest_of M

  layer-low : M < 2 ^ 32
  layer-low = sub-lt M Q 32 (λ i h. (layer-fringe near Q v S L g i h).0) (lt_of_lt_of_le low (pow_mono {i = 20} {j = 32} (omega arith)))

  next-in : In u M
  next-in = lowest-in M layer-low some

  next-fringe : Fringe near Q S u
  next-fringe = layer-fringe near Q v S L g u next-in

  next-growing : Growing near Q v (bit_xor S (2 ^ u)) (bit_xor M (2 ^ u))
  next-growing =
      record {
        part = λ i h. inside i (put-cases S u i h);
        has_root = put_keeps S u next-fringe.1 v g.has_root;
        fringe = λ i h. far i h (ℕ_discrete i u);
      }
    where
      inside : (i : ℕ) → (i ≡ u) ⊎ In i S → In i Q
      inside i (inl e) = subst (λ (k : ℕ). In k Q) (sym e) next-fringe.0
      inside i (inr k) = g.part i k

      far : (i : ℕ) → In i (bit_xor M (2 ^ u)) → Dec (i ≡ u) → In i Q × (bit (bit_xor S (2 ^ u)) i ≡ 0) × ((w : ℕ) × In w (bit_xor S (2 ^ u)) × Near near w i)
      far i h (yes e) = absurd (omega (arith, h, ap (bit (bit_xor M (2 ^ u))) e, drop-same u M next-in))
      far i h (no n) =
          let r = layer-fringe near Q v S L g i (sym (put_other M u i n) ∙ h) in
          (r.0, put_other S u i n ∙ r.1, (r.2.0, put_keeps S u next-fringe.1 r.2.0 r.2.1, r.2.2))

at_head : (k : ℕ) (os : List ℕ) (u : ℕ) (us : List ℕ) → drop k os ≡ u ∷ us → get_or os k 0 ≡ u
at_head zero os u us e = ap (λ (l : List ℕ). get_or l 0 0) e
at_head (suc k) [] u us e = ap (λ (l : List ℕ). get_or l 0 0) e
at_head (suc k) (o ∷ os) u us e = at_head k os u us e

at_tail : (k : ℕ) (os : List ℕ) (u : ℕ) (us : List ℕ) → drop k os ≡ u ∷ us → drop (suc k) os ≡ us
at_tail zero os u us e = ap (drop 1) e
at_tail (suc k) [] u us e = ap (drop 1) e
at_tail (suc k) (o ∷ os) u us e = at_tail k os u us e

pub order-zero : (near : List ℕ) (Q S L : ℕ) → order_from near Q 0 S L ≡ []
unfolding order_from
order-zero near Q S L = refl

pub order-step : (near : List ℕ) (Q f S L : ℕ) → order_from near Q (suc f) S L
    ≡ pick (eqb (layer_of near Q S L) 0) [] (lowest_of (layer_of near Q S L) ∷ order_from near Q f (bit_xor S (2 ^ lowest_of (layer_of near Q S L))) (bit_xor (layer_of near Q S L) (2 ^ lowest_of (layer_of near Q S L))))
unfolding order_from
order-step near Q f S L = refl

-- what is left of os behind its first k + 1 numbers is still to come: the order goes on to all of Q
goes_on : (near : List ℕ) (Q v f S L k : ℕ) (os : List ℕ) → Q < 2 ^ 20 → Joined near Q → Growing near Q v S L → ones Q ≤ ones S + f
    → Along near os k S → drop (suc k) os ≡ order_from near Q f S L → length os ≡ suc k + length (order_from near Q f S L) → Along near os (length os - 1) Q
goes_on near Q v zero S L k os low j g few a d e = finish (sub_cases Q S g.part)
  where
    finish : (S ≡ Q) ⊎ (ones S < ones Q) → Along near os (length os - 1) Q
    finish (inl s) = let n : k ≡ length os - 1 = omega (arith, ap length (order-zero near Q S L)) in subst (λ (m : ℕ). Along near os m Q) n (subst (Along near os k) s a)
    finish (inr l) = absurd (omega arith)
goes_on near Q v (suc f) S L k os low j g few a d e =
    go (ℕ_discrete (layer_of near Q S L) 0) (λ S' L' k'. goes_on near Q v f S' L' k' os low j)
  where
    M : ℕ
    M = layer_of near Q S L

    u : ℕ
    u = lowest_of M

    next : List ℕ
    next = order_from near Q f (bit_xor S (2 ^ u)) (bit_xor M (2 ^ u))

    step : order_from near Q (suc f) S L ≡ pick (eqb M 0) [] (u ∷ next)
    step = order-step near Q f S L

    go : Dec (layer_of near Q S L ≡ 0)
        → ((S' L' k' : ℕ) → Growing near Q v S' L' → ones Q ≤ ones S' + f → Along near os k' S' → drop (suc k') os ≡ order_from near Q f S' L'
        → length os ≡ suc k' + length (order_from near Q f S' L') → Along near os (length os - 1) Q)
        → Along near os (length os - 1) Q
    go (yes z) ih =
        let none : order_from near Q (suc f) S L ≡ [] = step ∙ rw (eq-eqb M 0 z) in
        let n : k ≡ length os - 1 = omega (arith, e, ap length none) in
        subst (λ (m : ℕ). Along near os m Q) n (subst (Along near os k) (layer-none near Q v S L j g z) a)
    go (no s) ih =
        let more : order_from near Q (suc f) S L ≡ u ∷ next = step ∙ rw (ne_eqb M 0 s) in
        let at : get_or os (suc k) 0 ≡ u = at_head (suc k) os u next (d ∙ more) in
        let fr = next-fringe near Q v S L low g s in
        ih (bit_xor S (2 ^ u)) (bit_xor M (2 ^ u)) (suc k) (next-growing near Q v S L low g s)
        (omega (arith, few, ones-put u S fr.1))
        (then fr.2.0 a (ap (bit S) at ∙ fr.1) fr.2.1 (subst (Near near fr.2.0) (sym at) fr.2.2) (ap (λ (m : ℕ). bit_xor S (2 ^ m)) (sym at)))
        (at_tail (suc k) os u next (d ∙ more))
        (omega (arith, e, ap length more))

-- the order of a connected set from v is a growth order of the whole set, and v stands first
pub order-along : (near : List ℕ) (Q v : ℕ) → Q < 2 ^ 20 → Joined near Q → In v Q → Along near (order_of near Q v) (length (order_of near Q v) - 1) Q
unfolding order_of
order-along near Q v low j h =
    rw (only-is v (omega (arith, in-lt 20 Q v low h)))
    (goes_on near Q v 19 (2 ^ v) 0 0 (v ∷ order_from near Q 19 (2 ^ v) 0) low j
    (record { part = pow-sub Q v h; has_root = bit-pow-same v; fringe = λ i k. absurd (omega (arith, k, bit-of-zero i)) })
    (omega (arith, ones-le 20 Q low, ones-pow v)) (root refl) refl (omega arith))

from-few : (near : List ℕ) (Q f S L : ℕ) → length (order_from near Q f S L) ≤ f
from-few near Q zero S L = omega (arith, ap length (order-zero near Q S L))
from-few near Q (suc f) S L =
    go (eqb M 0) (ap length (order-step near Q f S L)) (from-few near Q f (bit_xor S (2 ^ lowest_of M)) (bit_xor M (2 ^ lowest_of M)))
  where
    M : ℕ
    M = layer_of near Q S L

    next : List ℕ
    next = order_from near Q f (bit_xor S (2 ^ lowest_of M)) (bit_xor M (2 ^ lowest_of M))

    go : (b : Bool) → length (order_from near Q (suc f) S L) ≡ length (pick b [] (lowest_of M ∷ next)) → length next ≤ f → length (order_from near Q (suc f) S L) ≤ suc f
    go true e h = omega arith
    go false e h = omega arith

-- whatever the sets, it has one to twenty numbers
pub order-few : (near : List ℕ) (Q v : ℕ) → (1 ≤ length (order_of near Q v)) × (length (order_of near Q v) ≤ 20)
unfolding order_of
order-few near Q v = (omega arith, omega (arith, from-few near Q 19 (only_of v) 0))

pub order-first : (near : List ℕ) (Q v : ℕ) → get_or (order_of near Q v) 0 0 ≡ v
unfolding order_of
order-first near Q v = refl

-- ---- what a growth order is: the members, each once

pub along-in : {near os : List ℕ} {k S : ℕ} → Along near os k S → (j : ℕ) → j ≤ k → In (get_or os j 0) S
along-in {os = os} (root e) j l =
    let z : j ≡ 0 = omega arith in
    ap (bit _) (ap (λ (m : ℕ). get_or os m 0) z) ∙ ap (λ (m : ℕ). bit m (get_or os 0 0)) e ∙ bit-pow-same (get_or os 0 0)
along-in {os = os} (then {k = k} {E = E} {S = S} w a z h n e) j l = go (ℕ_discrete j (suc k)) (along-in a j)
  where
    go : Dec (j ≡ suc k) → (j ≤ k → In (get_or os j 0) E) → In (get_or os j 0) S
    go (yes d) ih = subst (λ (m : ℕ). In (get_or os m 0) S) (sym d) (ap (λ (m : ℕ). bit m (get_or os (suc k) 0)) e ∙ put_same E (get_or os (suc k) 0) z)
    go (no d) ih = ap (λ (m : ℕ). bit m (get_or os j 0)) e ∙ put_keeps E (get_or os (suc k) 0) z (get_or os j 0) (ih (omega arith))

pub along-has : {near os : List ℕ} {k S : ℕ} → Along near os k S → (i : ℕ) → In i S → (j : ℕ) × (j ≤ k) × (get_or os j 0 ≡ i)
along-has {os = os} (root e) i h = (0, omega arith, sym (in-pow (get_or os 0 0) i (subst (In i) e h)))
along-has {os = os} (then {k = k} {E = E} {S = S} w a z h n e) i m = go (put-cases E (get_or os (suc k) 0) i (subst (In i) e m)) (along-has a i)
  where
    go : (i ≡ get_or os (suc k) 0) ⊎ In i E → (In i E → (j : ℕ) × (j ≤ k) × (get_or os j 0 ≡ i)) → (j : ℕ) × (j ≤ suc k) × (get_or os j 0 ≡ i)
    go (inl d) ih = (suc k, omega arith, sym d)
    go (inr q) ih = let r = ih q in (r.0, omega (arith, r.1), r.2)

pub along_once : {near os : List ℕ} {k S : ℕ} → Along near os k S → (i j : ℕ) → i < j → j ≤ k → get_or os i 0 ≢ get_or os j 0
along_once (root e) i j l m d = omega arith
along_once {os = os} (then {k = k} {E = E} w a z h n e) i j l m d = go (ℕ_discrete j (suc k)) (along_once a i j l)
  where
    go : Dec (j ≡ suc k) → (j ≤ k → get_or os i 0 ≢ get_or os j 0) → ⊥
    go (yes q) ih = omega (arith, along-in a i (omega arith), z, ap (bit E) (d ∙ ap (λ (t : ℕ). get_or os t 0) q))
    go (no q) ih = ih (omega arith) d
