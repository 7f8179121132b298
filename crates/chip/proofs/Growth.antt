-- Growth orders: the last one in can be spared, and every member has a neighbour. Assumes nothing.
use mathlib.Core.Path.{◌≡◌, refl, sym, ap, ◌∙◌, subst}
use mathlib.Core.Logic.{◌≢◌, ◌⊎◌, inl, inr}
use mathlib.Core.List.{List}
use Prim.Native.Nat.{ℕ, zero, suc, ◌+◌, ◌^◌, ◌≤◌, ◌<◌}
use native.Mathlib.Omega.{arith}
use lib.Bits.{bit_xor}
use lib.Count.{ones}
use Rattle.sets.specs.Bit.{bit, In, Sub}
use Rattle.sets.proofs.Bits.{bit-pow-same, bit-cases, bit-xor, bit-lt, xor-cancel}
use Rattle.sets.proofs.Members.{put_same, put_keeps, put-cases, in-pow, sub_cases, some-bit}
use Rattle.sets.proofs.Ones.{ones-pow}
use Rattle.chip.specs.Graph.{Near, Symm, Chain, here, next, Joined}
use Rattle.chip.proofs.Chains.{chain-cat, chain-rev, leave}

-- a connected set as a growth order: R from v on, each later member beside an earlier one
pub data GrownFrom (near : List ℕ) (v : ℕ) : ℕ → Type 0 where
  seed : {R : ℕ} → R ≡ 2 ^ v → GrownFrom near v R
  add : {S R : ℕ} (u w : ℕ) → GrownFrom near v S → bit S u ≡ 0 → In w S → Near near w u → R ≡ bit_xor S (2 ^ u) → GrownFrom near v R

pub grown-root : {near : List ℕ} {v R : ℕ} → GrownFrom near v R → In v R
grown-root {v = v} (seed e) = ap (λ (n : ℕ). bit n v) e ∙ bit-pow-same v
grown-root {v = v} (add {S = S} u w g z b n e) = ap (λ (m : ℕ). bit m v) e ∙ put_keeps S u z v (grown-root g)

-- the last one in is another than the root, and can be taken out
pub shrink : {near : List ℕ} {v R : ℕ} → GrownFrom near v R → 2 ≤ ones R → (u : ℕ) × (u ≢ v) × In u R × GrownFrom near v (bit_xor R (2 ^ u))
shrink {v = v} (seed e) h = absurd (omega (arith, ap ones e, ones-pow v))
shrink {near} {v} (add {S = S} u w g z b n e) h = (
  u,
  (λ (d : u ≡ v). omega (arith, grown-root g, ap (bit S) d)),
  ap (λ (m : ℕ). bit m u) e ∙ put_same S u z,
  subst (GrownFrom near v) (sym (ap (λ (m : ℕ). bit_xor m (2 ^ u)) e ∙ xor-cancel S (2 ^ u))) g,
)

-- a member has a neighbour, unless it is alone
pub neighbour : {near : List ℕ} {v R : ℕ} → Symm near → GrownFrom near v R → (m : ℕ) → In m R → (R ≡ 2 ^ m) ⊎ ((n : ℕ) × (n ≢ m) × In n R × Near near m n)
neighbour {v = v} sy (seed {R = R} e) m h = inl (e ∙ ap (λ (k : ℕ). 2 ^ k) (sym (in-pow v m (subst (In m) e h))))
neighbour {near} {v} {R} sy (add {S = S} u w g z b n e) m h = go (put-cases S u m (subst (In m) e h)) (neighbour sy g m)
  where
    apart : (i : ℕ) → In i S → u ≢ i
    apart i k d = let x : bit S u ≡ bit S i = ap (bit S) d in omega arith

    up : (i : ℕ) → In i S → In i R
    up i k = subst (In i) (sym e) (put_keeps S u z i k)

    new : In u R
    new = subst (In u) (sym e) (put_same S u z)

    go : (m ≡ u) ⊎ In m S → (In m S → (S ≡ 2 ^ m) ⊎ ((n : ℕ) × (n ≢ m) × In n S × Near near m n)) → (R ≡ 2 ^ m) ⊎ ((n : ℕ) × (n ≢ m) × In n R × Near near m n)
    go (inl d) ih = inr (w, (λ x. apart w b (sym (x ∙ d))), up w b, subst (λ (k : ℕ). Near near k w) (sym d) (sy w u n))
    go (inr k) ih = old (ih k)
      where
        old : (S ≡ 2 ^ m) ⊎ ((n : ℕ) × (n ≢ m) × In n S × Near near m n) → (R ≡ 2 ^ m) ⊎ ((n : ℕ) × (n ≢ m) × In n R × Near near m n)
        old (inl q) = inr (u, apart m k, new, subst (λ (k : ℕ). Near near k u) (in-pow m w (subst (In w) q b)) n)
        old (inr r) = inr (r.0, r.1, up r.0 r.2, r.3)

pub neighbour-of : {near : List ℕ} {v R : ℕ} → Symm near → GrownFrom near v R → 2 ≤ ones R → (m : ℕ) → In m R → (n : ℕ) × (n ≢ m) × In n R × Near near m n
neighbour-of {near} {v} {R} sy g l m h = go (neighbour sy g m h)
  where
    go : (R ≡ 2 ^ m) ⊎ ((n : ℕ) × (n ≢ m) × In n R × Near near m n) → (n : ℕ) × (n ≢ m) × In n R × Near near m n
    go (inl e) = absurd (omega (arith, ap ones e, ones-pow m))
    go (inr r) = r

pub grown-chain : {near : List ℕ} {v S : ℕ} (Q : ℕ) → GrownFrom near v S → Sub S Q → (w : ℕ) → In w S → Chain near Q v w
grown-chain {near} {v} Q (seed e) f w h = subst (Chain near Q v) (sym (in-pow v w (subst (In w) e h))) (here (f v (ap (λ (n : ℕ). bit n v) e ∙ bit-pow-same v)))
grown-chain {near} {v} Q (add {S = S} {R = R} u x g z b n e) f w h = go (put-cases S u w (subst (In w) e h)) (grown-chain Q g sub)
  where
    sub : Sub S Q
    sub i k = f i (subst (In i) (sym e) (put_keeps S u z i k))

    go : (w ≡ u) ⊎ In w S → ((w : ℕ) → In w S → Chain near Q v w) → Chain near Q v w
    go (inl d) ih = next (ih x b) (subst (Near near x) (sym d) n) (f w h)
    go (inr k) ih = ih w k

pub pow-sub : (Q v : ℕ) → In v Q → Sub (2 ^ v) Q
pow-sub Q v h i k = subst (λ (j : ℕ). In j Q) (sym (in-pow v i k)) h

-- ---- joined and grown are the same

-- a part of Q that is not Q lacks a member
lacks : (S Q : ℕ) → Sub S Q → S ≢ Q → (b : ℕ) × In b Q × (bit S b ≡ 0)
lacks S Q f ne =
    let r = some-bit (bit_xor S Q) (λ z. ne (sym (xor-cancel S Q) ∙ ap (λ (n : ℕ). bit_xor n Q) z)) in
    let t = at r.0 r.1 (bit-cases S r.0) in
    (r.0, t.0, t.1)
  where
    at : (i : ℕ) → In i (bit_xor S Q) → (bit S i ≡ 0) ⊎ (bit S i ≡ 1) → In i Q × (bit S i ≡ 0)
    at i h (inl z) = (omega (arith, bit-xor S Q i, bit-lt Q i), z)
    at i h (inr y) = absurd (omega (arith, bit-xor S Q i, f i y))

-- one more can be taken in
take_in : (near : List ℕ) (Q v S : ℕ) → Joined near Q → GrownFrom near v S → Sub S Q → ones S < ones Q → (R : ℕ) × GrownFrom near v R × Sub R Q × (ones S < ones R)
unfolding Joined
take_in near Q v S j g f l =
    let b = lacks S Q f (λ (e : S ≡ Q). omega (arith, ap ones e)) in
    let r = leave S (j v b.0 (f v (grown-root g)) b.1) (grown-root g) b.2 in
    let u : ℕ = r.1 in (
      bit_xor S (2 ^ u),
      add u r.0 g r.3 r.2 r.4 refl,
      (λ i h. inside i u r.5 (put-cases S u i h)),
      more u r.3 (sub_cases (bit_xor S (2 ^ u)) S (put_keeps S u r.3)),
    )
  where
    inside : (i u : ℕ) → In u Q → (i ≡ u) ⊎ In i S → In i Q
    inside i u q (inl e) = subst (λ (k : ℕ). In k Q) (sym e) q
    inside i u q (inr k) = f i k

    more : (u : ℕ) → bit S u ≡ 0 → (S ≡ bit_xor S (2 ^ u)) ⊎ (ones S < ones (bit_xor S (2 ^ u))) → ones S < ones (bit_xor S (2 ^ u))
    more u z (inl e) = absurd (omega (arith, put_same S u z, ap (λ (n : ℕ). bit n u) e))
    more u z (inr h) = h

grow-up : (near : List ℕ) (Q v k S : ℕ) → Joined near Q → GrownFrom near v S → Sub S Q → ones Q ≤ ones S + k → GrownFrom near v Q
grow-up near Q v zero S j g f l = go (sub_cases Q S f)
  where
    go : (S ≡ Q) ⊎ (ones S < ones Q) → GrownFrom near v Q
    go (inl e) = subst (GrownFrom near v) e g
    go (inr h) = absurd (omega arith)
grow-up near Q v (suc k) S j g f l = go (sub_cases Q S f) (λ R. grow-up near Q v k R j)
  where
    go : (S ≡ Q) ⊎ (ones S < ones Q) → ((R : ℕ) → GrownFrom near v R → Sub R Q → ones Q ≤ ones R + k → GrownFrom near v Q) → GrownFrom near v Q
    go (inl e) ih = subst (GrownFrom near v) e g
    go (inr h) ih = let r = take_in near Q v S j g f h in ih r.0 r.1 r.2 (omega (arith, r.3))

pub joined-grown : (near : List ℕ) (Q v : ℕ) → Joined near Q → In v Q → GrownFrom near v Q
joined-grown near Q v j h = grow-up near Q v (ones Q) (2 ^ v) j (seed refl) (pow-sub Q v h) (omega arith)

pub grown-joined : (near : List ℕ) (Q v : ℕ) → Symm near → GrownFrom near v Q → Joined near Q
unfolding Joined
grown-joined near Q v sy g a b ha hb = chain-cat (chain-rev sy (grown-chain Q g (λ i h. h) a ha)) (grown-chain Q g (λ i h. h) b hb)

-- ---- what spares and neighbours rest on

-- from any member v, another one can be taken out and the rest stays joined
pub joined-shrink : (near : List ℕ) (Q v : ℕ) → Symm near → Joined near Q → In v Q → 2 ≤ ones Q → (u : ℕ) × (u ≢ v) × In u Q × Joined near (bit_xor Q (2 ^ u))
joined-shrink near Q v sy j h l =
    let r = shrink (joined-grown near Q v j h) l in
    (r.0, r.1, r.2, grown-joined near (bit_xor Q (2 ^ r.0)) v sy r.3)

-- every member has a neighbour among the others
pub joined-neighbour : (near : List ℕ) (Q m : ℕ) → Symm near → Joined near Q → In m Q → 2 ≤ ones Q → (n : ℕ) × (n ≢ m) × In n Q × Near near m n
joined-neighbour near Q m sy j h l = neighbour-of sy (joined-grown near Q m j h) l m h
