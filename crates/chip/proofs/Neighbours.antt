-- The neighbours that coupler records give: symmetric, never a qubit itself, and exactly the listed couplers. Assumes nothing.
use mathlib.Core.Path.{◌≡◌, refl, sym, ap, ap₂, ◌∙◌, subst}
use mathlib.Core.Logic.{◌≢◌, ◌⊎◌, inl, inr}
use mathlib.Core.Bool.{Bool, true, false}
use mathlib.Core.List.{List, [], ◌∷◌}
use Prim.Native.Nat.{ℕ, zero, suc, ◌+◌, ◌*◌, ◌/◌, ◌%◌, ◌^◌, ◌≤◌, ◌<◌}
use native.Mathlib.Omega.{arith}
use native.Mathlib.Numerals.{add-one}
use native.Mathlib.Decide.{ℕ_discrete, dec_lt}
use Rattle.std.specs.Prelude.{Ok, Err}
use Rattle.std.proofs.Common.{Option, Some, None}
use Rattle.std.proofs.lemmas.Option.{same_Some}
use lib.Dec.{eqb, ltb}
use lib.ListN.{length, get_or, set, drop, replicate, drop_of_length-le, length-set, length-replicate, get_or-replicate, get_or-eq_default}
use lib.Seq.{drop-cons, get_or-set_same, get_or-set_other}
use lib.Bits.{bit_or, or_self}
use borrow.Author.Tests.{lt-ltb, le-ltb, eq-eqb, ne_eqb, ltb-true, ltb-false, eqb-true, eqb-false}
use Rattle.sets.specs.Pick.{pick}
use Rattle.sets.specs.Bit.{bit, In}
use Rattle.sets.specs.Search.{first_of}
use Rattle.sets.proofs.Bits.{bit-of-zero, bit-pow-same, or_assoc}
use Rattle.sets.proofs.Members.{in-or, or_left, or_right, in-pow}
use Rattle.sets.proofs.Finding.{first-before}
use Rattle.gates.specs.Layout.{packed, kind_in, a_in, b_in, with_ends, no_coupler, coupler_of, is_wrong}
use Rattle.gates.specs.Listed.{Listed}
use Rattle.verdicts.specs.Verdicts.{Verdict, judged_couplers, wrong_at, first_failing}
use Rattle.gates.specs.declared.coupler.Coupler.{Coupler}
use Rattle.verdicts.specs.declared.verdict.Refusal.TheVariants.{ManyCouplers, WrongCoupler}
use Rattle.gates.proofs.Records.{kind-packed, a-packed, b-packed}
use Rattle.chip.specs.Graph.{Near, Symm}
use Rattle.chip.specs.Couplers.{link_of, add_of, add_all, near_of}
use Rattle.sets.proofs.Deciding.{never}

-- ---- what a record says

-- a record that is a coupler has different ends below n, and is the record of its ends
pub coupler-ends : (n x a b : ℕ) → coupler_of n x ≡ with_ends a b → (a < n) × (b < n) × (a ≢ b) × (x ≡ packed 0 a b)
unfolding coupler_of packed kind_in a_in b_in
coupler-ends n x a b = go (eqb (x / 16777216) 0) (ltb A n) (ltb B n) (eqb A B) refl refl refl refl
  where
    A : ℕ
    A = x / 65536 % 256

    B : ℕ
    B = x % 65536

    go : (k s t u : Bool) → eqb (x / 16777216) 0 ≡ k → ltb A n ≡ s → ltb B n ≡ t → eqb A B ≡ u
        → pick k (pick s (pick t (pick u no_coupler (with_ends A B)) no_coupler) no_coupler) no_coupler ≡ with_ends a b → (a < n) × (b < n) × (a ≢ b) × (x ≡ 0 * 16777216 + a * 65536 + b)
    go true true true true k p q r e = let z : ◌≡◌ {A = ℕ} 0 1 = cc in absurd (omega arith)
    go true true true false k p q r e =
        let ea : A ≡ a = ap (λ (c : Coupler). c.a) (same_Some _ _ e) in
        let eb : B ≡ b = ap (λ (c : Coupler). c.b) (same_Some _ _ e) in
        (omega (arith, ltb-true A n p), omega (arith, ltb-true B n q), (λ (z : a ≡ b). eqb-false A B r (ea ∙ z ∙ sym eb)), omega (arith, eqb-true (x / 16777216) 0 k))
    go true true false u k p q r e = let z : ◌≡◌ {A = ℕ} 0 1 = cc in absurd (omega arith)
    go true false t u k p q r e = let z : ◌≡◌ {A = ℕ} 0 1 = cc in absurd (omega arith)
    go false s t u k p q r e = let z : ◌≡◌ {A = ℕ} 0 1 = cc in absurd (omega arith)

pub coupler-packed : (n a b : ℕ) → n ≤ 256 → a < n → b < n → a ≢ b → coupler_of n (packed 0 a b) ≡ with_ends a b
unfolding coupler_of
coupler-packed n a b few ha hb ne =
    let a< : a < 256 = omega arith in
    let b< : b < 65536 = omega arith in
    simp (kind-packed 0 a b a< b<, a-packed 0 a b a< b<, b-packed 0 a b a< b<, lt-ltb a n ha, lt-ltb b n hb, ne_eqb a b ne)

pub coupler-loop : (n a : ℕ) → n ≤ 256 → a < n → coupler_of n (packed 0 a a) ≡ no_coupler
unfolding coupler_of
coupler-loop n a few ha =
    let a< : a < 256 = omega arith in
    let b< : a < 65536 = omega arith in
    simp (kind-packed 0 a a a< b<, a-packed 0 a a a< b<, b-packed 0 a a a< b<, lt-ltb a n ha, eq-eqb a a refl)

-- an accepted list has no wrong record
pub accepted-right : (n : ℕ) (xs : List ℕ) → judged_couplers n xs ≡ Ok tt → (k : ℕ) → k < length xs → is_wrong (coupler_of n (get_or xs k 0)) ≡ false
unfolding judged_couplers wrong_at first_failing
accepted-right n xs e k h = go (ltb 190 (length xs)) (ltb first (length xs)) refl e
  where
    f : ℕ → Bool
    f j = is_wrong (coupler_of n (get_or xs j 0))

    first : ℕ
    first = first_of f (length xs) 0

    go : (s t : Bool) → ltb first (length xs) ≡ t → ◌≡◌ {A = Verdict} (pick s (Err ManyCouplers) (pick t (Err (WrongCoupler first)) (Ok tt))) (Ok tt) → f k ≡ false
    go true t p e = let z : ◌≡◌ {A = ℕ} 0 1 = cc in absurd (omega arith)
    go false true p e = let z : ◌≡◌ {A = ℕ} 0 1 = cc in absurd (omega arith)
    go false false p e = first-before f (length xs) 0 k (omega arith) (omega (arith, ltb-false first (length xs) p))

-- ---- one coupler

module _ (a b : ℕ) (near : List ℕ) where
  link-in : a < 20 → b < 20 → link_of a b near ≡ set (set near a (bit_or (get_or near a 0) (2 ^ b))) b (bit_or (get_or near b 0) (2 ^ a))
  unfolding link_of
  link-in ha hb = simp (lt-ltb a 20 ha, lt-ltb b 20 hb)

  pub link-past : 20 ≤ a → link_of a b near ≡ near
  unfolding link_of
  link-past ha = simp (le-ltb a 20 ha)

  pub link-past-2 : a < 20 → 20 ≤ b → link_of a b near ≡ near
  unfolding link_of
  link-past-2 ha hb = simp (lt-ltb a 20 ha, le-ltb b 20 hb)

  pub link-is : a < 20 → b < 20 → (x y : ℕ) → x ≡ 2 ^ b → y ≡ 2 ^ a → set (set near a (bit_or (get_or near a 0) x)) b (bit_or (get_or near b 0) y) ≡ link_of a b near
  link-is ha hb x y ex ey = rw (ex, ey) (sym (link-in ha hb))

  -- one end is written after the other: what the second write finds, where the ends are one qubit, changes nothing
  pub link-twice : length near ≡ 20 → a < 20 → b < 20 → (x y : ℕ) → x ≡ 2 ^ b → y ≡ 2 ^ a
      → set (set near a (bit_or (get_or near a 0) x)) b (bit_or (get_or (set near a (bit_or (get_or near a 0) x)) b 0) y) ≡ link_of a b near
  link-twice len ha hb x y ex ey =
      rw (ex, ey) (ap (λ (w : ℕ). set (set near a (bit_or (get_or near a 0) (2 ^ b))) b w) (second (ℕ_discrete a b)) ∙ link-is ha hb (2 ^ b) (2 ^ a) refl refl)
    where
      second : Dec (a ≡ b) → bit_or (get_or (set near a (bit_or (get_or near a 0) (2 ^ b))) b 0) (2 ^ a) ≡ bit_or (get_or near b 0) (2 ^ a)
      second (yes e) =
          let r : ℕ = get_or near a 0 in
          subst (λ (c : ℕ). bit_or (get_or (set near a (bit_or r (2 ^ c))) c 0) (2 ^ a) ≡ bit_or (get_or near c 0) (2 ^ a)) e
          (ap (λ (w : ℕ). bit_or w (2 ^ a)) (get_or-set_same near a (bit_or r (2 ^ a)) 0 (omega arith)) ∙ or_assoc r (2 ^ a) (2 ^ a) ∙ ap (bit_or r) (or_self (2 ^ a)))
      second (no ne) = ap (λ (w : ℕ). bit_or w (2 ^ a)) (get_or-set_other near a b (bit_or (get_or near a 0) (2 ^ b)) 0 (λ e. ne (sym e)))

  link-length : length (link_of a b near) ≡ length near
  unfolding link_of
  link-length = go (ltb a 20) (ltb b 20)
    where
      go : (s t : Bool) → length (pick s (pick t (set (set near a (bit_or (get_or near a 0) (2 ^ b))) b (bit_or (get_or near b 0) (2 ^ a))) near) near) ≡ length near
      go true true = simp length-set
      go true false = refl
      go false t = refl

  module _ (len : length near ≡ 20) (ha : a < 20) (hb : b < 20) where
    row-b : get_or (link_of a b near) b 0 ≡ bit_or (get_or near b 0) (2 ^ a)
    row-b = ap (λ (l : List ℕ). get_or l b 0) (link-in ha hb) ∙ get_or-set_same (set near a (bit_or (get_or near a 0) (2 ^ b))) b (bit_or (get_or near b 0) (2 ^ a)) 0 (omega (arith, length-set near a (bit_or (get_or near a 0) (2 ^ b))))

    row-a : a ≢ b → get_or (link_of a b near) a 0 ≡ bit_or (get_or near a 0) (2 ^ b)
    row-a ne =
        ap (λ (l : List ℕ). get_or l a 0) (link-in ha hb)
        ∙ get_or-set_other (set near a (bit_or (get_or near a 0) (2 ^ b))) b a (bit_or (get_or near b 0) (2 ^ a)) 0 ne
        ∙ get_or-set_same near a (bit_or (get_or near a 0) (2 ^ b)) 0 (omega arith)

    row_other : (u : ℕ) → u ≢ a → u ≢ b → get_or (link_of a b near) u 0 ≡ get_or near u 0
    row_other u na nb =
        ap (λ (l : List ℕ). get_or l u 0) (link-in ha hb)
        ∙ get_or-set_other (set near a (bit_or (get_or near a 0) (2 ^ b))) b u (bit_or (get_or near b 0) (2 ^ a)) 0 nb
        ∙ get_or-set_other near a u (bit_or (get_or near a 0) (2 ^ b)) 0 na

    rows-keep : (u v : ℕ) → Near near u v → Near (link_of a b near) u v
    rows-keep u v n = go (ℕ_discrete u b) (ℕ_discrete u a)
      where
        go : Dec (u ≡ b) → Dec (u ≡ a) → Near (link_of a b near) u v
        go (yes e) q = subst (λ (w : ℕ). Near (link_of a b near) w v) (sym e) (ap (λ (x : ℕ). bit x v) row-b ∙ or_left (get_or near b 0) (2 ^ a) v (subst (λ (w : ℕ). Near near w v) e n))
        go (no p) (yes e) =
            subst (λ (w : ℕ). Near (link_of a b near) w v) (sym e)
            (ap (λ (x : ℕ). bit x v) (row-a (λ (z : a ≡ b). p (e ∙ z))) ∙ or_left (get_or near a 0) (2 ^ b) v (subst (λ (w : ℕ). Near near w v) e n))
        go (no p) (no q) = ap (λ (x : ℕ). bit x v) (row_other u q p) ∙ n

    rows-from : a ≢ b → (u v : ℕ) → Near (link_of a b near) u v → Near near u v ⊎ (((u ≡ a) × (v ≡ b)) ⊎ ((u ≡ b) × (v ≡ a)))
    rows-from ne u v n = go (ℕ_discrete u b) (ℕ_discrete u a)
      where
        at_b : u ≡ b → In v (get_or near b 0) ⊎ In v (2 ^ a) → Near near u v ⊎ (((u ≡ a) × (v ≡ b)) ⊎ ((u ≡ b) × (v ≡ a)))
        at_b e (inl h) = inl (subst (λ (w : ℕ). Near near w v) (sym e) h)
        at_b e (inr h) = inr (inr (e, in-pow a v h))

        at_a : u ≡ a → In v (get_or near a 0) ⊎ In v (2 ^ b) → Near near u v ⊎ (((u ≡ a) × (v ≡ b)) ⊎ ((u ≡ b) × (v ≡ a)))
        at_a e (inl h) = inl (subst (λ (w : ℕ). Near near w v) (sym e) h)
        at_a e (inr h) = inr (inl (e, in-pow b v h))

        go : Dec (u ≡ b) → Dec (u ≡ a) → Near near u v ⊎ (((u ≡ a) × (v ≡ b)) ⊎ ((u ≡ b) × (v ≡ a)))
        go (yes e) q = at_b e (in-or (get_or near b 0) (2 ^ a) v (sym (ap (λ (x : ℕ). bit x v) row-b) ∙ subst (λ (w : ℕ). Near (link_of a b near) w v) e n))
        go (no p) (yes e) = at_a e (in-or (get_or near a 0) (2 ^ b) v (sym (ap (λ (x : ℕ). bit x v) (row-a ne)) ∙ subst (λ (w : ℕ). Near (link_of a b near) w v) e n))
        go (no p) (no q) = inl (sym (ap (λ (x : ℕ). bit x v) (row_other u q p)) ∙ n)

-- the record x joins u and v
abbrev pub Joins : ℕ → ℕ → ℕ → ℕ → Type 0
Joins n x u v = (coupler_of n x ≡ with_ends u v) ⊎ (coupler_of n x ≡ with_ends v u)

pub add-length : (c : Option Coupler) (near : List ℕ) → length (add_of c near) ≡ length near
unfolding add_of
add-length (Some c) near = link-length c.a c.b near
add-length None near = refl

add-keeps : (c : Option Coupler) (near : List ℕ) → length near ≡ 20 → (u v : ℕ) → Near near u v → Near (add_of c near) u v
unfolding add_of
add-keeps None near len u v n = n
add-keeps (Some c) near len u v n = go (dec_lt c.a 20) (dec_lt c.b 20)
  where
    go : Dec (c.a < 20) → Dec (c.b < 20) → Near (link_of c.a c.b near) u v
    go (yes ha) (yes hb) = rows-keep c.a c.b near len ha hb u v n
    go (yes ha) (no hb) = subst (λ (l : List ℕ). Near l u v) (sym (link-past-2 c.a c.b near ha (omega arith))) n
    go (no ha) q = subst (λ (l : List ℕ). Near l u v) (sym (link-past c.a c.b near (omega arith))) n

add-near : (a b : ℕ) (near : List ℕ) → length near ≡ 20 → a < 20 → b < 20 → a ≢ b → Near (add_of (with_ends a b) near) a b × Near (add_of (with_ends a b) near) b a
unfolding add_of
add-near a b near len ha hb ne = (
  ap (λ (x : ℕ). bit x b) (row-a a b near len ha hb ne) ∙ or_right (get_or near a 0) (2 ^ b) b (bit-pow-same b),
  ap (λ (x : ℕ). bit x a) (row-b a b near len ha hb) ∙ or_right (get_or near b 0) (2 ^ a) a (bit-pow-same a),
)

add-from : (n x : ℕ) (c : Option Coupler) → coupler_of n x ≡ c → (near : List ℕ) → length near ≡ 20 → (u v : ℕ) → Near (add_of c near) u v → Near near u v ⊎ ((u < 20) × (v < 20) × Joins n x u v)
unfolding add_of
add-from n x None e near len u v h = inl h
add-from n x (Some c) e near len u v h = go (dec_lt a 20) (dec_lt b 20)
  where
    a : ℕ
    a = c.a

    b : ℕ
    b = c.b

    to : a < 20 → b < 20 → Near near u v ⊎ (((u ≡ a) × (v ≡ b)) ⊎ ((u ≡ b) × (v ≡ a))) → Near near u v ⊎ ((u < 20) × (v < 20) × Joins n x u v)
    to ha hb (inl k) = inl k
    to ha hb (inr (inl (p, q))) = inr (omega arith, omega arith, inl (e ∙ ap₂ with_ends (sym p) (sym q)))
    to ha hb (inr (inr (p, q))) = inr (omega arith, omega arith, inr (e ∙ ap₂ with_ends (sym q) (sym p)))

    go : Dec (a < 20) → Dec (b < 20) → Near near u v ⊎ ((u < 20) × (v < 20) × Joins n x u v)
    go (yes ha) (yes hb) = to ha hb (rows-from a b near len ha hb (coupler-ends n x a b e).2 u v h)
    go (yes ha) (no hb) = inl (subst (λ (l : List ℕ). Near l u v) (link-past-2 a b near ha (omega arith)) h)
    go (no ha) q = inl (subst (λ (l : List ℕ). Near l u v) (link-past a b near (omega arith)) h)

-- ---- a list of records

all-keeps : (n : ℕ) (xs near : List ℕ) → length near ≡ 20 → (u v : ℕ) → Near near u v → Near (add_all n xs near) u v
unfolding add_all
all-keeps n [] near len u v h = h
all-keeps n (x ∷ xs) near len u v h =
    all-keeps n xs (add_of (coupler_of n x) near) (add-length (coupler_of n x) near ∙ len) u v (add-keeps (coupler_of n x) near len u v h)

all_near : (n : ℕ) (xs near : List ℕ) → length near ≡ 20 → (u v k : ℕ) → k < length xs → u < 20 → v < 20 → Joins n (get_or xs k 0) u v → Near (add_all n xs near) u v
unfolding add_all
all_near n [] near len u v k h hu hv j = absurd (omega arith)
all_near n (x ∷ xs) near len u v zero h hu hv j =
    all-keeps n xs (add_of (coupler_of n x) near) (add-length (coupler_of n x) near ∙ len) u v (here j)
  where
    here : Joins n x u v → Near (add_of (coupler_of n x) near) u v
    here (inl e) = subst (λ (c : Option Coupler). Near (add_of c near) u v) (sym e) (add-near u v near len hu hv (coupler-ends n x u v e).2).0
    here (inr e) = subst (λ (c : Option Coupler). Near (add_of c near) u v) (sym e) (add-near v u near len hv hu (coupler-ends n x v u e).2).1
all_near n (x ∷ xs) near len u v (suc k) h hu hv j =
    all_near n xs (add_of (coupler_of n x) near) (add-length (coupler_of n x) near ∙ len) u v k (omega arith) hu hv j

-- u and v are joined by a record of the list
abbrev pub JoinedBy : ℕ → List ℕ → ℕ → ℕ → Type 0
JoinedBy n xs u v = (u < 20) × (v < 20) × ((k : ℕ) × (k < length xs) × Joins n (get_or xs k 0) u v)

all_from : (n : ℕ) (xs near : List ℕ) → length near ≡ 20 → (u v : ℕ) → Near (add_all n xs near) u v → Near near u v ⊎ JoinedBy n xs u v
unfolding add_all
all_from n [] near len u v h = inl h
all_from n (x ∷ xs) near len u v h = go (all_from n xs (add_of (coupler_of n x) near) (add-length (coupler_of n x) near ∙ len) u v h)
  where
    first : Near near u v ⊎ ((u < 20) × (v < 20) × Joins n x u v) → Near near u v ⊎ JoinedBy n (x ∷ xs) u v
    first (inl k) = inl k
    first (inr (p, q, j)) = inr (p, q, (0, omega arith, j))

    go : Near (add_of (coupler_of n x) near) u v ⊎ JoinedBy n xs u v → Near near u v ⊎ JoinedBy n (x ∷ xs) u v
    go (inl k) = first (add-from n x (coupler_of n x) refl near len u v k)
    go (inr (p, q, (k, l, j))) = inr (p, q, (suc k, omega arith, j))

-- one turn of the loop, and its end
pub all-step : (n : ℕ) (xs near : List ℕ) (k : ℕ) → k < length xs → add_all n (drop k xs) near ≡ add_all n (drop (k + 1) xs) (add_of (coupler_of n (get_or xs k 0)) near)
unfolding add_all
all-step n xs near k h = ap (λ (l : List ℕ). add_all n l near) (drop-cons xs k 0 h) ∙ ap (λ (j : ℕ). add_all n (drop j xs) (add_of (coupler_of n (get_or xs k 0)) near)) (sym (add-one k))

pub all_end : (n : ℕ) (xs near : List ℕ) (k : ℕ) → length xs ≤ k → add_all n (drop k xs) near ≡ near
unfolding add_all
all_end n xs near k h = ap (λ (l : List ℕ). add_all n l near) (drop_of_length-le xs h)

none-near : (u v : ℕ) → Near (replicate 20 0) u v → ⊥
none-near u v h = go (dec_lt u 20)
  where
    go : Dec (u < 20) → ⊥
    go (yes l) = omega (arith, h, ap (λ (x : ℕ). bit x v) (get_or-replicate 20 u 0 0 l), bit-of-zero v)
    go (no l) = omega (arith, h, ap (λ (x : ℕ). bit x v) (get_or-eq_default (replicate 20 0) 0 {n = u} (omega (arith, length-replicate {A = ℕ} 20 0))), bit-of-zero v)

-- ---- what the crates above use

module _ (n : ℕ) (xs : List ℕ) where
  -- neighbours are joined by a record, and what a record joins are neighbours
  pub near-among : (u v : ℕ) → Near (near_of n xs) u v → JoinedBy n xs u v
  unfolding near_of
  near-among u v h = go (all_from n xs (replicate 20 0) (length-replicate {A = ℕ} 20 0) u v h)
    where
      go : Near (replicate 20 0) u v ⊎ JoinedBy n xs u v → JoinedBy n xs u v
      go (inl k) = absurd (none-near u v k)
      go (inr r) = r

  pub among-near : (u v : ℕ) → JoinedBy n xs u v → Near (near_of n xs) u v
  unfolding near_of
  among-near u v (p, q, (k, l, j)) = all_near n xs (replicate 20 0) (length-replicate {A = ℕ} 20 0) u v k l p q j

  -- "Couplers have no direction"
  pub near-symm : Symm (near_of n xs)
  near-symm u v h = go (near-among u v h)
    where
      turned : (x : ℕ) → Joins n x u v → Joins n x v u
      turned x (inl e) = inr e
      turned x (inr e) = inl e

      go : JoinedBy n xs u v → Near (near_of n xs) v u
      go (p, q, (k, l, j)) = among-near v u (q, p, (k, l, turned (get_or xs k 0) j))

  pub near-other : (u v : ℕ) → Near (near_of n xs) u v → u ≢ v
  near-other u v h = go (near-among u v h)
    where
      ends : (x : ℕ) → Joins n x u v → u ≢ v
      ends x (inl e) = (coupler-ends n x u v e).2
      ends x (inr e) = λ (z : u ≡ v). (coupler-ends n x v u e).2 (sym z)

      go : JoinedBy n xs u v → u ≢ v
      go (p, q, (k, l, j)) = ends (get_or xs k 0) j

  pub near-below : (u v : ℕ) → Near (near_of n xs) u v → (u < n) × (v < n)
  near-below u v h = go (near-among u v h)
    where
      ends : (x : ℕ) → Joins n x u v → (u < n) × (v < n)
      ends x (inl e) = let r = coupler-ends n x u v e in (r.0, r.1)
      ends x (inr e) = let r = coupler-ends n x v u e in (r.1, r.0)

      go : JoinedBy n xs u v → (u < n) × (v < n)
      go (p, q, (k, l, j)) = ends (get_or xs k 0) j

  -- neighbours are listed, and two different qubits that are listed are neighbours
  pub near-listed : (u v : ℕ) → Near (near_of n xs) u v → Listed xs u v
  unfolding Listed
  near-listed u v h = go (near-among u v h)
    where
      ends : (x : ℕ) → Joins n x u v → (x ≡ packed 0 u v) ⊎ (x ≡ packed 0 v u)
      ends x (inl e) = inl (coupler-ends n x u v e).3
      ends x (inr e) = inr (coupler-ends n x v u e).3

      go : JoinedBy n xs u v → (k : ℕ) × (k < length xs) × ((get_or xs k 0 ≡ packed 0 u v) ⊎ (get_or xs k 0 ≡ packed 0 v u))
      go (p, q, (k, l, j)) = (k, l, ends (get_or xs k 0) j)

  pub listed-near : n ≤ 20 → (u v : ℕ) → u < n → v < n → u ≢ v → Listed xs u v → Near (near_of n xs) u v
  unfolding Listed
  listed-near few u v hu hv ne (k, l, j) = among-near u v (omega arith, omega arith, (k, l, joins (get_or xs k 0) j))
    where
      joins : (x : ℕ) → (x ≡ packed 0 u v) ⊎ (x ≡ packed 0 v u) → Joins n x u v
      joins x (inl e) = inl (ap (coupler_of n) e ∙ coupler-packed n u v (omega arith) hu hv ne)
      joins x (inr e) = inr (ap (coupler_of n) e ∙ coupler-packed n v u (omega arith) hv hu (λ (z : v ≡ u). ne (sym z)))

  -- the same of an accepted list, which lists no qubit with itself
  pub accepted-other : n ≤ 20 → judged_couplers n xs ≡ Ok tt → (u v : ℕ) → u < n → Listed xs u v → u ≢ v
  unfolding Listed
  accepted-other few ok u v hu (k, l, j) z = never (ap is_wrong (wrong j)) (accepted-right n xs ok k l)
    where
      wrong : (get_or xs k 0 ≡ packed 0 u v) ⊎ (get_or xs k 0 ≡ packed 0 v u) → coupler_of n (get_or xs k 0) ≡ no_coupler
      wrong (inl e) = ap (coupler_of n) (e ∙ ap (packed 0 u) (sym z)) ∙ coupler-loop n u (omega arith) hu
      wrong (inr e) = ap (coupler_of n) (e ∙ ap (λ (w : ℕ). packed 0 w u) (sym z)) ∙ coupler-loop n u (omega arith) hu

  pub accepted-near : n ≤ 20 → judged_couplers n xs ≡ Ok tt → (u v : ℕ) → u < n → v < n → Listed xs u v → Near (near_of n xs) u v
  accepted-near few ok u v hu hv l = listed-near few u v hu hv (accepted-other few ok u v hu l) l
