-- Gathering works: a set that is not empty, inside a connected set, comes to one chosen wire by moves along couplers of the set, two for each
-- other member at most. Assumes nothing.
use mathlib.Core.Path.{◌≡◌, refl, sym, ap, ap₂, ◌∙◌, subst}
use mathlib.Core.Logic.{◌≢◌, ◌⊎◌, inl, inr}
use mathlib.Core.Bool.{Bool, true, false}
use mathlib.Core.List.{List, [], ◌∷◌, ◌++◌}
use Prim.Native.Nat.{ℕ, zero, suc, ◌-◌, ◌*◌, ◌^◌, ◌≤◌, ◌<◌}
use native.Mathlib.Nat.{lt_of_lt_of_le}
use native.Mathlib.Omega.{arith}
use native.Mathlib.Decide.{ℕ_discrete}
use lib.Bits.{bit_and, bit_xor}
use lib.Count.{ones}
use lib.Dec.{eqb}
use lib.ListN.{get_or, length, length-append}
use lib.Pow.{pow_mono}
use borrow.Author.Tests.{eq-eqb, ne_eqb}
use Rattle.sets.specs.Pick.{pick}
use Rattle.sets.specs.Bit.{bit, has, In, Sub}
use Rattle.sets.specs.Size.{lowest_of, only_of}
use Rattle.sets.specs.Columns.{turn}
use Rattle.sets.proofs.Bits.{bit-cases, bit-of-zero, bit-pow-other, xor-cancel}
use Rattle.sets.proofs.Members.{in_and, and_in, in-lt, put_other, put_same, put_keeps, put-cases, single-sub}
use Rattle.sets.proofs.Ones.{ones-pow, ones-put, drop-same}
use Rattle.sets.proofs.Turn.{turn_on}
use Rattle.sets.proofs.Words.{has-true, has-false, out-has, lowest-in, only-is}
use Rattle.chip.specs.Graph.{Near, Symm, Joined}
use Rattle.gates.specs.declared.gate.Gate.{Gate}
use Rattle.gates.specs.declared.gate.Gate.TheVariants.{Cnot, Rotation, X, Bad}
use Rattle.sets.specs.Lists.{All}
use Rattle.sets.proofs.Lists.{all_none, all_append}
use Rattle.chip.specs.Inside.{Coupled}
use Rattle.chip.proofs.Insides.{coupled-up}
use Rattle.gathering.specs.Order.{order_of, Along, root, then}
use Rattle.gathering.specs.Gather.{turns, Spares, moves_at, left_at, gather_from, gather_of, Gathers, most_moves}
use Rattle.gathering.proofs.OrderParts.{sub-lt}
use Rattle.gathering.proofs.OrderGrows.{order-along, order-first, order-few, along-in, along_once}

-- ---- lists of gates

pub turns-append : (L M : List Gate) (x : ℕ) → turns (L ++ M) x ≡ turns M (turns L x)
turns-append [] M x = refl
turns-append (Cnot c t ∷ gs) M x = turns-append gs M (turn c t x)
turns-append (Rotation q a ∷ gs) M x = turns-append gs M x
turns-append (X q ∷ gs) M x = turns-append gs M x
turns-append (Bad ∷ gs) M x = turns-append gs M x

-- ---- one member is taken out

-- the moves L make y of x: u is gone, what is left is in E and not empty
record Took (near : List ℕ) (E S u x : ℕ) (L : List Gate) (y : ℕ) : Type 0 where
  coupled : All (Coupled near S) L
  short : length L ≤ 2
  to : turns L x ≡ y
  part : Sub y E
  some : y ≢ 0
  spares : (v : ℕ) → In v E → In v x → All (Spares v) L × In v y

module _ (near : List ℕ) (E S u : ℕ) (sy : Symm near) (low : S < 2 ^ 20) (z : bit E u ≡ 0) (e : S ≡ bit_xor E (2 ^ u)) where
  u_s : In u S
  u_s = ap (λ (m : ℕ). bit m u) e ∙ put_same E u z

  up : Sub E S
  up i h = ap (λ (m : ℕ). bit m i) e ∙ put_keeps E u z i h

  small : (i : ℕ) → In i S → i < 32
  small i h = omega (arith, in-lt 20 S i low h)

  apart : (i : ℕ) → In i E → u ≢ i
  apart i h d = let k : bit E u ≡ bit E i = ap (bit E) d in omega arith

  wide : (m : ℕ) → Sub m S → m < 2 ^ 32
  wide m f = lt_of_lt_of_le (sub-lt m S 20 f low) (pow_mono {i = 20} {j = 32} (omega arith))

  -- u is taken out where a neighbour p is in the set too
  clear : (x p : ℕ) → Sub x S → In u x → In p E → Near near u p → In p x → Took near E S u x (Cnot u p ∷ []) (bit_xor x (2 ^ u))
  unfolding All
  clear x p f hu hp n px =
      record {
        coupled = ((u_s, up p hp, apart p hp, n), tt);
        short = omega arith;
        to = turn_on x u p (small u u_s) px;
        part = λ i h. within i h (put-cases E u i (subst (In i) e (f i (was i h))));
        some = λ (o : bit_xor x (2 ^ u) ≡ 0). omega (arith, pin, ap (λ (m : ℕ). bit m p) o, bit-of-zero p);
        spares = λ v hv hx. ((apart v hv, tt), put_other x u v (λ d. apart v hv (sym d)) ∙ hx);
      }
    where
      pin : In p (bit_xor x (2 ^ u))
      pin = put_other x u p (λ d. apart p hp (sym d)) ∙ px

      other : (i : ℕ) → In i (bit_xor x (2 ^ u)) → i ≢ u
      other i h d = omega (arith, h, ap (bit (bit_xor x (2 ^ u))) d, drop-same u x hu)

      was : (i : ℕ) → In i (bit_xor x (2 ^ u)) → In i x
      was i h = sym (put_other x u i (other i h)) ∙ h

      within : (i : ℕ) → In i (bit_xor x (2 ^ u)) → (i ≡ u) ⊎ In i E → In i E
      within i h (inl d) = absurd (other i h d)
      within i h (inr k) = k

  -- where it is not, it is put in first
  both : (x p : ℕ) → Sub x S → In u x → In p E → Near near u p → bit x p ≡ 0
      → Took near E S u x (Cnot p u ∷ Cnot u p ∷ []) (bit_xor (bit_xor x (2 ^ p)) (2 ^ u))
  unfolding All
  both x p f hu hp n o =
      let y : ℕ = bit_xor x (2 ^ p) in
      let sub : Sub y S = λ i h. in-y i (put-cases x p i h) in
      let t = clear y p sub (put_other x p u (apart p hp) ∙ hu) hp n (put_same x p o) in
      record {
        coupled = ((up p hp, u_s, (λ d. apart p hp (sym d)), sy u p n), t.coupled);
        short = omega arith;
        to = ap (λ (m : ℕ). turn u p m) (turn_on x p u (small p (up p hp)) hu) ∙ t.to;
        part = t.part;
        some = t.some;
        spares = λ v hv hx.
            let pv : p ≢ v = λ (d : p ≡ v). omega (arith, hx, o, ap (bit x) d) in
            let s = t.spares v hv (put_other x p v (λ d. pv (sym d)) ∙ hx) in
            ((pv, s.0), s.1);
      }
    where
      in-y : (i : ℕ) → (i ≡ p) ⊎ In i x → In i S
      in-y i (inl d) = subst (λ (m : ℕ). In m S) (sym d) (up p hp)
      in-y i (inr k) = f i k

  -- u is not in the set: nothing to do
  skip : (x : ℕ) → Sub x S → x ≢ 0 → bit x u ≡ 0 → Took near E S u x [] x
  unfolding All
  skip x f ne o =
      record {
        coupled = tt;
        short = omega arith;
        to = refl;
        part = λ i h. within i h (put-cases E u i (subst (In i) e (f i h)));
        some = ne;
        spares = λ v hv hx. (tt, hx);
      }
    where
      within : (i : ℕ) → In i x → (i ≡ u) ⊎ In i E → In i E
      within i h (inl d) = absurd (omega (arith, h, o, ap (bit x) d))
      within i h (inr k) = k

  -- the moves of the definition; w is a neighbour of u in E
  took : (w x : ℕ) → In w E → Near near w u → Sub x S → x ≢ 0 → Took near E S u x (moves_at (bit_and (get_or near u 0) E) u x) (left_at (bit_and (get_or near u 0) E) u x)
  unfolding moves_at left_at
  took w x hw n f ne = go (has x u) refl (ℕ_discrete b 0)
    where
      a : ℕ
      a = bit_and (get_or near u 0) E

      b : ℕ
      b = bit_and a x

      a≢ : a ≢ 0
      a≢ o = omega (arith, and_in (get_or near u 0) E w (sy w u n) hw, ap (λ (m : ℕ). bit m w) o, bit-of-zero w)

      in-a : In (lowest_of a) a
      in-a = lowest-in a (wide a (λ i h. up i (in_and (get_or near u 0) E i h).1)) a≢

      go : (t : Bool) → has x u ≡ t → Dec (b ≡ 0)
          → Took near E S u x
          (pick t (pick (eqb b 0) (pick (eqb a 0) [] (Cnot (lowest_of a) u ∷ Cnot u (lowest_of a) ∷ [])) (Cnot u (lowest_of b) ∷ [])) [])
          (pick t (pick (eqb b 0) (pick (eqb a 0) x (bit_xor (bit_xor x (only_of (lowest_of a))) (only_of u))) (bit_xor x (only_of u))) x)
      go false t d = skip x f ne (has-false x u t)
      go true t (yes o) =
          let p : ℕ = lowest_of a in
          let h = in_and (get_or near u 0) E p in-a in
          rw (eq-eqb b 0 o, ne_eqb a 0 a≢, only-is p (small p (up p h.1)), only-is u (small u u_s))
          (both x p f (has-true x u t) h.1 h.0 (out p in-a (bit-cases x p)))
        where
          out : (p : ℕ) → In p a → (bit x p ≡ 0) ⊎ (bit x p ≡ 1) → bit x p ≡ 0
          out p h (inl k) = k
          out p h (inr k) = absurd (omega (arith, and_in a x p h k, ap (λ (m : ℕ). bit m p) o, bit-of-zero p))
      go true t (no o) =
          let p : ℕ = lowest_of b in
          let hb : In p b = lowest-in b (wide b (λ i h. f i (in_and a x i h).1)) o in
          let h2 = in_and a x p hb in
          let h = in_and (get_or near u 0) E p h2.0 in
          rw (ne_eqb b 0 o, only-is u (small u u_s)) (clear x p f (has-true x u t) h.1 h.0 h2.1)

-- ---- all of them

pub gather-step : (near os : List ℕ) (k S x : ℕ) → gather_from near os (suc k) S x
    ≡ moves_at (bit_and (get_or near (get_or os (suc k) 0) 0) (bit_xor S (only_of (get_or os (suc k) 0)))) (get_or os (suc k) 0) x
    ++ gather_from near os k (bit_xor S (only_of (get_or os (suc k) 0))) (left_at (bit_and (get_or near (get_or os (suc k) 0) 0) (bit_xor S (only_of (get_or os (suc k) 0)))) (get_or os (suc k) 0) x)
unfolding gather_from
gather-step near os k S x = refl

pub gather_none : (near os : List ℕ) (S x : ℕ) → gather_from near os 0 S x ≡ []
unfolding gather_from
gather_none near os S x = refl

pub gathers-along : {near os : List ℕ} {k S : ℕ} → Symm near → S < 2 ^ 20 → Along near os k S → (x : ℕ) → Sub x S → x ≢ 0
    → Gathers near (get_or os 0 0) S x (gather_from near os k S x)
gathers-along {near} {os} {k} {S} sy low (root e) x f ne =
    rw gather_none
    (record {
      coupled = all_none (Coupled near S);
      short = omega (arith, ap ones e, ones-pow (get_or os 0 0));
      done = single-sub (get_or os 0 0) x (λ i h. subst (In i) e (f i h)) ne;
      spares = λ h. all_none (Spares (get_or os 0 0));
    })
gathers-along {near} {os} {S = S} sy low (then {k = k} {E = E} w a z hw n e) x f ne =
    go (gathers-along sy (sub-lt E S 20 (up near E S (get_or os (suc k) 0) sy low z e) low) a)
  where
    v : ℕ
    v = get_or os 0 0

    u : ℕ
    u = get_or os (suc k) 0

    b : ℕ
    b = bit_and (get_or near u 0) E

    L : List Gate
    L = moves_at b u x

    y : ℕ
    y = left_at b u x

    M : List Gate
    M = gather_from near os k E y

    back : bit_xor S (only_of u) ≡ E
    back = ap₂ bit_xor e (only-is u (small near E S u sy low z e u (u_s near E S u sy low z e))) ∙ xor-cancel E (2 ^ u)

    list : gather_from near os (suc k) S x ≡ L ++ M
    list = gather-step near os k S x ∙ ap (λ (m : ℕ). moves_at (bit_and (get_or near u 0) m) u x ++ gather_from near os k m (left_at (bit_and (get_or near u 0) m) u x)) back

    t : Took near E S u x L y
    t = took near E S u sy low z e w x hw n f ne

    go : ((y : ℕ) → Sub y E → y ≢ 0 → Gathers near v E y (gather_from near os k E y)) → Gathers near v S x (gather_from near os (suc k) S x)
    go ih =
        let r : Gathers near v E y M = ih y t.part t.some in
        subst (Gathers near v S x) (sym list)
        (record {
          coupled = all_append (Coupled near S) L M t.coupled (coupled-up near E S (up near E S u sy low z e) M r.coupled);
          short = omega (arith, r.short, t.short, length-append L M, ap ones e, ones-put u E z);
          done = turns-append L M x ∙ ap (turns M) t.to ∙ r.done;
          spares = λ h. let s = t.spares v (along-in a 0 (omega arith)) h in all_append (Spares v) L M s.0 (r.spares s.1);
        })

-- "a non-empty set x inside Q becomes {v} with at most 2(|Q|-1) moves, each along a coupler inside Q"
pub gathers : (near : List ℕ) (Q v x : ℕ) → Symm near → Q < 2 ^ 20 → Joined near Q → In v Q → Sub x Q → x ≢ 0 → Gathers near v Q x (gather_of near Q v x)
unfolding gather_of
gathers near Q v x sy low j h f ne =
    subst (λ (m : ℕ). Gathers near m Q x (gather_from near (order_of near Q v) (length (order_of near Q v) - 1) Q x)) (order-first near Q v)
    (gathers-along sy low (order-along near Q v low j h) x f ne)

-- ---- a set that is {v} already needs no moves

pub moves_out : (a u x : ℕ) → has x u ≡ false → moves_at a u x ≡ []
unfolding moves_at
moves_out a u x e = rw e

left_out : (a u x : ℕ) → has x u ≡ false → left_at a u x ≡ x
unfolding left_at
left_out a u x e = rw e

stands : (near os : List ℕ) (v k S : ℕ) → ((j : ℕ) → 0 < j → j ≤ k → get_or os j 0 ≢ v) → gather_from near os k S (2 ^ v) ≡ []
stands near os v zero S h = gather_none near os S (2 ^ v)
stands near os v (suc k) S h =
    let u : ℕ = get_or os (suc k) 0 in
    let E : ℕ = bit_xor S (only_of u) in
    let a : ℕ = bit_and (get_or near u 0) E in
    let out : has (2 ^ v) u ≡ false = out-has (2 ^ v) u (bit-pow-other v u (λ d. h (suc k) (omega arith) (omega arith) (sym d))) in
    gather-step near os k S (2 ^ v) ∙ ap₂ ◌++◌ (moves_out a u (2 ^ v) out) (ap (gather_from near os k E) (left_out a u (2 ^ v) out) ∙ stands near os v k E (λ j p l. h j p (omega arith)))

pub gather-stands : (near : List ℕ) (Q v : ℕ) → Q < 2 ^ 20 → Joined near Q → In v Q → gather_of near Q v (2 ^ v) ≡ []
unfolding gather_of
gather-stands near Q v low j h =
    stands near (order_of near Q v) v (length (order_of near Q v) - 1) Q
    (λ i p l e. along_once (order-along near Q v low j h) 0 i p l (order-first near Q v ∙ sym e))

-- ---- how many moves there are, whatever the sets

pub moves-few : (a u x : ℕ) → length (moves_at a u x) ≤ 2
unfolding moves_at
moves-few a u x = go (has x u) (eqb (bit_and a x) 0) (eqb a 0)
  where
    go : (s t r : Bool) → length (pick s (pick t (pick r [] (Cnot (lowest_of a) u ∷ Cnot u (lowest_of a) ∷ [])) (Cnot u (lowest_of (bit_and a x)) ∷ [])) []) ≤ 2
    go true true true = omega arith
    go true true false = omega arith
    go true false r = omega arith
    go false t r = omega arith

pub gather-from-few : (near os : List ℕ) (k S x : ℕ) → length (gather_from near os k S x) ≤ 2 * k
gather-from-few near os zero S x = omega (arith, ap length (gather_none near os S x))
gather-from-few near os (suc k) S x =
    let u : ℕ = get_or os (suc k) 0 in
    let E : ℕ = bit_xor S (only_of u) in
    let a : ℕ = bit_and (get_or near u 0) E in
    omega (arith, ap length (gather-step near os k S x), length-append (moves_at a u x) (gather_from near os k E (left_at a u x)), moves-few a u x, gather-from-few near os k E (left_at a u x))

pub gather-few : (near : List ℕ) (Q v x : ℕ) → length (gather_of near Q v x) ≤ most_moves
unfolding gather_of
gather-few near Q v x = omega (arith, gather-from-few near (order_of near Q v) (length (order_of near Q v) - 1) Q x, order-few near Q v)
