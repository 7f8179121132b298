-- Numbers: what is written is read, and what is read was written so. Assumes nothing.
use mathlib.Core.Path.{◌≡◌, refl, sym, ap, ◌∙◌}
use mathlib.Core.Bool.{Bool, true, false}
use mathlib.Core.List.{List, [], ◌∷◌, ◌++◌, append_assoc}
use Rattle.std.specs.Prelude.{Option, None, Some, option_and_then}
use Rattle.std.specs.Option.{option_or}
use Rattle.std.proofs.lemmas.Option.{same_Some}
use Prim.Native.Nat.{ℕ, zero, suc, ◌+◌, ◌-◌, ◌*◌, ◌/◌, ◌%◌, ◌≤◌, ◌<◌}
use native.Mathlib.Omega.{arith}
use lib.ListN.{get_or, drop}
use lib.Dec.{eqb, leb, ltb}
use borrow.Author.Tests.{ltb-true, ltb-false, leb-true, eqb-true, le-leb, eq-eqb}
use Rattle.sets.specs.Pick.{pick}
use Rattle.lines.specs.Lines.{digits}
use Rattle.lines.proofs.Digits.{digits-small, digits-big, digits_step}
use Rattle.spots.specs.Numbers.{Got, found, left_behind, skipped, digit_of, more_digits, number_from, read_number}

pub never-some : {A : Type 0} {a : A} {B : Type 0} → None ≡ Some a → B
never-some e = let z : ◌≡◌ {A = ℕ} 0 1 = cc e in absurd (omega arith)

-- ---- what was read in steps was read in each

-- a first part that was read, and what was read behind it
pub record Steps {A B : Type 0} (o : Option A) (f : A → Option B) (b : B) : Type 0 where
  pub first : A
  pub read : o ≡ Some first
  pub behind : f first ≡ Some b

pub steps : {A B : Type 0} (o : Option A) (f : A → Option B) (b : B) → option_and_then f o ≡ Some b → Steps o f b
steps None f b e = never-some e
steps (Some a) f b e = record { first = a; read = refl; behind = e }

-- the first where it was read, else the second: what holds of both holds of it
pub either-read : {A : Type 0} (P : A → Type 0) (o p : Option A) → ((a : A) → o ≡ Some a → P a) → ((a : A) → p ≡ Some a → P a) → (a : A) → option_or o p ≡ Some a → P a
either-read P None p h k a e = k a e
either-read P (Some x) p h k a e = h a e

-- a value and what is left behind it, each by itself
pub got-parts : {A : Type 0} {v : ℕ} {t : List A} {g : Got A} → Some (record { value = v; rest = t }) ≡ Some g → (v ≡ g.value) × (t ≡ g.rest)
got-parts {A} {v} {t} {g} e = let q : record { value = v; rest = t } ≡ g = same_Some _ _ e in (ap (λ (x : Got A). x.value) q, ap (λ (x : Got A). x.rest) q)

pub found-parts : {A : Type 0} (v : ℕ) (o : Option (List A)) (g : Got A) → found v o ≡ Some g → (v ≡ g.value) × (o ≡ Some g.rest)
found-parts v None g e = never-some e
found-parts v (Some t) g e = let q = got-parts e in (q.0, ap Some q.1)

-- what is left behind what was read
pub left-parts : {A : Type 0} (o : Option (Got A)) (t : List A) → left_behind o ≡ Some t → Steps o (λ g. Some g.rest) t
left-parts None t e = never-some e
left-parts (Some g) t e = record { first = g; read = refl; behind = e }

-- ---- a digit

pub digit-of : (n : ℕ) → n < 10 → digit_of (48 + n) ≡ Some n
unfolding digit_of
digit-of n h = let q : 48 + n - 48 ≡ n = omega arith in rw (le-leb 48 (48 + n) (omega arith), le-leb (48 + n) 57 (omega arith)) (ap Some q)

pub digit-byte : (x d : ℕ) → digit_of x ≡ Some d → (48 + d ≡ x) × (d < 10)
unfolding digit_of
digit-byte x d h = go (leb 48 x) (leb x 57) refl refl h
  where
    go : (t u : Bool) → leb 48 x ≡ t → leb x 57 ≡ u → pick t (pick u (Some (x - 48)) None) None ≡ Some d → (48 + d ≡ x) × (d < 10)
    go true true e f h = let q : x - 48 ≡ d = same_Some _ _ h in (omega (arith, q, leb-true 48 x e), omega (arith, q, leb-true 48 x e, leb-true x 57 f))
    go true false e f h = never-some h
    go false u e f h = never-some h

-- ---- the digits behind the first

-- what the next byte does to the number v: it ends it, goes on with it, or makes it too great
data Next (most v x : ℕ) (s : List ℕ) : Type 0 where
  ends : digit_of x ≡ None → more_digits most v (x ∷ s) ≡ Some (record { value = v; rest = x ∷ s }) → Next most v x s
  on : (d : ℕ) → digit_of x ≡ Some d → v * 10 + d ≤ most → more_digits most v (x ∷ s) ≡ more_digits most (v * 10 + d) s → Next most v x s
  over : more_digits most v (x ∷ s) ≡ None → Next most v x s

next : (most v x : ℕ) (s : List ℕ) → Next most v x s
unfolding more_digits
next most v x s = go (digit_of x) refl
  where
    at : (d : ℕ) (t : Bool) → digit_of x ≡ Some d → leb (v * 10 + d) most ≡ t → Next most v x s
    at d true e f = on d e (leb-true _ _ f) (rw (more_digits, e, f))
    at d false e f = over (rw (more_digits, e, f))

    go : (o : Option ℕ) → digit_of x ≡ o → Next most v x s
    go None e = ends e (rw (more_digits, e))
    go (Some d) e = at d (leb (v * 10 + d) most) e refl

-- a number that was read is at most `most`
pub more-le : (most v : ℕ) (s : List ℕ) (g : Got ℕ) → v ≤ most → more_digits most v s ≡ Some g → g.value ≤ most
unfolding more_digits
more-le most v [] g h e = omega (arith, (got-parts e).0)
more-le most v (x ∷ s) g h e = go (next most v x s) (λ n. more-le most n s g)
  where
    go : Next most v x s → ((n : ℕ) → n ≤ most → more_digits most n s ≡ Some g → g.value ≤ most) → g.value ≤ most
    go (ends d p) ih = omega (arith, (got-parts (sym p ∙ e)).0)
    go (on d b l p) ih = ih (v * 10 + d) l (sym p ∙ e)
    go (over p) ih = never-some (sym p ∙ e)

pub number-le : (most : ℕ) (o : Option (List ℕ)) (g : Got ℕ) → read_number most o ≡ Some g → g.value ≤ most
unfolding read_number number_from
number-le most None g e = never-some e
number-le most (Some s) g e = go (digit_of (get_or s 0 0)) e
  where
    go : (d : Option ℕ) → number_from most d s ≡ Some g → g.value ≤ most
    go None e = never-some e
    go (Some zero) e = omega (arith, (got-parts e).0)
    go (Some (suc d)) e = more-le most 0 s g (omega arith) e

-- ---- what was read is what stood there
pub skip-back : (b : ℕ) (o : Option (List ℕ)) (t : List ℕ) → skipped b o ≡ Some t → o ≡ Some (b ∷ t)
unfolding skipped
skip-back b None t e = never-some e
skip-back b (Some []) t e = never-some e
skip-back b (Some (x ∷ s)) t e = go (eqb x b) refl e
  where
    go : (u : Bool) → eqb x b ≡ u → pick u (Some s) None ≡ Some t → Some (x ∷ s) ≡ Some (b ∷ t)
    go true q e = cc (eqb-true x b q)
    go false q e = never-some e

more-back : (most v : ℕ) (s : List ℕ) (g : Got ℕ) → 0 < v → more_digits most v s ≡ Some g → digits v ++ s ≡ digits g.value ++ g.rest
unfolding more_digits
more-back most v [] g h e = let q = got-parts e in cc (q.0, q.1)
more-back most v (x ∷ s) g h e = go (next most v x s) (λ n. more-back most n s g)
  where
    go : Next most v x s → ((n : ℕ) → 0 < n → more_digits most n s ≡ Some g → digits n ++ s ≡ digits g.value ++ g.rest) → digits v ++ (x ∷ s) ≡ digits g.value ++ g.rest
    go (ends d p) ih = let q = got-parts (sym p ∙ e) in cc (q.0, q.1)
    go (on d b l p) ih =
        let k = digit-byte x d b in
        sym (ap (λ l. l ++ s) (digits_step v d h k.1) ∙ append_assoc (digits v) _ s ∙ ap (λ y. digits v ++ (y ∷ s)) k.0) ∙ ih (v * 10 + d) (omega arith) (sym p ∙ e)
    go (over p) ih = never-some (sym p ∙ e)

more-first : (most x d : ℕ) (l : List ℕ) (g : Got ℕ) → digit_of x ≡ Some d → 0 < d → more_digits most 0 (x ∷ l) ≡ Some g → x ∷ l ≡ digits g.value ++ g.rest
more-first most x d l g h z e = go (next most 0 x l)
  where
    go : Next most 0 x l → x ∷ l ≡ digits g.value ++ g.rest
    go (ends n p) = never-some (sym n ∙ h)
    go (on f b k p) =
        let i = digit-byte x f b in
        let j = digit-byte x d h in
        let y : f ≡ d = omega (arith, i.0, j.0) in
        let u : 0 * 10 + f ≡ f = omega arith in
        let w : digits (0 * 10 + f) ≡ x ∷ [] = ap digits u ∙ digits-small f i.1 ∙ ap (λ y. y ∷ []) i.0 in
        sym (ap (λ m. m ++ l) w) ∙ more-back most (0 * 10 + f) l g (omega (arith, z)) (sym p ∙ e)
    go (over p) = never-some (sym p ∙ e)

pub number-back : (most : ℕ) (o : Option (List ℕ)) (g : Got ℕ) → read_number most o ≡ Some g → o ≡ Some (digits g.value ++ g.rest)
unfolding read_number number_from digit_of
number-back most None g e = never-some e
number-back most (Some s) g e = ap Some (go (digit_of (get_or s 0 0)) refl e)
  where
    zero_case : (l : List ℕ) → digit_of (get_or l 0 0) ≡ Some 0 → drop 1 l ≡ g.rest → l ≡ digits 0 ++ g.rest
    zero_case [] d e = never-some d
    zero_case (x ∷ l) d e = rw (digits-small 0 (omega arith)) (let b : 48 ≡ x = (digit-byte x 0 d).0 in cc)

    more_case : (l : List ℕ) (d : ℕ) → digit_of (get_or l 0 0) ≡ Some (suc d) → more_digits most 0 l ≡ Some g → l ≡ digits g.value ++ g.rest
    more_case [] d q e = never-some q
    more_case (x ∷ l) d q e = more-first most x (suc d) l g q (omega arith) e

    go : (d : Option ℕ) → digit_of (get_or s 0 0) ≡ d → number_from most d s ≡ Some g → s ≡ digits g.value ++ g.rest
    go None q e = never-some e
    go (Some zero) q e = let r = got-parts e in zero_case s q r.1 ∙ ap (λ n. digits n ++ g.rest) r.0
    go (Some (suc d)) q e = more_case s d q e

-- ---- what stands there is read
pub skip-forth : (b : ℕ) (t : List ℕ) → skipped b (Some (b ∷ t)) ≡ Some t
unfolding skipped
skip-forth b t = rw (eq-eqb b b refl)

more-digit : (most v d : ℕ) (t : List ℕ) → d < 10 → v * 10 + d ≤ most → more_digits most v ((48 + d) ∷ t) ≡ more_digits most (v * 10 + d) t
unfolding more_digits
more-digit most v d t h k = rw (more_digits, digit-of d h, le-leb _ _ k)

more-stop : (most v : ℕ) (t : List ℕ) → digit_of (get_or t 0 0) ≡ None → more_digits most v t ≡ Some (record { value = v; rest = t })
unfolding more_digits
more-stop most v [] h = refl
more-stop most v (x ∷ t) h = rw (more_digits, h)

number-first : (most d : ℕ) (t : List ℕ) → 0 < d → d < 10 → d ≤ most → read_number most (Some ((48 + d) ∷ t)) ≡ more_digits most d t
unfolding read_number number_from
number-first most zero t z h k = absurd (omega arith)
number-first most (suc d) t z h k =
    let q : 0 * 10 + suc d ≡ suc d = omega arith in
    rw (digit-of (suc d) h) (more-digit most 0 (suc d) t h (omega arith) ∙ ap (λ n. more_digits most n t) q)

number-cont : (f most w : ℕ) (t : List ℕ) → w < f → 0 < w → w ≤ most → read_number most (Some (digits w ++ t)) ≡ more_digits most w t
number-cont zero most w t h z k = absurd (omega arith)
number-cont (suc f) most w t h z k = go (ltb w 10) refl (number-cont f most (w / 10) ((48 + w % 10) ∷ t))
  where
    go : (a : Bool) → ltb w 10 ≡ a
        → (w / 10 < f → 0 < w / 10 → w / 10 ≤ most → read_number most (Some (digits (w / 10) ++ ((48 + w % 10) ∷ t))) ≡ more_digits most (w / 10) ((48 + w % 10) ∷ t))
        → read_number most (Some (digits w ++ t)) ≡ more_digits most w t
    go true e ih = let l = ltb-true w 10 e in rw (digits-small w l) (number-first most w t z l k)
    go false e ih =
        let l : 10 ≤ w = ltb-false w 10 e in
        let q : w / 10 * 10 + w % 10 ≡ w = omega arith in
        rw (digits-big w l, append_assoc) (ih (omega arith) (omega arith) (omega arith) ∙ more-digit most (w / 10) (w % 10) t (omega arith) (omega arith) ∙ ap (λ n. more_digits most n t) q)

pub number-forth : (most w : ℕ) (t : List ℕ) → w ≤ most → digit_of (get_or t 0 0) ≡ None → read_number most (Some (digits w ++ t)) ≡ Some (record { value = w; rest = t })
unfolding read_number number_from
number-forth most zero t k e = rw (digits-small 0 (omega arith), digit-of 0 (omega arith))
number-forth most (suc w) t k e = number-cont (suc (suc w)) most (suc w) t (omega arith) (omega arith) k ∙ more-stop most (suc w) t e
