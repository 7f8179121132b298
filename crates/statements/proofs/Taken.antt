-- Words one by one: what stands there is taken, and what was taken stood there. Assumes nothing.
use Rattle.std.specs.Prelude.{Option, None, Some}
use mathlib.Core.Path.{◌≡◌, refl, sym, ap, ◌∙◌}
use mathlib.Core.Bool.{Bool, true, false}
use mathlib.Core.List.{List, [], ◌∷◌, ◌++◌, append-nil}
use Prim.Native.Nat.{ℕ, zero, suc, ◌+◌, ◌/◌, ◌%◌, ◌≤◌, ◌<◌}
use native.Mathlib.Omega.{arith}
use lib.Dec.{eqb, ltb}
use borrow.Author.Tests.{eqb-true, eq-eqb, ne_eqb, ltb-true, ltb-false}
use Rattle.std.proofs.lemmas.Option.{same_Some}
use Rattle.sets.specs.Pick.{pick, both}
use Rattle.lines.specs.Lines.{digits}
use Rattle.lines.proofs.Digits.{digits-small, digits-big}
use Rattle.spots.specs.Numbers.{Got, read_number, digit_of}
use Rattle.spots.proofs.Numbers.{never-some, steps, found-parts, digit-of, number-back, number-forth, number-le}
use Rattle.words.specs.Bytes.{same}
use Rattle.words.specs.Words.{Word, bodies}
use Rattle.words.specs.Taking.{taken, behind, numbered, is_name, named, front_word}

-- ---- the same words

pub same_self : (b : List ℕ) → same b b ≡ true
unfolding same
same_self [] = refl
same_self (x ∷ b) = rw (eq-eqb x x refl) (same_self b)

pub same-is : (a b : List ℕ) → same a b ≡ true → a ≡ b
unfolding same
same-is [] [] e = refl
same-is [] (y ∷ b) e = let z : ◌≡◌ {A = ℕ} 0 1 = cc e in absurd (omega arith)
same-is (x ∷ a) [] e = let z : ◌≡◌ {A = ℕ} 0 1 = cc e in absurd (omega arith)
same-is (x ∷ a) (y ∷ b) e = go (eqb x y) refl e (same-is a b)
  where
    go : (t : Bool) → eqb x y ≡ t → both t (same a b) ≡ true → (same a b ≡ true → a ≡ b) → x ∷ a ≡ y ∷ b
    go true p e ih = let q = eqb-true x y p in let r = ih e in cc
    go false p e ih = let z : ◌≡◌ {A = ℕ} 0 1 = cc e in absurd (omega arith)

-- a number begins with a digit
pub record FirstDigit (b : List ℕ) : Type 0 where
  pub digit : ℕ
  pub rest : List ℕ
  pub low : digit < 10
  pub same : b ≡ (48 + digit) ∷ rest

first-digit : (f v : ℕ) → v < f → FirstDigit (digits v)
first-digit zero v h = absurd (omega arith)
first-digit (suc f) v h = go (ltb v 10) refl (first-digit f (v / 10))
  where
    go : (t : Bool) → ltb v 10 ≡ t → (v / 10 < f → FirstDigit (digits (v / 10))) → FirstDigit (digits v)
    go true e ih = record { digit = v; rest = []; low = ltb-true v 10 e; same = digits-small v (ltb-true v 10 e) }
    go false e ih =
        let l : 10 ≤ v = ltb-false v 10 e in
        let d = ih (omega arith) in
        record { digit = d.digit; rest = d.rest ++ ((48 + v % 10) ∷ []); low = d.low; same = digits-big v l ∙ ap (λ b. b ++ ((48 + v % 10) ∷ [])) d.same }

pub digits-first : (v : ℕ) → FirstDigit (digits v)
digits-first v = first-digit (suc v) v (omega arith)

-- and is no word that begins otherwise
pub digits-other : (v x : ℕ) (b : List ℕ) → digit_of x ≡ None → same (digits v) (x ∷ b) ≡ false
unfolding same digit_of
digits-other v x b h =
    let d = digits-first v in
    rw (
      d.same,
      ne_eqb (48 + d.digit) x (λ (e : 48 + d.digit ≡ x).
          let y : digit_of x ≡ Some d.digit = ap digit_of (sym e) ∙ digit-of d.digit d.low in
          never-some (sym h ∙ y)),
    )

-- ---- what stands there is taken

module _ (l : ℕ) (ws : List Word) where
  pub taken-forth : (b : List ℕ) → taken b (Some (record { bytes = b; left = l } ∷ ws)) ≡ Some ws
  unfolding taken
  taken-forth b = rw (same_self b)

  pub number_word : (most v : ℕ) → v ≤ most → numbered most (Some (record { bytes = digits v; left = l } ∷ ws)) ≡ Some (record { value = v; rest = ws })
  unfolding numbered digit_of
  number_word most v h =
      let e : read_number most (Some (digits v)) ≡ Some (record { value = v; rest = [] }) = ap (λ b. read_number most (Some b)) (sym (append-nil (digits v))) ∙ number-forth most v [] h refl in
      rw e

  pub named-forth : (b : List ℕ) → is_name b ≡ true → named (Some (record { bytes = b; left = l } ∷ ws)) ≡ Some ws
  unfolding named
  named-forth b h = rw h

-- ---- what was taken stood there

-- words that are spelt so are left, and t behind them
pub record Leads (o : Option (List Word)) (bs : List (List ℕ)) (t : List Word) : Type 0 where
  pub words : List Word
  pub same : o ≡ Some (words ++ t)
  pub spelt : bodies words ≡ bs

pub leads-none : {bs : List (List ℕ)} {t : List Word} {B : Type 0} → Leads None bs t → B
leads-none h = never-some h.same

-- a word in front of them
leads-more : (w : Word) (ws : List Word) (b : List ℕ) {bs : List (List ℕ)} {t : List Word} → w.bytes ≡ b → Leads (Some ws) bs t → Leads (Some (w ∷ ws)) (b ∷ bs) t
leads-more w ws b {bs} {t} e h =
    let r : ws ≡ h.words ++ t = cc h.same in
    record { words = w ∷ h.words; same = ap (λ l. Some (w ∷ l)) r; spelt = ap (λ y. y ∷ bodies h.words) e ∙ ap (λ l. b ∷ l) h.spelt }

pub taken_back : (b : List ℕ) (o : Option (List Word)) {bs : List (List ℕ)} {t : List Word} → Leads (taken b o) bs t → Leads o (b ∷ bs) t
unfolding taken
taken_back b None h = leads-none h
taken_back b (Some []) h = leads-none h
taken_back b (Some (w ∷ ws)) {bs} {t} h = go (same w.bytes b) refl h
  where
    go : (u : Bool) → same w.bytes b ≡ u → Leads (pick u (Some ws) None) bs t → Leads (Some (w ∷ ws)) (b ∷ bs) t
    go true e h = leads-more w ws b (same-is w.bytes b e) h
    go false e h = leads-none h

-- what is behind it where it is known what is left
pub leads-at : {o p : Option (List Word)} {bs : List (List ℕ)} {t : List Word} → o ≡ p → Leads p bs t → Leads o bs t
leads-at e h = record { words = h.words; same = e ∙ h.same; spelt = h.spelt }

behind-parts : (s : List ℕ) (ws t : List Word) → behind s ws ≡ Some t → (s ≡ []) × (ws ≡ t)
behind-parts [] ws t e = (refl, same_Some _ _ e)
behind-parts (x ∷ s) ws t e = never-some e

pub number-back-word : (most : ℕ) (o : Option (List Word)) (g : Got Word) {bs : List (List ℕ)} {t : List Word} → numbered most o ≡ Some g → Leads (Some g.rest) bs t → Leads o (digits g.value ∷ bs) t
unfolding numbered
number-back-word most None g e h = never-some e
number-back-word most (Some []) g e h = never-some e
number-back-word most (Some (w ∷ ws)) g e h =
    let s = steps (read_number most (Some w.bytes)) _ g e in
    let f = found-parts s.first.value (behind s.first.rest ws) g s.behind in
    let b = behind-parts s.first.rest ws g.rest f.1 in
    let q : w.bytes ≡ digits s.first.value ++ s.first.rest = same_Some _ _ (number-back most (Some w.bytes) s.first s.read) in
    leads-more w ws (digits g.value) (q ∙ ap (λ l. digits s.first.value ++ l) b.0 ∙ append-nil _ ∙ ap digits f.0) (leads-at (ap Some b.1) h)

pub number-most : (most : ℕ) (o : Option (List Word)) (g : Got Word) → numbered most o ≡ Some g → g.value ≤ most
unfolding numbered
number-most most None g e = never-some e
number-most most (Some []) g e = never-some e
number-most most (Some (w ∷ ws)) g e =
    let s = steps (read_number most (Some w.bytes)) _ g e in
    let f = found-parts s.first.value (behind s.first.rest ws) g s.behind in
    omega (arith, number-le most (Some w.bytes) s.first s.read, f.0)

pub named_back : (o : Option (List Word)) {bs : List (List ℕ)} {t : List Word} → Leads (named o) bs t → Leads o (front_word o ∷ bs) t × (is_name (front_word o) ≡ true)
unfolding named front_word
named_back None h = leads-none h
named_back (Some []) h = leads-none h
named_back (Some (w ∷ ws)) {bs} {t} h = go (is_name w.bytes) refl h
  where
    go : (u : Bool) → is_name w.bytes ≡ u → Leads (pick u (Some ws) None) bs t → Leads (Some (w ∷ ws)) (w.bytes ∷ bs) t × (is_name w.bytes ≡ true)
    go true e h = (leads-more w ws w.bytes refl h, e)
    go false e h = leads-none h
