-- Stores one behind the other, and the lengths of what they write. Assumes nothing.
use mathlib.Core.Path.{◌≡◌, refl, sym, ap, ◌∙◌}
use mathlib.Core.Bool.{Bool, true, false}
use mathlib.Core.List.{List, [], ◌∷◌, ◌++◌}
use Prim.Native.Nat.{ℕ, zero, suc, ◌+◌, ◌^◌, ◌/◌, ◌%◌, ◌≤◌, ◌<◌}
use native.Mathlib.Omega.{arith}
use lib.ListN.{length, get_or, take, drop, length-append, take-append-drop}
use lib.Seq.{sets, sets-eq, length-sets, take_all}
use lib.Dec.{leb, ltb}
use borrow.Author.Tests.{ltb-true, ltb-false, lt-ltb, le-ltb, leb-true, le-leb}
use Rattle.std.proofs.lemmas.List.{length-take-le}
use Rattle.sets.specs.Pick.{pick}
use Rattle.gates.specs.Layout.{kind_in, a_in, b_in}
use Rattle.lines.specs.Lines.{digits, fields_text, line_text, letter, fields_in, record_text, records_text, text_of}
use Rattle.lines.specs.Lent.{onto, Wrote, Fitted}
use Rattle.lines.proofs.Joined.{joined-append, joined-next}
use Rattle.lines.proofs.Digits.{digits-small, digits-big}
use Rattle.sets.proofs.Storing.{sets-append}

pub wrote_then : (l : List ℕ) (i : ℕ) (xs ys : List ℕ) {m n : List ℕ} {j k : ℕ} → Wrote l i xs m j → Wrote m j ys n k → Wrote l i (xs ++ ys) n k
wrote_then l i xs ys {m} {n} {j} {k} a b = (
  omega (arith, a.0, b.0, length-append xs ys),
  b.1 ∙ ap (λ p. sets m p ys) a.0 ∙ ap (λ q. sets q (i + length xs) ys) a.1 ∙ sym (sets-append l i xs ys),
)

pub wrote_nothing : (l : List ℕ) (i : ℕ) → Wrote l i [] l i
wrote_nothing l i = (omega arith, refl)

-- stores from the front
pub sets-onto : (new old : List ℕ) → length new ≤ length old → sets old 0 new ≡ onto new old
sets-onto new old h = let z : 0 + length new ≡ length new = omega arith in sets-eq new old 0 (omega arith) ∙ ap (λ k. new ++ drop k old) z

-- ---- a text: written where it fits, else nothing

module _ (l : List ℕ) (i : ℕ) (text : List ℕ) where
  pub fitted-wrote : {m : List ℕ} {e : ℕ} → i + length text ≤ length l → Fitted l i text m e → Wrote l i text m e
  fitted-wrote h p = (p.0 ∙ rw (le-leb _ _ h), p.1 ∙ rw (le-leb _ _ h))

-- at the front, where it fits
pub fitted-front : (l text : List ℕ) {m : List ℕ} {e : ℕ} → length text ≤ length l → Fitted l 0 text m e → (e ≡ length text) × (m ≡ onto text l)
fitted-front l text h p =
    let w = fitted-wrote l 0 text (omega (arith, h)) p in
    (omega (arith, w.0), w.1 ∙ sets-onto text l h)

-- the bytes of a text that was put to the front are there
module _ (text l m : List ℕ) (r : ℕ) (p : Fitted l 0 text m r) where
  pub fitted-within : r ≤ length m
  fitted-within = go (leb (0 + length text) (length l)) refl p.0 p.1
    where
      go : (t : Bool) → leb (0 + length text) (length l) ≡ t → r ≡ pick t (0 + length text) 0 → m ≡ pick t (sets l 0 text) l → r ≤ length m
      go true b e d = omega (arith, e, leb-true (0 + length text) (length l) b, ap length d, length-sets l 0 text)
      go false b e d = omega (arith, e)

  pub fitted-long : r ≡ length (take r m)
  fitted-long = sym (length-take-le r m fitted-within)

-- ---- numbers

pub width_small : (v : ℕ) → v < 10 → 1 ≡ length (digits v)
width_small v h = sym (ap length (digits-small v h))

pub width-big : (v : ℕ) → 10 ≤ v → length (digits (v / 10)) + 1 ≡ length (digits v)
width-big v h = sym (ap length (digits-big v h) ∙ length-append (digits (v / 10)) ((48 + v % 10) ∷ []))

width-in : (f v : ℕ) → v < f → length (digits v) ≤ v / 10 + 2
width-in zero v h = absurd (omega arith)
width-in (suc f) v h = go (ltb v 10) refl (width-in f (v / 10))
  where
    go : (t : Bool) → ltb v 10 ≡ t → (v / 10 < f → length (digits (v / 10)) ≤ v / 10 / 10 + 2) → length (digits v) ≤ v / 10 + 2
    go true e ih = omega (arith, width_small v (ltb-true v 10 e))
    go false e ih = let l : 10 ≤ v = ltb-false v 10 e in omega (arith, width-big v l, ih (omega arith))

-- so that a number's digits and a tab can be counted
pub width-le : (v : ℕ) → length (digits v) ≤ v / 10 + 2
width-le v = width-in (suc v) v (omega arith)

-- a number has a digit
pub width-least : (v : ℕ) → 1 ≤ length (digits v)
width-least v = go (ltb v 10) refl
  where
    go : (t : Bool) → ltb v 10 ≡ t → 1 ≤ length (digits v)
    go true e = omega (arith, width_small v (ltb-true v 10 e))
    go false e = omega (arith, width-big v (ltb-false v 10 e))

-- a number below 10, 100, 1,000 .. has at most 1, 2, 3 .. digits
pub width-most : (k v : ℕ) → v < 10 ^ suc k → length (digits v) ≤ suc k
width-most zero v h = omega (arith, width_small v h)
width-most (suc k) v h = go (ltb v 10) refl (width-most k (v / 10))
  where
    go : (t : Bool) → ltb v 10 ≡ t → (v / 10 < 10 ^ suc k → length (digits (v / 10)) ≤ suc k) → length (digits v) ≤ suc (suc k)
    go true e ih = omega (arith, width_small v (ltb-true v 10 e))
    go false e ih = omega (arith, width-big v (ltb-false v 10 e), ih (omega arith))

-- ---- the first i of a list, and the next one

fields-append : (vs ws : List ℕ) → fields_text (vs ++ ws) ≡ fields_text vs ++ fields_text ws
unfolding fields_text
fields-append = joined-append (λ v. 9 ∷ digits v) fields_text refl (λ v vs. refl)

pub records-append : (xs ys : List ℕ) → records_text (xs ++ ys) ≡ records_text xs ++ records_text ys
unfolding records_text
records-append = joined-append record_text records_text refl (λ x xs. refl)

module _ (xs : List ℕ) (i : ℕ) where
  pub fields-next : i < length xs → fields_text (take (i + 1) xs) ≡ fields_text (take i xs) ++ (9 ∷ digits (get_or xs i 0))
  unfolding fields_text
  fields-next = joined-next (λ v. 9 ∷ digits v) fields_text refl (λ v vs. refl) xs i

  pub fields-part : length (fields_text (take i xs)) ≤ length (fields_text xs)
  fields-part =
      omega (arith, length-append (fields_text (take i xs)) (fields_text (drop i xs)), ap length (fields-append (take i xs) (drop i xs)), ap (λ l. length (fields_text l)) (take-append-drop i xs))

  pub fields-all : length xs ≤ i → fields_text (take i xs) ≡ fields_text xs
  fields-all h = ap fields_text (take_all i xs h)

pub line-length : (letter : ℕ) (vs : List ℕ) → length (line_text letter vs) ≡ 2 + length (fields_text vs)
unfolding line_text
line-length letter vs = simp length-append (omega arith)

-- ---- a record's line

-- it has at most two numbers
pub fields_most : (kind : ℕ) → fields_in kind ≤ 2
unfolding fields_in
fields_most kind = go (ltb kind 3)
  where
    go : (t : Bool) → pick t 2 1 ≤ 2
    go true = omega arith
    go false = omega arith

-- its numbers are the first of two
pub ruleset record_fields = (fields_most, length-take-le, line-length)

-- a kind below 3 has two, and any other one
pub record-two : (x : ℕ) → kind_in x < 3 → record_text x ≡ line_text (letter (kind_in x)) (a_in x ∷ b_in x ∷ [])
unfolding record_text fields_in
record-two x h = rw (lt-ltb (kind_in x) 3 h)

pub record-one : (x : ℕ) → 3 ≤ kind_in x → record_text x ≡ line_text (letter (kind_in x)) (a_in x ∷ [])
unfolding record_text fields_in
record-one x h = rw (le-ltb (kind_in x) 3 h)

pub text-length : (n : ℕ) (es gs : List ℕ) → length (text_of n es gs) ≡ length (line_text 113 (n ∷ [])) + length (records_text es) + length (records_text gs)
unfolding text_of
text-length n es gs = simp length-append (omega arith)
