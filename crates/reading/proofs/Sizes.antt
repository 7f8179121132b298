-- How many bytes a line and a text have, at least and at most. Assumes nothing.
use mathlib.Core.Path.{◌≡◌, refl, ap, ◌∙◌}
use mathlib.Core.Bool.{Bool, true, false}
use mathlib.Core.List.{List, [], ◌∷◌}
use Prim.Native.Nat.{ℕ, ◌+◌, ◌*◌, ◌≤◌, ◌<◌}
use native.Mathlib.Omega.{arith}
use lib.Dec.{ltb}
use lib.ListN.{length, length-append}
use borrow.Author.Tests.{ltb-true, ltb-false}
use Rattle.gates.specs.Layout.{kind_in, a_in, b_in}
use Rattle.lines.specs.Lines.{digits, fields_text, line_text, letter, record_text, records_text, text_of}
use Rattle.lines.proofs.Layouts.{a_lt, b_lt}
use Rattle.lines.proofs.Writes.{width-least, width-most, line-length, record-two, record-one, text-length}
use Rattle.reading.specs.Limits.{most_first}
use Rattle.reading.specs.Misfit.{FitsLine}
use Rattle.sets.specs.Lists.{All}
use Rattle.reading.specs.declared.sort.Sort.TheVariants.{Couplers}

-- ---- lines of one, two and three numbers

fields-more : (a : ℕ) (vs : List ℕ) → length (fields_text (a ∷ vs)) ≡ 1 + length (digits a) + length (fields_text vs)
unfolding fields_text
fields-more a vs = omega (arith, length-append (9 ∷ digits a) (fields_text vs))

fields-none : length (fields_text []) ≡ 0
unfolding fields_text
fields-none = refl

pub line-one : (l a : ℕ) → length (line_text l (a ∷ [])) ≡ 3 + length (digits a)
line-one l a = omega (arith, line-length l (a ∷ []), fields-more a [], fields-none)

pub line-two : (l a b : ℕ) → length (line_text l (a ∷ b ∷ [])) ≡ 4 + length (digits a) + length (digits b)
line-two l a b = omega (arith, line-length l (a ∷ b ∷ []), fields-more a (b ∷ []), fields-more b [], fields-none)

pub line-three : (l a b c : ℕ) → length (line_text l (a ∷ b ∷ c ∷ [])) ≡ 5 + length (digits a) + length (digits b) + length (digits c)
line-three l a b c = omega (arith, line-length l (a ∷ b ∷ c ∷ []), fields-more a (b ∷ c ∷ []), fields-more b (c ∷ []), fields-more c [], fields-none)

-- ---- the line of a record

module _ (x : ℕ) where
  width_two : kind_in x < 3 → length (record_text x) ≡ 4 + length (digits (a_in x)) + length (digits (b_in x))
  width_two h = ap length (record-two x h) ∙ line-two (letter (kind_in x)) (a_in x) (b_in x)

  width_one : 3 ≤ kind_in x → length (record_text x) ≡ 3 + length (digits (a_in x))
  width_one h = ap length (record-one x h) ∙ line-one (letter (kind_in x)) (a_in x)

  -- as in `e 0 1`
  coupler-least : FitsLine Couplers x → 6 ≤ length (record_text x)
  coupler-least h = omega (arith, width_two (omega (arith, h)), width-least (a_in x), width-least (b_in x))

  -- as in `n 0`, and in `r 255 65535`
  record-sizes : (4 ≤ length (record_text x)) × (length (record_text x) ≤ 12)
  record-sizes = go (ltb (kind_in x) 3) refl
    where
      a : length (digits (a_in x)) ≤ 3
      a = width-most 2 (a_in x) (omega (arith, a_lt x))

      b : length (digits (b_in x)) ≤ 5
      b = width-most 4 (b_in x) (omega (arith, b_lt x))

      go : (t : Bool) → ltb (kind_in x) 3 ≡ t → (4 ≤ length (record_text x)) × (length (record_text x) ≤ 12)
      go true e = let w = width_two (ltb-true (kind_in x) 3 e) in (omega (arith, w, width-least (a_in x)), omega (arith, w, a, b))
      go false e = let w = width_one (ltb-false (kind_in x) 3 e) in (omega (arith, w, width-least (a_in x)), omega (arith, w, a))

-- ---- a text

pub couplers-least : (xs : List ℕ) → All (FitsLine Couplers) xs → 6 * length xs ≤ length (records_text xs)
unfolding records_text All
couplers-least [] h = omega arith
couplers-least (x ∷ xs) h = omega (arith, length-append (record_text x) (records_text xs), coupler-least x h.0, couplers-least xs h.1)

records-least : (xs : List ℕ) → 4 * length xs ≤ length (records_text xs)
unfolding records_text
records-least [] = omega arith
records-least (x ∷ xs) = omega (arith, length-append (record_text x) (records_text xs), (record-sizes x).0, records-least xs)

records-most : (xs : List ℕ) → length (records_text xs) ≤ 12 * length xs
unfolding records_text
records-most [] = omega arith
records-most (x ∷ xs) = omega (arith, length-append (record_text x) (records_text xs), (record-sizes x).1, records-most xs)

-- 4 bytes for the `q` line, 6 for each coupler and 4 for each gate, as in `q 1`, `e 0 1` and `n 0`
pub text-least : (n : ℕ) (es gs : List ℕ) → All (FitsLine Couplers) es → 4 + 6 * length es + 4 * length gs ≤ length (text_of n es gs)
text-least n es gs h = omega (arith, text-length n es gs, line-one 113 n, width-least n, couplers-least es h, records-least gs)

-- 6 bytes for the `q` line and 12 for each other line, as in `q 255` and `r 255 65535`
pub text-most : (n : ℕ) (es gs : List ℕ) → n ≤ most_first → length (text_of n es gs) ≤ 6 + 12 * length es + 12 * length gs
text-most n es gs few =
    let h : n < 1000 = omega arith in
    omega (arith, text-length n es gs, line-one 113 n, width-most 2 n h, records-most es, records-most gs)
