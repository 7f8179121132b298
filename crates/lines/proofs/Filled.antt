-- A pattern as its line is written: byte by byte, each for itself or for the next number. Assumes nothing.
use mathlib.Core.Path.{◌≡◌, refl, sym, ap, ◌∙◌}
use mathlib.Core.Bool.{Bool, true, false}
use mathlib.Core.List.{List, [], ◌++◌}
use Prim.Native.Nat.{ℕ, ◌+◌, ◌≤◌, ◌<◌}
use native.Mathlib.Numerals.{add-one}
use native.Mathlib.Omega.{arith}
use lib.Dec.{eqb}
use lib.ListN.{length, get_or, drop, length-append, drop_of_length-le}
use lib.Seq.{sets, drop-cons, get_or-drop, drop-drop}
use Rattle.sets.specs.Pick.{pick}
use Rattle.lines.specs.Lent.{Wrote}
use Rattle.lines.specs.Pattern.{filled_byte, uses, filled}
use Rattle.lines.proofs.Writes.{wrote_then}

-- ---- a byte of a pattern

pub uses-most : (x : ℕ) → uses x ≤ 1
uses-most x = go (eqb x 35)
  where
    go : (t : Bool) → pick t 1 0 ≤ 1
    go true = omega arith
    go false = omega arith

-- ---- the pattern from its byte i on, with the numbers from k on

module _ (p vs : List ℕ) (i k : ℕ) where
  -- v and u are the number and the count that the code found
  pub filled-turn : {v u : ℕ} → i < length p → v ≡ get_or vs k 0 → u ≡ uses (get_or p i 0) → filled (drop i p) (drop k vs) ≡ filled_byte (get_or p i 0) v ++ filled (drop (i + 1) p) (drop (k + u) vs)
  unfolding filled
  filled-turn h e f =
      let z : k + 0 ≡ k = omega arith in
      let d : get_or (drop k vs) 0 0 ≡ get_or vs k 0 = get_or-drop k vs 0 0 ∙ ap (λ j. get_or vs j 0) z in
      rw (e, f, drop-cons p i 0 h, d, drop-drop (uses (get_or p i 0)) k vs, add-one)

  pub filled-past : length p ≤ i → filled (drop i p) (drop k vs) ≡ []
  unfolding filled
  filled-past h = rw (drop_of_length-le p h)

  -- the next piece is no longer than what is left
  pub filled-part : {v : ℕ} → i < length p → v ≡ get_or vs k 0 → length (filled_byte (get_or p i 0) v) ≤ length (filled (drop i p) (drop k vs))
  filled-part {v} h e = omega (arith, ap length (filled-turn h e refl), length-append (filled_byte (get_or p i 0) v) (filled (drop (i + 1) p) (drop (k + uses (get_or p i 0)) vs)))

-- ---- what is left gives, when it is stored, what the whole gives

module _ (old : List ℕ) (at : ℕ) (whole l : List ℕ) (p : ℕ) {rest : List ℕ} (w : Wrote old at whole (sets l p rest) (p + length rest)) where
  pub left-turn : (xs ys : List ℕ) {m : List ℕ} {j : ℕ} → rest ≡ xs ++ ys → Wrote l p xs m j → Wrote old at whole (sets m j ys) (j + length ys)
  left-turn xs ys e a =
      let b = wrote_then l p xs ys a (refl, refl) in
      (b.0 ∙ ap (λ r. p + length r) (sym e) ∙ w.0, b.1 ∙ ap (sets l p) (sym e) ∙ w.1)

  pub left-past : rest ≡ [] → Wrote old at whole l p
  left-past e = (omega (arith, w.0, ap length e), ap (sets l p) (sym e) ∙ w.1)
