-- Loops over bytes: two words compared, a name judged, lines counted. Assumes nothing.
use mathlib.Core.Path.{◌≡◌, refl, sym, ap, ◌∙◌}
use mathlib.Core.Bool.{Bool, true, false}
use mathlib.Core.List.{List, [], ◌∷◌}
use Prim.Native.Nat.{ℕ, ◌+◌, ◌-◌, ◌<◌}
use native.Mathlib.Omega.{arith}
use lib.ListN.{length, get_or, take, drop, length-drop}
use lib.Seq.{take_all}
use lib.Dec.{eqb}
use Rattle.std.specs.Str.{bytes_eq}
use Rattle.std.specs.List.{list_all, count_by}
use Rattle.std.specs.Prelude.{◌&&◌, cond}
use Rattle.std.proofs.lemmas.List.Recursion.{is_count_by}
use Rattle.sets.specs.Pick.{pick, both, either}
use Rattle.words.specs.Bytes.{small, in_name, in_word, goes_on, same, ended_lines}
use Rattle.words.specs.Taking.{all_in_name, is_name}
use Rattle.spots.proofs.Steps.{at-cons}

-- ---- which bytes go on

pub goes_quote : (f x : ℕ) → f ≡ 34 → either (in_word x) (eqb x 34) ≡ goes_on f x
unfolding goes_on in_word in_name small
goes_quote f x e = rw e

-- ---- two words

pub same_bytes : (a b : List ℕ) → bytes_eq a b ≡ same a b
unfolding same
same_bytes [] [] = refl
same_bytes [] (y ∷ b) = refl
same_bytes (x ∷ a) [] = refl
same_bytes (x ∷ a) (y ∷ b) = ap (λ u. both (eqb x y) u) (same_bytes a b)

-- ---- a name

module _ (w : List ℕ) where
  pub name_empty : length w ≡ 0 → is_name w ≡ false
  unfolding is_name
  name_empty e = go w e
    where
      go : (w : List ℕ) → length w ≡ 0 → is_name w ≡ false
      go [] e = refl
      go (x ∷ w) e = absurd (omega arith)

  pub name_first : 0 < length w → small (get_or w 0 0) ≡ true → all_in_name (take (length w - 1) (drop 1 w)) ≡ is_name w
  unfolding is_name
  name_first h e =
      ap all_in_name (take_all (length w - 1) (drop 1 w) (omega (arith, length-drop 1 w)))
      ∙ ap (λ l. all_in_name (drop 1 l)) (at-cons w 0 h) ∙ sym (ap is_name (at-cons w 0 h) ∙ rw e)

  pub name_other : 0 < length w → small (get_or w 0 0) ≡ false → false ≡ is_name w
  unfolding is_name
  name_other h e = sym (ap is_name (at-cons w 0 h) ∙ rw e)

pub names-all : (w : List ℕ) → list_all in_name w ≡ all_in_name w
unfolding all_in_name
names-all [] = refl
names-all (x ∷ w) = go (in_name x) (names-all w)
  where
    go : (t : Bool) → list_all in_name w ≡ all_in_name w → (t && list_all in_name w) ≡ both t (all_in_name w)
    go true e = e
    go false e = refl

-- ---- lines

pub ended-count : (s : List ℕ) → ended_lines s ≡ count_by (λ x. eqb x 10) s
unfolding ended_lines
ended-count = is_count_by ended_lines (λ x. eqb x 10) refl (λ x s. go (eqb x 10) (ended_lines s))
  where
    go : (t : Bool) (n : ℕ) → pick t 1 0 + n ≡ cond t (1 + n) n
    go true n = refl
    go false n = omega arith
