-- Steps of reading, said at a place p of a text s. Assumes nothing.
use Rattle.std.specs.Prelude.{None, Some}
use mathlib.Core.Path.{◌≡◌, refl, sym, ◌∙◌}
use mathlib.Core.Bool.{Bool, true, false}
use mathlib.Core.List.{List, [], ◌∷◌}
use Prim.Native.Nat.{ℕ, zero, suc, ◌+◌, ◌*◌, ◌≤◌, ◌<◌}
use native.Mathlib.Numerals.{add-one, unary_clauses}
use lib.ListN.{length, get_or, drop, get_or-eq_default}
use lib.Seq.{drop-cons, get_or-drop, drop-drop}
use lib.Dec.{ltb}
use borrow.Author.Tests.{ltb-true, ltb-false, le-leb, lt-leb, eq-eqb, ne_eqb}
use Rattle.spots.specs.Numbers.{skipped, digit_of, more_digits, number_from, read_number}
use Rattle.spots.proofs.Numbers.{never-some}

module _ (s : List ℕ) (p : ℕ) where
  pub at-cons : p < length s → drop p s ≡ get_or s p 0 ∷ drop (p + 1) s
  at-cons h = rw (add-one, drop-cons s p 0)

  pub at-end : length s ≤ p → drop p s ≡ []
  at-end h = lib.ListN.drop_of_length-le s h

  pub skip_hit : (x : ℕ) → p < length s → x ≡ get_or s p x → skipped x (Some (drop p s)) ≡ Some (drop (p + 1) s)
  unfolding skipped
  skip_hit x h e = rw (add-one, drop-cons s p x, ← e, eq-eqb x x refl)

  pub skip_miss : (b x : ℕ) → p < length s → x ≡ get_or s p x → (x ≡ b → ⊥) → skipped b (Some (drop p s)) ≡ None
  unfolding skipped
  skip_miss b x h e n = rw (drop-cons s p x, ← e, ne_eqb _ _ n)

  pub skip_end : (b : ℕ) → length s ≤ p → skipped b (Some (drop p s)) ≡ None
  unfolding skipped
  skip_end b h = rw (at-end h)

  pub digit-past : length s ≤ p → None ≡ digit_of (get_or s p 0)
  unfolding digit_of
  digit-past h = rw (get_or-eq_default s 0 h)

  pub digit-in : (d : ℕ) → Some d ≡ digit_of (get_or s p 0) → p < length s
  digit-in d e = go (ltb p (length s)) refl
    where
      go : (t : Bool) → ltb p (length s) ≡ t → p < length s
      go true f = ltb-true _ _ f
      go false f = never-some (digit-past (ltb-false _ _ f) ∙ sym e)

  here : get_or (drop p s) 0 0 ≡ get_or s p 0
  here = simp unary_clauses at (get_or-drop p s 0 0)

  module _ (most : ℕ) where
    pub number-none : None ≡ digit_of (get_or s p 0) → None ≡ read_number most (Some (drop p s))
    unfolding read_number number_from
    number-none e = rw (here, ← e)

    pub number-zero : (d : ℕ) → Some d ≡ digit_of (get_or s p 0) → d ≡ 0 → Some (record { value = 0; rest = drop (p + 1) s }) ≡ read_number most (Some (drop p s))
    unfolding read_number number_from
    number-zero d e z = rw (here, ← e, z, drop-drop 1 p s)

    pub number_more : (d : ℕ) → Some d ≡ digit_of (get_or s p 0) → (d ≡ 0 → ⊥) → read_number most (Some (drop p s)) ≡ more_digits most 0 (drop p s)
    unfolding read_number number_from
    number_more zero e z = absurd (z refl)
    number_more (suc d) e z = rw (here, ← e)

    module _ (v : ℕ) where
      pub more-end : None ≡ digit_of (get_or s p 0) → more_digits most v (drop p s) ≡ Some (record { value = v; rest = drop p s })
      unfolding more_digits
      more-end e = go (ltb p (length s)) refl
        where
          go : (t : Bool) → ltb p (length s) ≡ t → more_digits most v (drop p s) ≡ Some (record { value = v; rest = drop p s })
          go true q = rw (at-cons (ltb-true _ _ q), more_digits, ← e)
          go false q = rw (at-end (ltb-false _ _ q))

      pub more-on : (d : ℕ) → Some d ≡ digit_of (get_or s p 0) → v * 10 + d ≤ most → more_digits most v (drop p s) ≡ more_digits most (v * 10 + d) (drop (p + 1) s)
      unfolding more_digits
      more-on d e k = rw (at-cons (digit-in d e), more_digits, ← e, le-leb _ _ k)

      pub more-over : (d : ℕ) → Some d ≡ digit_of (get_or s p 0) → most < v * 10 + d → more_digits most v (drop p s) ≡ None
      unfolding more_digits
      more-over d e k = rw (at-cons (digit-in d e), more_digits, ← e, lt-leb _ _ k)
