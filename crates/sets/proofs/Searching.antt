-- `any` of a list is `some_of` of its places. Assumes nothing.
use mathlib.Core.Path.{◌≡◌, refl, sym, ap, ◌∙◌}
use mathlib.Core.Bool.{Bool, true, false}
use mathlib.Core.List.{List}
use Prim.Native.Nat.{ℕ, ◌≤◌, ◌<◌, zero-le}
use native.Mathlib.Omega.{arith}
use lib.Dec.{ltb}
use lib.ListN.{length, get_or}
use borrow.Author.Tests.{ltb-true, ltb-false}
use Rattle.std.specs.List.{list_any}
use Rattle.std.proofs.lemmas.List.Elements.{All-from_get_or}
use Rattle.std.proofs.lemmas.List.Folds.{list_any_none, list_any_at}
use Rattle.sets.specs.Search.{first_of, some_of}
use Rattle.sets.proofs.Finding.{first-true, first-before}

module _ {X : Type 0} (p : X → Bool) (xs : List X) (d : X) where
  abbrev at : ℕ → Bool
  at k = p (get_or xs k d)

  pub any-some : list_any p xs ≡ some_of at (length xs)
  unfolding some_of
  any-some = go (ltb m (length xs)) refl
    where
      m : ℕ
      m = first_of at (length xs) 0

      go : (b : Bool) → ltb m (length xs) ≡ b → list_any p xs ≡ b
      go true e = let l : m < length xs = ltb-true m (length xs) e in list_any_at p xs m d l (first-true at (length xs) 0 (omega arith))
      go false e =
          let l : length xs ≤ m = ltb-false m (length xs) e in
          list_any_none p xs (All-from_get_or (λ x. p x ≡ false) xs d (λ k h. first-before at (length xs) 0 k zero-le (omega arith)))
