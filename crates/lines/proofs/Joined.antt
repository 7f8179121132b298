-- The lines of a list, joined: of the first i, of the next one, and of two lists. Assumes nothing.
use mathlib.Core.Path.{◌≡◌, sym, ap, ◌∙◌}
use mathlib.Core.List.{List, [], ◌∷◌, ◌++◌, append_assoc, append-nil}
use Prim.Native.Nat.{ℕ, ◌+◌, ◌<◌}
use native.Mathlib.Numerals.{add-one}
use lib.ListN.{length, get_or, take}
use lib.Seq.{take-suc}

module _ (line : ℕ → List ℕ) (whole : List ℕ → List ℕ) (none : whole [] ≡ []) (more : (x : ℕ) (xs : List ℕ) → whole (x ∷ xs) ≡ line x ++ whole xs) where
  pub joined-append : (xs ys : List ℕ) → whole (xs ++ ys) ≡ whole xs ++ whole ys
  joined-append [] ys = ap (λ l. l ++ whole ys) (sym none)
  joined-append (x ∷ xs) ys =
      more x (xs ++ ys) ∙ ap (λ l. line x ++ l) (joined-append xs ys) ∙ sym (append_assoc (line x) (whole xs) (whole ys)) ∙ ap (λ l. l ++ whole ys) (sym (more x xs))

  joined-one : (x : ℕ) → whole (x ∷ []) ≡ line x
  joined-one x = more x [] ∙ ap (λ l. line x ++ l) none ∙ append-nil (line x)

  pub joined-next : (xs : List ℕ) (i : ℕ) → i < length xs → whole (take (i + 1) xs) ≡ whole (take i xs) ++ line (get_or xs i 0)
  joined-next xs i h = rw (add-one, take-suc xs i 0 h) (joined-append (take i xs) (get_or xs i 0 ∷ []) ∙ ap (λ l. whole (take i xs) ++ l) (joined-one (get_or xs i 0)))
