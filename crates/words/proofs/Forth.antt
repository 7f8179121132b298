-- A word that stands in a text is found, and then what stands behind it. Assumes nothing.
use mathlib.Core.Path.{◌≡◌, sym, ap, ◌∙◌}
use mathlib.Core.Bool.{false}
use mathlib.Core.List.{List, [], ◌∷◌, ◌++◌, append_assoc, append-nil}
use Prim.Native.Nat.{ℕ}
use Rattle.sets.specs.Lists.{All}
use Rattle.words.specs.Bytes.{blank, AllOn}
use Rattle.words.specs.Words.{run, lex, words, bodies}
use Rattle.words.proofs.Steps.{Stops, gap_is, run_on, run-stop}

run-all : (f : ℕ) (w xs t : List ℕ) → AllOn f xs → lex (run f w) (xs ++ t) ≡ lex (run f (w ++ xs)) t
unfolding All
run-all f w [] t h = ap (λ l. lex (run f l) t) (sym (append-nil w))
run-all f w (x ∷ xs) t h = run_on f x w (xs ++ t) h.0 ∙ run-all f (w ++ (x ∷ [])) xs t h.1 ∙ ap (λ l. lex (run f l) t) (append_assoc w (x ∷ []) xs)

begin : (x : ℕ) (t : List ℕ) → blank x ≡ false → words (x ∷ t) ≡ lex (run x (x ∷ [])) t
begin x t e = gap_is x t ∙ rw e

pub word-forth : (x : ℕ) (xs t : List ℕ) → blank x ≡ false → AllOn x xs → Stops x t → bodies (words ((x ∷ xs) ++ t)) ≡ (x ∷ xs) ∷ bodies (words t)
word-forth x xs t b h s = ap (λ l. bodies l) (begin x (xs ++ t) b ∙ run-all x (x ∷ []) xs t h ∙ run-stop x (x ∷ xs) t s)
