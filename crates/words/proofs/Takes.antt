-- What is taken where the first word is known. Assumes nothing.
use Rattle.std.specs.Prelude.{None}
use mathlib.Core.Path.{◌≡◌}
use mathlib.Core.List.{List}
use Prim.Native.Nat.{ℕ, ◌<◌}
use lib.ListN.{length, drop}
use Rattle.words.specs.Words.{Word}
use Rattle.words.specs.Taking.{behind}
use Rattle.spots.proofs.Steps.{at-cons}

-- a number that ends within the word is not the word
pub left_over : (i : ℕ) (w : List ℕ) (ws : List Word) → i < length w → behind (drop i w) ws ≡ None
left_over i w ws h = rw (at-cons w i h)
