-- Layers of a list that is handed over part by part. Assumes nothing.
use mathlib.Core.Path.{◌≡◌, refl}
use mathlib.Core.List.{List, [], ◌∷◌, ◌++◌}
use Prim.Native.Nat.{ℕ, ◌+◌, ◌≤◌, ◌<◌}
use lib.ListN.{length}
use borrow.Author.Tests.{le-leb, lt-leb}
use Rattle.gates.specs.declared.gate.Gate.{Gate}
use Rattle.tallies.specs.Tally.{layered, layers_from, layers_after, highest}

pub layers-append : (a b : List Gate) (L : List ℕ) → layers_from (a ++ b) L ≡ layers_from b (layers_from a L)
unfolding layers_from
layers-append [] b L = refl
layers-append (g ∷ a) b L = layers-append a b (layered g L)

-- ---- layers_after, where the number of the layers fits and where it might not

pub after-fits : (gs : List Gate) (L : List ℕ) → highest L + length gs ≤ 18446744073709551615 → layers_after gs L ≡ layers_from gs L
unfolding layers_after
after-fits gs L h = rw (le-leb (highest L + length gs) 18446744073709551615 h)

pub after-over : (gs : List Gate) (L : List ℕ) → 18446744073709551615 < highest L + length gs → layers_after gs L ≡ L
unfolding layers_after
after-over gs L h = rw (lt-leb (highest L + length gs) 18446744073709551615 h)
