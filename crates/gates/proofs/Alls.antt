-- The gates of records: what all of them are. Assumes nothing.
use mathlib.Core.Path.{◌≡◌, refl, ap, ◌∙◌}
use mathlib.Core.List.{List, [], ◌∷◌, map}
use Prim.Native.Nat.{ℕ, ◌≤◌, ◌<◌}
use lib.ListN.{length, get_or}
use Rattle.sets.specs.Lists.{All}
use Rattle.sets.proofs.Lists.{all-mapped, all-places}
use Rattle.gates.specs.declared.gate.Gate.{Gate}
use Rattle.gates.specs.Layout.{gate_of, gates_of, record_of, Good}
use Rattle.gates.proofs.Records.{gate-record}

-- a property that holds place by place holds of all
pub all-at : (P : Gate → Type 0) (n : ℕ) (xs : List ℕ) → ((k : ℕ) → k < length xs → P (gate_of n (get_or xs k 0))) → All P (gates_of n xs)
all-at P n xs h = all-mapped (λ x. P (gate_of n x)) P (gate_of n) (λ x p. p) xs (all-places (λ x. P (gate_of n x)) xs h)

-- ---- the records of good gates are those gates

pub records-gates : (n : ℕ) (gs : List Gate) → n ≤ 256 → All (Good n) gs → gates_of n (map record_of gs) ≡ gs
unfolding All
records-gates n [] few a = refl
records-gates n (g ∷ gs) few a = ap (λ (h : Gate). h ∷ gates_of n (map record_of gs)) (gate-record n g few a.0) ∙ ap (λ (hs : List Gate). g ∷ hs) (records-gates n gs few a.1)
