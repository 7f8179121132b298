-- The gates laid for a job (document 01, "Islands", "Steps from document 000"; docs/LAYING.md).
use Rattle.std.specs.Prelude.{List, ◌++◌, ℕ}
use Rattle.gates.specs.declared.gate.Gate.{Gate}
use Rattle.circuit.specs.Circuit.{run, start}
use Rattle.circuit.specs.Flips.{flip_run, no_flips}
use Rattle.flips.specs.Xs.{xs_on}
use Rattle.meaning.specs.Borne.{terms, sums_of}
use Rattle.isles.specs.Islands.{island_of}
use Rattle.steps.specs.Neighbours.{GoesOn}
use Rattle.ending.specs.Mirror.{mirrors_of}
use Rattle.share.specs.Own.{Share, own_sets, own_terms}
use Rattle.laying.specs.Islands.{laid_to}
use Rattle.ways.specs.Ways.{island_laid}

-- the share of the island Q in a job whose chip is `near` and whose gates are gs: nothing but its own
abbrev pub share_of : ℕ → List ℕ → List Gate → Share
share_of Q near gs =
    let ps = own_terms Q (terms gs) in
    record { near = own_sets Q near; set = Q; terms = ps; angles = sums_of gs ps; asked = own_sets Q (run gs start); mirror = own_sets Q (mirrors_of gs) }

-- the gates of the island of q: all that it is handed is its share
unfoldable pub on_island : List ℕ → List Gate → ℕ → List Gate
on_island near gs q = island_laid (share_of (island_of near q) near gs)

-- on the island of q no step is at a loss with that share
unfoldable pub GoesOnIsland : List ℕ → List Gate → ℕ → Type 0
GoesOnIsland near gs q =
    let s = share_of (island_of near q) near gs in
    GoesOn s.near s.set s.terms s.angles

-- "Flips asked for at the end are laid as X, at most one on a wire, after its island's ending": directly behind it
unfoldable pub with_flips : List ℕ → List Gate → ℕ → List Gate
with_flips near gs q = on_island near gs q ++ xs_on (island_of near q) (flip_run gs no_flips)

-- "Islands are laid one after another, by ascending lowest qubit"
unfoldable pub laid_of : ℕ → List ℕ → List Gate → List Gate
laid_of n near gs = laid_to (island_of near) (with_flips near gs) n
