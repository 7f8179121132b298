-- A job that passed tests 1 to 7 is laid by the shorter of the two ways on each island, where the steps always have a qubit to go on with: all that `Job` says. Assumes nothing.
use mathlib.Core.Path.{◌≡◌}
use mathlib.Core.Logic.{◌≢◌}
use mathlib.Core.Bool.{Bool, true, false}
use mathlib.Core.List.{List, []}
use Prim.Native.Nat.{ℕ, ◌+◌, ◌-◌, ◌*◌, ◌^◌, ◌≤◌, ◌<◌}
use native.Mathlib.Omega.{arith}
use lib.Dec.{ltb}
use lib.ListN.{length, get_or}
use lib.Count.{ones, ones-le}
use Rattle.sets.specs.Pick.{pick}
use Rattle.sets.specs.Bit.{In, Sub}
use Rattle.gates.specs.declared.gate.Gate.{Gate}
use Rattle.gates.specs.Layout.{gates_of}
use Rattle.circuit.specs.Circuit.{final_of}
use Rattle.meaning.specs.Borne.{Among, terms}
use Rattle.tallies.specs.Tally.{cnots_of, rotations_of, bound_of}
use Rattle.meaning.proofs.Lists.{among-at}
use Rattle.tallies.proofs.Tallies.{bound-most}
use Rattle.meaning.proofs.Bearing.{terms-few}
use Rattle.chip.specs.Couplers.{near_of}
use Rattle.isles.specs.Islands.{island_of}
use Rattle.isles.proofs.Isles.{island-lt}
use Rattle.columns.specs.Terms.{LaysTerms, total_of}
use Rattle.sets.proofs.Members.{in-lt}
use Rattle.columns.proofs.Inside.{inside-length, inside-good}
use Rattle.steps.specs.Neighbours.{GoesOn}
use Rattle.steps.proofs.Terms.{always-a-neighbour, steps-lay}
use Rattle.nearest.proofs.Lays.{nearest-lays}
use Rattle.share.specs.Own.{Share}
use Rattle.ways.specs.Ways.{by_steps, by_nearest, with_closing, shorter, island_laid}
use Rattle.laying.specs.Laid.{share_of, on_island, GoesOnIsland}
use Rattle.laying.specs.Layable.{Layable}
use Rattle.ways.specs.Memory.{FitsMemory}
use Rattle.laying.proofs.Composing.{Lays}
use Rattle.laying.proofs.Islanding.{Placed}
use Rattle.laying.proofs.Owning.{own-few}
use Rattle.laying.proofs.Job.{OnIslands, LaysOnIslands, of-share, way-terms, way-lays, way-placed, way-none, small-angles}

-- ---- the two ways

each-term : (Q : ℕ) (ps : List ℕ) → ((p : ℕ) → Among p ps → (p ≢ 0) × Sub p Q) → (k : ℕ) → k < length ps → Sub (get_or ps k 0) Q × (get_or ps k 0 ≢ 0)
each-term Q ps h k l = let r = h (get_or ps k 0) (among-at ps k l) in (r.1, r.0)

pub steps-lay-all : LaysOnIslands by_steps
unfolding OnIslands by_steps
steps-lay-all s sy low j own up term few size = steps-lay s.near s.set s.terms s.angles low sy j few (each-term s.set s.terms term)

pub nearest-lays-all : LaysOnIslands by_nearest
unfolding OnIslands by_nearest
nearest-lays-all s sy low j own up term few size = nearest-lays s.near s.set s.terms s.angles sy j low few (each-term s.set s.terms term)

steps-go-on : OnIslands (λ s. GoesOn s.near s.set s.terms s.angles)
unfolding OnIslands
steps-go-on s sy low j own up term few size = always-a-neighbour s.near s.set s.terms s.angles low sy j few (each-term s.set s.terms term)

-- what holds of both ways holds of the shorter
of-shorter : (P : List Gate → Type 0) (a b : List Gate) → P a → P b → P (shorter a b)
unfolding shorter
of-shorter P a b x y = go (ltb (length b) (length a))
  where
    go : (t : Bool) → P (pick t b a)
    go true = y
    go false = x

-- ---- room

-- an island of m qubits with t terms
within-bound : (m t c r : ℕ) → c ≤ 2 * (m - 1) * t + 2 * (m * (m - 1)) → r ≡ t → c + r ≤ bound_of m t
unfolding bound_of
within-bound m t c r hc hr = omega (arith, hc, hr)

module _ (n : ℕ) (xs ys : List ℕ) (job : Layable n xs ys) where
  abbrev gs : List Gate
  gs = gates_of n ys

  abbrev Q : ℕ → ℕ
  Q q = island_of (near_of n xs) q

  abbrev share : ℕ → Share
  share q = share_of (Q q) (near_of n xs) gs

  module _ (q : ℕ) (l : q < n) where
    few-terms : length (share q).terms ≤ 256
    few-terms = omega (arith, own-few (Q q) (terms gs), terms-few gs, job.fit)

    low : Q q < 2 ^ 20
    low = let f = job.few in island-lt (near_of n xs) q (omega arith)

    size : ones (Q q) ≤ 20
    size = ones-le 20 (Q q) low

    placed-fits : (L : List Gate) → Placed (share q) L → FitsMemory L
    placed-fits L p = record {
      few = omega (arith, inside-length (share q).near (Q q) L p.inside, within-bound (ones (Q q)) (length (share q).terms) (cnots_of L) (rotations_of L) p.cnots p.rotations, bound-most (ones (Q q)) (length (share q).terms) size few-terms);
      good = inside-good (share q).near 20 (Q q) (λ i h. in-lt 20 (Q q) i low h) L p.inside (p.small (small-angles n xs gs job.few job.good job.fit job.within q l));
    }

    terms-placed : (L : List Gate) → LaysTerms (share q).near (Q q) (share q).terms (share q).angles L → Placed (share q) L
    terms-placed L t = record { inside = t.inside; small = t.small; rotations = t.rotations; cnots = omega (arith, t.cnots) }

    module _ (way : Share → List Gate) (lays : LaysOnIslands way) where
      pub way-fits : FitsMemory (way (share q))
      way-fits = placed-fits (way (share q)) (terms-placed (way (share q)) (way-terms n xs gs job.few job.good job.fit job.within q l way lays))

      pub closed-fits : FitsMemory (with_closing (share q) (way (share q)))
      closed-fits = placed-fits (with_closing (share q) (way (share q))) (way-placed n xs gs job.few job.good job.fit job.within q l way lays)

    of-island : (P : List Gate → Type 0) → ((way : Share → List Gate) → LaysOnIslands way → P (with_closing (share q) (way (share q)))) → P (on_island (near_of n xs) gs q)
    unfolding on_island island_laid
    of-island P h = of-shorter P (with_closing (share q) (by_steps (share q))) (with_closing (share q) (by_nearest (share q))) (h by_steps steps-lay-all) (h by_nearest nearest-lays-all)

    pub island-lays : Lays (Q q) (λ i. final_of gs i) (λ p. total_of p (share q).terms (share q).angles) (on_island (near_of n xs) gs q)
    island-lays = of-island (Lays (Q q) (λ i. final_of gs i) (λ p. total_of p (share q).terms (share q).angles)) (way-lays n xs gs job.few job.good job.fit job.within q l)

    pub island-placed : Placed (share q) (on_island (near_of n xs) gs q)
    island-placed = of-island (Placed (share q)) (way-placed n xs gs job.few job.good job.fit job.within q l)

    -- no terms, and every wire asked for its own parity: no gates
    pub island-none : length (share q).terms ≡ 0 → ((i : ℕ) → In i (Q q) → get_or (share q).asked i 0 ≡ 2 ^ i) → on_island (near_of n xs) gs q ≡ []
    island-none z own = of-island (λ (L : List Gate). L ≡ []) (λ way lays. way-none n xs gs job.few job.good job.fit job.within q l way lays z own)

    pub island-goes-on : GoesOnIsland (near_of n xs) gs q
    unfolding GoesOnIsland
    island-goes-on = of-share n xs gs job.few job.good job.fit job.within q l (λ s. GoesOn s.near s.set s.terms s.angles) steps-go-on
