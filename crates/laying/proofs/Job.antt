-- A job laid: equal meaning, couplers, counts; for any way of laying terms that meets the one statement of `columns`. Assumes nothing.
use mathlib.Core.Path.{◌≡◌, refl, sym, ap, ◌∙◌, subst}
use mathlib.Core.Logic.{◌≢◌, ◌⊎◌, inl, inr}
use mathlib.Core.Bool.{true}
use mathlib.Core.List.{List, []}
use Prim.Native.Nat.{ℕ, ◌+◌, ◌-◌, ◌*◌, ◌^◌, ◌≤◌, ◌<◌}
use native.Mathlib.Omega.{arith}
use native.Mathlib.Decide.{ℕ_discrete, dec_lt}
use lib.ListN.{length, get_or, length-map, get_or-eq_default}
use Rattle.std.specs.Prelude.{Ok}
use Rattle.sets.specs.Bit.{bit, In, Sub}
use Rattle.sets.specs.Size.{lowest_of}
use Rattle.sets.proofs.Bits.{bit-cases}
use Rattle.sets.proofs.Members.{in-lt, in-pow}
use Rattle.sets.proofs.Comb.{get_or-units}
use Rattle.gates.specs.declared.gate.Gate.{Gate}
use Rattle.gates.specs.declared.gate.Gate.TheVariants.{Cnot, Rotation, X, Bad}
use Rattle.gates.specs.Layout.{Good}
use Rattle.circuit.specs.Circuit.{run, start, final_of, given, sum_of, Term}
use Rattle.meaning.specs.Borne.{Among, borne, terms}
use Rattle.sets.specs.Lists.{All}
use Rattle.gates.specs.Listed.{Listed, OnCoupler}
use Rattle.meaning.specs.Same.{Reachable}
use Rattle.tallies.specs.Tally.{tally, cnots_of, rotations_of, one_cnot, one_rotation}
use Rattle.verdicts.specs.Verdicts.{judged_couplers}
use Rattle.circuit.proofs.Circuits.{final-is}
use Rattle.circuit.proofs.Wiring.{wires-past, good-up}
use Rattle.meaning.proofs.Bearing.{borne-not-empty, terms-up, term-among, among-term, terms-borne, terms-few}
use Rattle.sets.proofs.Lists.{all_map}
use Rattle.meaning.proofs.Lists.{Up}
use Rattle.meaning.proofs.Tables.{map_at}
use Rattle.chip.specs.Graph.{Near, Symm, Joined}
use Rattle.isles.specs.Islands.{island_of}
use Rattle.chip.specs.Couplers.{near_of}
use Rattle.chip.proofs.Neighbours.{near-symm, near-below, near-listed, accepted-near}
use Rattle.isles.proofs.Isles.{island-self, island-same, island-below, island-fits, island-lt, island-joined, island-near}
use Rattle.columns.proofs.Inside.{inside-good}
use Rattle.chip.specs.Inside.{Inside}
use Rattle.columns.specs.Terms.{LaysTerms, total_of}
use Rattle.ending.specs.Ends.{Ready}
use Rattle.ending.specs.Mirror.{mirrors_of, mirror_of, Bordered}
use Rattle.ending.proofs.Mirrors.{bordered-ready, mirror-inside}
use Rattle.share.specs.Own.{Share, own_terms}
use Rattle.laying.specs.Islands.{leads, laid_to}
use Rattle.ways.specs.Ways.{with_closing}
use Rattle.laying.specs.Laid.{share_of}
use Rattle.laying.specs.Reach.{MeaningInside}
use Rattle.laying.proofs.Parting.{Parts, leader-below, leader-leads, leader-same, inside_one}
use Rattle.laying.proofs.Restricting.{own-whole, own-symm, own-joined, own-near}
use Rattle.laying.proofs.Owning.{own-up, own-has, own_back, own-few, total-own, total-none}
use Rattle.laying.proofs.Islanding.{Placed, closed-lays, closed-placed, closed_none}
use Rattle.laying.proofs.Composing.{Lays, on-parities, wired, parities-settle, given-laid}
use Rattle.laying.proofs.Counting.{Fits, fits_by, over-ext, over-one, over_none, tally-laid, terms-counted, cnots-bounded, over_islands}
use Rattle.laying.proofs.Reaching.{reachable-within}

-- ---- a way of laying terms

-- P holds of the share of every connected island whose terms ascend, are inside it and not empty
unfoldable pub OnIslands : (Share → Type 0) → Type 0
OnIslands P =
    (s : Share) → Symm s.near → s.set < 2 ^ 20 → Joined s.near s.set → ((u v : ℕ) → Near s.near u v → In u s.set × In v s.set)
    → Up 0 s.terms → ((p : ℕ) → Among p s.terms → (p ≢ 0) × Sub p s.set) → length s.terms ≤ 256 → length s.angles ≡ length s.terms → P s

-- what laying needs of a way: the one statement of `columns`
abbrev pub LaysOnIslands : (Share → List Gate) → Type 0
LaysOnIslands way = OnIslands (λ s. LaysTerms s.near s.set s.terms s.angles (way s))

-- ---- the islands of n qubits

module _ (n : ℕ) (xs : List ℕ) (few : n ≤ 20) where
  abbrev near : List ℕ
  near = near_of n xs

  abbrev isl : ℕ → ℕ
  isl = island_of near

  pub parts : Parts n isl
  parts = record {
    self = λ i (h : i < n). island-self near i (omega arith);
    same = λ i j (h : i < n) m. island-same near (near-symm n xs) i j (omega arith) m;
    small = λ i j (h : i < n) m. island-below near n (λ u v k. (near-below n xs u v k).1) i j (omega arith) h m;
    fits = λ i (h : i < n). island-fits near n (λ u v k. (near-below n xs u v k).1) i (omega arith) h;
  }

  -- a listed coupler joins qubits of one island
  pub joins : judged_couplers n xs ≡ Ok tt → (u v : ℕ) → u < n → v < n → u ≢ v → Listed xs u v → isl u ≡ isl v
  joins ok u v hu hv ne k = island-near near (near-symm n xs) u v (omega arith) (omega arith) (accepted-near n xs few ok u v hu hv k)

  pub only-inside : judged_couplers n xs ≡ Ok tt → (gs : List Gate) → Reachable n xs gs → MeaningInside n isl gs
  only-inside ok gs r = reachable-within n isl xs few (λ i h. parts.self i h) (joins ok) gs r

-- ---- a job within its islands

module _ (n : ℕ) (xs : List ℕ) (gs : List Gate) (few : n ≤ 20) (good : All (Good n) gs) (fit : length (borne gs) ≤ 256) (within : MeaningInside n (island_of (near_of n xs)) gs) where
  abbrev P : Parts n (isl n xs few)
  P = parts n xs few

  abbrev Q : ℕ → ℕ
  Q q = island_of (near_of n xs) q

  abbrev ts : List ℕ
  ts = terms gs

  -- what the island of q is handed
  abbrev share : ℕ → Share
  share q = share_of (Q q) (near_of n xs) gs

  pub good20 : All (Good 20) gs
  good20 = all_map (Good n) (Good 20) (λ g h. good-up n 20 g few h) gs good

  pub terms-fit : Fits n (Q) few P ts
  terms-fit = fits_by n Q few P ts (λ p h. (borne-not-empty n gs few good p (terms-borne p gs h), within.terms p (among-term p gs h)))

  module _ (q : ℕ) (l : q < n) where
    low : Q q < 2 ^ 20
    low = island-lt (near_of n xs) q (omega arith)

    below : (i : ℕ) → In i (Q q) → i < 20
    below i h = in-lt 20 (Q q) i low h

    asked : (i : ℕ) → In i (Q q) → Sub (final_of gs i) (Q q)
    asked i h = subst (Sub (final_of gs i)) (sym (P.same q i l h)) (within.finals i (P.small q i l h))

    -- no final parity crosses the border of the island
    pub bordered : Bordered gs (Q q)
    bordered = record { own = asked; others = λ i h z k m. off i h z k m (dec_lt i n) (bit-cases (Q q) k) }
      where
        off : (i : ℕ) → i < 20 → bit (Q q) i ≡ 0 → (k : ℕ) → In k (final_of gs i) → Dec (i < n) → (bit (Q q) k ≡ 0) ⊎ (bit (Q q) k ≡ 1) → bit (Q q) k ≡ 0
        off i h z k m d (inl w) = w
        off i h z k m (yes b) (inr w) =
            let e : Q q ≡ Q i = P.same q k l w ∙ sym (P.same i k b (within.finals i b k m)) in
            absurd (omega (arith, z, P.self i b, ap (λ (s : ℕ). bit s i) e))
        off i h z k m (no b) (inr w) =
            let f : final_of gs i ≡ 2 ^ i = final-is gs i ∙ wires-past n gs start i (omega arith) good ∙ unfold start in get_or-units 20 i h in
            absurd (omega (arith, z, w, ap (bit (Q q)) (in-pow i k (subst (In k) f m))))

    rows_are : (i : ℕ) → In i (Q q) → get_or (share q).asked i 0 ≡ final_of gs i
    rows_are i h = own-whole (Q q) (run gs start) i (below i h) h (subst (λ (m : ℕ). Sub m (Q q)) (final-is gs i) (asked i h)) ∙ sym (final-is gs i)

    mirror-is : (i : ℕ) → get_or (mirrors_of gs) i 0 ≡ mirror_of gs i
    unfolding mirror_of
    mirror-is i = refl

    mirror-are : (i : ℕ) → In i (Q q) → get_or (share q).mirror i 0 ≡ mirror_of gs i
    mirror-are i h = own-whole (Q q) (mirrors_of gs) i (below i h) h (subst (λ (m : ℕ). Sub m (Q q)) (sym (mirror-is i)) (mirror-inside gs (Q q) low good20 bordered i h)) ∙ mirror-is i

    ready : Ready (Q q) (share q).asked (share q).mirror
    ready = bordered-ready gs (Q q) low good20 bordered (share q).asked (share q).mirror rows_are mirror-are

    symm : Symm (share q).near
    symm = own-symm (near_of n xs) (Q q) below (near-symm n xs)

    joined : Joined (share q).near (Q q)
    joined = own-joined (near_of n xs) (Q q) below (island-joined (near_of n xs) (near-symm n xs) q (omega arith))

    pub of-share : (R : Share → Type 0) → OnIslands R → R (share q)
    unfolding OnIslands
    of-share R h =
        h (share q) symm low joined
        (λ u v k. let r = own-near (near_of n xs) (Q q) u v k in (r.0, r.2))
        (own-up (Q q) 0 ts (terms-up gs))
        (λ p h. let r = own_back (Q q) p ts h in (borne-not-empty n gs few good p (terms-borne p gs r.0), r.1))
        (omega (arith, own-few (Q q) ts, terms-few gs, fit)) (length-map (own_terms (Q q) ts) (λ p. sum_of p gs))

    module _ (way : Share → List Gate) (lays : LaysOnIslands way) where
      pub way-terms : LaysTerms (share q).near (Q q) (share q).terms (share q).angles (way (share q))
      way-terms = of-share (λ s. LaysTerms s.near s.set s.terms s.angles (way s)) lays

      pub way-lays : Lays (Q q) (λ i. final_of gs i) (λ p. total_of p (share q).terms (share q).angles) (with_closing (share q) (way (share q)))
      way-lays =
          let c = closed-lays (share q) (way (share q)) symm low joined way-terms ready in
          record { right = λ W size own i h. c.right W size own i h ∙ rows_are i h; others = c.others; gives = c.gives }

      pub way-placed : Placed (share q) (with_closing (share q) (way (share q)))
      way-placed = closed-placed (share q) (way (share q)) symm low joined way-terms ready

      pub way-none : length (share q).terms ≡ 0 → ((i : ℕ) → In i (Q q) → get_or (share q).asked i 0 ≡ 2 ^ i) → with_closing (share q) (way (share q)) ≡ []
      way-none = closed_none (share q) (way (share q)) symm low joined way-terms ready

    pub small-angles : (k : ℕ) → get_or (share q).angles k 0 < 65536
    unfolding sum_of
    small-angles k = go (dec_lt k (length (share q).terms))
      where
        go : Dec (k < length (share q).terms) → get_or (share q).angles k 0 < 65536
        go (yes h) = omega (arith, map_at (λ p. sum_of p gs) (share q).terms k h)
        go (no h) = omega (arith, get_or-eq_default (share q).angles 0 {n = k} (omega (arith, length-map (share q).terms (λ p. sum_of p gs))))

  -- ---- all islands, each with gates that do what a way and its closing do

  abbrev T : ℕ → ℕ → ℕ
  T q p = total_of p (share q).terms (share q).angles

  module _ (lists : ℕ → List Gate) (lays : (q : ℕ) → q < n → Lays (Q q) (λ i. final_of gs i) (T q) (lists q))
      (placed : (q : ℕ) → q < n → Placed (share q) (lists q)) where
    pub island-good : (q : ℕ) → q < n → All (Good n) (lists q)
    island-good q l = inside-good (share q).near n (Q q) (λ i h. P.small q i l h) (lists q) (placed q l).inside ((placed q l).small (small-angles q l))

    pub island-coupled : (q : ℕ) → q < n → All (OnCoupler xs) (lists q)
    island-coupled q l = all_map (Inside (share q).near (Q q)) (OnCoupler xs) on (lists q) (placed q l).inside
      where
        on : (g : Gate) → Inside (share q).near (Q q) g → OnCoupler xs g
        on (Cnot c t) h = unfold OnCoupler in near-listed n xs c t (own-near (near_of n xs) (Q q) c t h.3).1
        on (Rotation a b) h = unfold OnCoupler in tt
        on (X q) h = unfold OnCoupler in tt
        on Bad h = unfold OnCoupler in tt

    abbrev laid : List Gate
    laid = laid_to Q lists n

    pub finals-same : (i : ℕ) → i < n → final_of gs i ≡ final_of laid i
    finals-same i h =
        sym (final-is laid i ∙ (wired n Q few P lists run start on-parities (λ i. final_of gs i) (parities-settle n Q few P lists (λ i. final_of gs i) T (λ q l e. lays q l)) n (omega arith)).done i h (leader-below n Q few P i h))

    term-given : (p : ℕ) → Term gs p → over_islands n Q few P (λ q. T q p) ≡ sum_of p gs
    term-given p t =
        let w = within.terms p t in
        let a : Among p ts = term-among p gs t in
        let ne : p ≢ 0 = borne-not-empty n gs few good p (terms-borne p gs a) in
        let j : ℕ = lowest_of (Q w.0) in
        let lj : j < n = leader-below n Q few P w.0 w.1 in
        let ej : leads Q j ≡ true = leader-leads n Q few P w.0 w.1 in
        let sj : Sub p (Q j) = subst (Sub p) (sym (leader-same n Q few P w.0 w.1)) w.2 in
        over-one n Q few P (λ q. T q p) j lj ej
        (λ q l e d. total-none (λ r. sum_of r gs) p (own_terms (Q q) ts) (λ h. d (inside_one n Q few P q j p l lj e ej ne (own_back (Q q) p ts h).1 sj)))
        ∙ total-own (λ r. sum_of r gs) p (own_terms (Q j) ts) (own-up (Q j) 0 ts (terms-up gs)) (own-has (Q j) p ts a sj)

    other-given : (p : ℕ) → sum_of p gs ≡ 0 → over_islands n Q few P (λ q. T q p) ≡ 0
    unfolding Term
    other-given p z = over_none n Q few P (λ q. T q p) (λ q l e. total-none (λ r. sum_of r gs) p (own_terms (Q q) ts) (λ h. among-term p gs (own_back (Q q) p ts h).0 z))

    pub sums-given : (p : ℕ) → given p laid start ≡ sum_of p gs
    unfolding Term
    sums-given p = given-laid n Q few P lists (λ i. final_of gs i) T (λ q l e. lays q l) p n (omega arith) ∙ go (ℕ_discrete (sum_of p gs) 0)
      where
        go : Dec (sum_of p gs ≡ 0) → over_islands n Q few P (λ q. T q p) ≡ sum_of p gs
        go (yes z) = other-given p z ∙ sym z
        go (no ne) = term-given p ne

    -- "exactly t rotations", "at most 2(n-1)t + 2n(n-1) CNOTs"
    pub laid-rotations : rotations_of laid ≡ length ts
    unfolding rotations_of
    laid-rotations =
        tally-laid n Q few P one_rotation lists n
        ∙ over-ext n Q few P (λ q. tally one_rotation (lists q)) (λ q. length (share q).terms) (λ q l e. (placed q l).rotations)
        ∙ terms-counted n Q few P ts terms-fit

    pub laid-cnots : cnots_of laid ≤ 2 * (n - 1) * length ts + 2 * n * (n - 1)
    unfolding cnots_of
    laid-cnots =
        subst (λ (m : ℕ). m ≤ 2 * (n - 1) * length ts + 2 * n * (n - 1)) (sym (tally-laid n Q few P one_cnot lists n))
        (cnots-bounded n Q few P ts terms-fit (λ q. tally one_cnot (lists q)) (λ q l e. (placed q l).cnots))
