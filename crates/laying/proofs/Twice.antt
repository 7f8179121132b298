-- An island of two jobs that agree on it gets the same gates in both. Assumes nothing.
use mathlib.Core.Path.{◌≡◌, refl, sym, ap, ap₂, ◌∙◌, subst}
use mathlib.Core.List.{List, [], ◌∷◌, ◌++◌, map}
use Prim.Native.Nat.{ℕ, ◌^◌, ◌<◌}
use native.Mathlib.Omega.{arith}
use lib.Bits.{bit_and}
use Rattle.std.specs.Prelude.{Ok}
use Rattle.sets.specs.Bit.{In}
use Rattle.sets.specs.Size.{lowest_of}
use Rattle.gates.specs.declared.gate.Gate.{Gate}
use Rattle.gates.specs.declared.gate.Gate.TheVariants.{Cnot, Rotation, X, Bad}
use Rattle.gates.specs.Layout.{gates_of, Good}
use Rattle.circuit.specs.Circuit.{run, start, sum_of, Term}
use Rattle.circuit.specs.Flips.{flip_run, no_flips}
use Rattle.meaning.specs.Borne.{Among, terms, sums_of}
use Rattle.sets.specs.Lists.{All}
use Rattle.sets.proofs.Lists.{all_map}
use Rattle.verdicts.specs.Verdicts.{judged_couplers}
use Rattle.circuit.proofs.Circuits.{final-is}
use Rattle.circuit.proofs.Flips.{flip_is}
use Rattle.flips.specs.Xs.{flipped_to, xs_on, NoX}
use Rattle.flips.proofs.Xs.{xs-same}
use Rattle.meaning.proofs.Bearing.{terms-up, term-among, among-term}
use Rattle.meaning.proofs.Lists.{among_first, among-rest}
use Rattle.chip.specs.Couplers.{near_of}
use Rattle.isles.specs.Islands.{island_of}
use Rattle.chip.proofs.Neighbours.{near-listed, accepted-near}
use Rattle.isles.proofs.Isles.{island-lt}
use Rattle.chip.specs.Inside.{Inside}
use Rattle.ending.specs.Mirror.{mirrors_of, mirror_of, Bordered}
use Rattle.ending.proofs.Mirrors.{mirror-same-inside}
use Rattle.share.specs.Own.{own_sets, own_terms}
use Rattle.ways.specs.Ways.{island_laid}
use Rattle.laying.specs.Laid.{share_of, on_island, with_flips, laid_of}
use Rattle.laying.specs.Layable.{Layable}
use Rattle.laying.specs.Answers.{circuit_of}
use Rattle.laying.specs.Demands.{Island, gates_on, FlipsLast, Agree}
use Rattle.laying.proofs.Parting.{Parts, leader-below, leader-same, leader-leads}
use Rattle.laying.proofs.Restricting.{own_same}
use Rattle.laying.proofs.Owning.{own_back}
use Rattle.laying.proofs.Job.{parts, bordered, good20}
use Rattle.laying.proofs.Both.{island-placed}
use Rattle.laying.proofs.Alike.{flips-on, gates-on, near-alike, terms-alike}
use Rattle.laying.proofs.FlipOrder.{flipped-ascending}
use Rattle.laying.proofs.Linking.{island-found}

-- what the set S is laid with, in a job whose chip is `near` and whose gates are gs
laid_on : ℕ → List ℕ → List Gate → List Gate
laid_on S near gs = island_laid (share_of S near gs)

-- ---- one job

module _ (n : ℕ) (xs ys : List ℕ) (job : Layable n xs ys) (ok : judged_couplers n xs ≡ Ok tt) (S q : ℕ) (island : Island n xs S q) where
  abbrev isl : ℕ → ℕ
  isl = island_of (near_of n xs)

  abbrev P : Parts n isl
  P = parts n xs job.few

  abbrev gs : List Gate
  gs = gates_of n ys

  found : S ≡ isl q
  found = island-found n xs job.few ok S q island

  member : (i : ℕ) → In i S → i < n
  member i m = P.small q i island.below (subst (In i) found m)

  low : S < 2 ^ 20
  low = subst (λ (Q : ℕ). Q < 2 ^ 20) (sym found) (let f = job.few in let b = island.below in island-lt (near_of n xs) q (omega arith))

  no-crossing : Bordered gs S
  no-crossing = subst (Bordered gs) (sym found) (bordered n xs gs job.few job.good job.fit job.within q island.below)

  well : All (Good 20) gs
  well = good20 n xs gs job.few job.good job.fit job.within

  -- the gates on the island: its own, and the X gates on its wires
  gates-are : gates_on S (circuit_of n xs ys) ≡ laid_on S (near_of n xs) gs ++ xs_on S (flip_run gs no_flips)
  unfolding circuit_of laid_of with_flips laid_on on_island
  gates-are =
      let j : ℕ = lowest_of (isl q) in
      let l : j < n = leader-below n isl job.few P q island.below in
      let e : isl j ≡ S = leader-same n isl job.few P q island.below ∙ sym found in
      subst (λ (Q : ℕ). gates_on Q (circuit_of n xs ys) ≡ laid_on Q (near_of n xs) gs ++ xs_on Q (flip_run gs no_flips)) e
      (gates-on n isl job.few P (with_flips (near_of n xs) gs) (λ q l. flips-on (own_sets (isl q) (near_of n xs)) (isl q) (flip_run gs no_flips) (on_island (near_of n xs) gs q) (island-placed n xs ys job q l).inside)
      j l (leader-leads n isl job.few P q island.below) n (omega arith) l)

  -- the X gates behind the others, by ascending qubit
  pub flips-last : FlipsLast S (circuit_of n xs ys)
  flips-last = record {
    before = laid_on S (near_of n xs) gs;
    flipped = flipped_to S (flip_run gs no_flips) 20;
    parted = unfold xs_on in gates-are;
    none = subst (λ (Q : ℕ). All NoX (laid_on Q (near_of n xs) gs)) (sym found) plain;
    ascending = flipped-ascending S (flip_run gs no_flips) 20;
  }
    where
      no-x : (near : List ℕ) (Q : ℕ) (g : Gate) → Inside near Q g → NoX g
      no-x near Q (Cnot c t) h = unfold NoX in tt
      no-x near Q (Rotation r a) h = unfold NoX in tt
      no-x near Q (X r) h = absurd h
      no-x near Q Bad h = unfold NoX in tt

      plain : All NoX (laid_on (isl q) (near_of n xs) gs)
      plain = unfold laid_on on_island in all_map (Inside (own_sets (isl q) (near_of n xs)) (isl q)) NoX (no-x (own_sets (isl q) (near_of n xs)) (isl q)) (laid_on (isl q) (near_of n xs) gs) (island-placed n xs ys job q island.below).inside

-- ---- two

maps-alike : (f g : ℕ → ℕ) (ps : List ℕ) → ((p : ℕ) → Among p ps → f p ≡ g p) → map f ps ≡ map g ps
maps-alike f g [] h = refl
maps-alike f g (p ∷ ps) h = ap₂ (λ (a : ℕ) (l : List ℕ). a ∷ l) (h p (among_first p p ps refl)) (maps-alike f g ps (λ r k. h r (among-rest r p ps k)))

module _ (n m : ℕ) (xs xs' ys ys' : List ℕ) (job : Layable n xs ys) (job' : Layable m xs' ys') (ok : judged_couplers n xs ≡ Ok tt) (ok' : judged_couplers m xs' ≡ Ok tt)
    (S q r : ℕ) (here : Island n xs S q) (there : Island m xs' S r) (agree : Agree S xs xs' (gates_of n ys) (gates_of m ys')) where
  abbrev one : List Gate
  one = gates_of n ys

  abbrev two : List Gate
  two = gates_of m ys'

  same-near : own_sets S (near_of n xs) ≡ own_sets S (near_of m xs')
  same-near =
      near-alike S (near_of n xs) (near_of m xs')
      (λ u v hu hv k. accepted-near m xs' job'.few ok' u v (member m xs' ys' job' ok' S r there u hu) (member m xs' ys' job' ok' S r there v hv) (agree.there u v hu hv (near-listed n xs u v k)))
      (λ u v hu hv k. accepted-near n xs job.few ok u v (member n xs ys job ok S q here u hu) (member n xs ys job ok S q here v hv) (agree.back u v hu hv (near-listed m xs' u v k)))

  same-terms : own_terms S (terms one) ≡ own_terms S (terms two)
  unfolding Term
  same-terms =
      terms-alike S (terms one) (terms two) (terms-up one) (terms-up two)
      (λ p s k. term-among p two (λ z. among-term p one k (agree.sums p s ∙ z)))
      (λ p s k. term-among p one (λ z. among-term p two k (sym (agree.sums p s) ∙ z)))

  same-sums : sums_of one (own_terms S (terms one)) ≡ sums_of two (own_terms S (terms two))
  same-sums =
      maps-alike (λ p. sum_of p one) (λ p. sum_of p two) (own_terms S (terms one)) (λ p k. agree.sums p (own_back S p (terms one) k).1) ∙ ap (sums_of two) same-terms

  same-finals : own_sets S (run one start) ≡ own_sets S (run two start)
  same-finals = own_same S (run one start) (run two start) (λ i l k. ap (λ (x : ℕ). bit_and x S) (sym (final-is one i) ∙ agree.finals i k ∙ final-is two i))

  same-mirrors : own_sets S (mirrors_of one) ≡ own_sets S (mirrors_of two)
  unfolding mirror_of
  same-mirrors =
      own_same S (mirrors_of one) (mirrors_of two)
      (λ i l k. ap (λ (x : ℕ). bit_and x S)
      (mirror-same-inside one two S (low n xs ys job ok S q here) (well n xs ys job ok S q here) (well m xs' ys' job' ok' S r there)
      (no-crossing n xs ys job ok S q here) (no-crossing m xs' ys' job' ok' S r there) agree.finals i k))

  same-flips : xs_on S (flip_run one no_flips) ≡ xs_on S (flip_run two no_flips)
  same-flips = xs-same S (flip_run one no_flips) (flip_run two no_flips) (λ i k. sym (flip_is one i) ∙ agree.flips i k ∙ flip_is two i)

  pub same_gates : gates_on S (circuit_of n xs ys) ≡ gates_on S (circuit_of m xs' ys')
  unfolding laid_on
  same_gates = gates-are n xs ys job ok S q here ∙ ap₂ ◌++◌ alike same-flips ∙ sym (gates-are m xs' ys' job' ok' S r there)
    where
      alike : laid_on S (near_of n xs) one ≡ laid_on S (near_of m xs') two
      alike = cc (same-near, same-terms, same-sums, same-finals, same-mirrors)
