-- The circuit of a job that can be laid: its meaning, its couplers, its size. Assumes nothing.
use mathlib.Core.Path.{◌≡◌, refl, sym, ap, ◌∙◌}
use mathlib.Core.List.{List, [], ◌∷◌}
use Prim.Native.Nat.{ℕ, ◌+◌, ◌-◌, ◌*◌, ◌%◌, ◌≤◌, ◌<◌}
use native.Mathlib.Omega.{arith}
use lib.ListN.{length, get_or}
use Rattle.gates.specs.declared.gate.Gate.{Gate}
use Rattle.gates.specs.declared.gate.Gate.TheVariants.{Cnot, Rotation, X, Bad}
use Rattle.gates.specs.Layout.{gates_of, Good}
use Rattle.meaning.specs.Borne.{terms}
use Rattle.sets.specs.Lists.{All}
use Rattle.gates.specs.Listed.{OnCoupler}
use Rattle.meaning.specs.Same.{Alike, SameMeaning, Reachable}
use Rattle.tallies.specs.Tally.{tally, one_cnot, one_rotation, cnots_of, rotations_of, xs_of, bound_of}
use Rattle.sets.proofs.Lists.{all_map, all_append}
use Rattle.meaning.proofs.Bearing.{terms-few}
use Rattle.tallies.proofs.Tallies.{bound-most}
use Rattle.circuit.specs.Circuit.{run, start, given, sum_of}
use Rattle.circuit.specs.Flips.{flip_run, no_flips, flip_of}
use Rattle.circuit.specs.Phase.{phase_of, phases}
use Rattle.circuit.proofs.Circuits.{final-is}
use Rattle.circuit.proofs.Wiring.{good-up}
use Rattle.circuit.proofs.Flips.{flip_is, Flips, flips-run, flips-none}
use Rattle.circuit.proofs.Sums.{sum-small}
use Rattle.circuit.proofs.Phases.{phase-small}
use Rattle.circuit.proofs.Quiet.{Quiet, sum_is, phase-none}
use Rattle.flips.specs.Xs.{xs_on}
use Rattle.flips.proofs.Xs.{xs-all}
use Rattle.chip.specs.Couplers.{near_of}
use Rattle.isles.specs.Islands.{island_of}
use Rattle.chip.specs.Inside.{Inside}
use Rattle.share.specs.Own.{own_sets}
use Rattle.laying.specs.Islands.{laid_to}
use Rattle.laying.specs.Laid.{on_island, with_flips, laid_of}
use Rattle.laying.specs.Layable.{Layable}
use Rattle.ways.specs.Memory.{FitsMemory}
use Rattle.laying.specs.Answers.{circuit_of}
use Rattle.laying.specs.Demands.{xs_at}
use Rattle.laying.proofs.Parting.{Parts}
use Rattle.laying.proofs.Composing.{laid-all}
use Rattle.laying.proofs.Counting.{tally-laid, over-ext}
use Rattle.laying.proofs.Job.{parts, island-good, island-coupled, finals-same, sums-given, laid-rotations, laid-cnots}
use Rattle.laying.proofs.Both.{island-lays, island-placed}
use Rattle.laying.proofs.Flipping.{behind-tally, laid-run, laid-given, laid-flips, laid-quiet}
use Rattle.laying.proofs.FlipCounts.{laid-xs, laid-xs-at}

-- a good gate is a CNOT, a rotation or an X
good_length : (n : ℕ) (gs : List Gate) → All (Good n) gs → length gs ≡ cnots_of gs + rotations_of gs + xs_of gs
unfolding All Good cnots_of rotations_of xs_of tally
good_length n [] a = omega arith
good_length n (Cnot c t ∷ gs) a = omega (arith, good_length n gs a.1)
good_length n (Rotation q x ∷ gs) a = omega (arith, good_length n gs a.1)
good_length n (X q ∷ gs) a = omega (arith, good_length n gs a.1)
good_length n (Bad ∷ gs) a = absurd a.0

module _ (n : ℕ) (xs ys : List ℕ) (job : Layable n xs ys) where
  abbrev gs : List Gate
  gs = gates_of n ys

  abbrev C : List Gate
  C = circuit_of n xs ys

  abbrev isl : ℕ → ℕ
  isl = island_of (near_of n xs)

  abbrev P : Parts n isl
  P = parts n xs job.few

  -- what each island gets, and all of that without its X gates
  abbrev plain : ℕ → List Gate
  plain q = on_island (near_of n xs) gs q

  abbrev I : List Gate
  I = laid_to isl plain n

  abbrev asked : List ℕ
  asked = flip_run gs no_flips

  flips : Flips asked
  flips = flips-run gs no_flips flips-none

  abbrev nears : ℕ → List ℕ
  nears q = own_sets (isl q) (near_of n xs)

  inside : (q : ℕ) → q < n → All (Inside (nears q) (isl q)) (plain q)
  inside q l = (island-placed n xs ys job q l).inside

  -- ---- meaning

  pub circuit-quiet : Quiet C no_flips
  unfolding circuit_of laid_of with_flips
  circuit-quiet = laid-quiet n isl job.few P plain asked flips nears inside

  circuit-run : run C start ≡ run I start
  unfolding circuit_of laid_of with_flips
  circuit-run = laid-run n isl job.few P plain asked start n

  circuit-given : (p : ℕ) → given p C start ≡ sum_of p gs
  unfolding circuit_of laid_of with_flips
  circuit-given p =
      laid-given n isl job.few P plain asked p start n ∙ sums-given n xs gs job.few job.good job.fit job.within plain (island-lays n xs ys job) (island-placed n xs ys job) p

  circuit-flips : (i : ℕ) → i < n → get_or (flip_run C no_flips) i 0 ≡ get_or asked i 0
  unfolding circuit_of laid_of with_flips
  circuit-flips = laid-flips n isl job.few P plain asked flips nears inside

  pub circuit-alike : Alike n gs C
  circuit-alike = record {
    finals = λ i h. finals-same n xs gs job.few job.good job.fit job.within plain (island-lays n xs ys job) (island-placed n xs ys job) i h
        ∙ final-is I i ∙ sym (final-is C i ∙ ap (λ (W : List ℕ). get_or W i 0) circuit-run);
    flips = λ i h. flip_is gs i ∙ sym (flip_is C i ∙ circuit-flips i h);
    sums = λ p. sym (sum_is p C circuit-quiet ∙ ap (λ (m : ℕ). m % 65536) (circuit-given p) ∙ omega (arith, sum-small p gs));
  }

  pub circuit-phase : phase_of C ≡ 0
  circuit-phase = phase-none C circuit-quiet

  pub circuit-same : SameMeaning n (phase_of gs) gs C
  circuit-same = record { alike = circuit-alike; phase = returned }
    where
      returned : phase_of gs ≡ phases (phase_of C) (phase_of gs)
      returned = unfold phases in omega (arith, circuit-phase, phase-small gs)

  -- ---- gates

  circuit-all : (R : Gate → Type 0) → ((q : ℕ) → q < n → All R (plain q)) → ((i : ℕ) → i < n → R (X i)) → All R C
  unfolding circuit_of laid_of with_flips
  circuit-all R h x =
      laid-all n isl job.few P (with_flips (near_of n xs) gs) R
      (λ q l e. all_append R (plain q) (xs_on (isl q) asked) (h q l) (xs-all (isl q) asked R (λ k m. x k (P.small q k l m)))) n (omega arith)

  pub circuit-good : All (Good n) C
  circuit-good =
      circuit-all (Good n) (island-good n xs gs job.few job.good job.fit job.within plain (island-lays n xs ys job) (island-placed n xs ys job)) (λ i l. unfold Good in l)

  pub circuit-coupled : All (OnCoupler xs) C
  circuit-coupled =
      circuit-all (OnCoupler xs) (island-coupled n xs gs job.few job.good job.fit job.within plain (island-lays n xs ys job) (island-placed n xs ys job)) (λ i l. unfold OnCoupler in tt)

  pub circuit-reaches : Reachable n xs gs
  circuit-reaches = record { circuit = C; good = circuit-good; coupled = circuit-coupled; same = circuit-alike }

  -- ---- counts

  circuit-tally : (f : Gate → ℕ) → ((q : ℕ) → f (X q) ≡ 0) → tally f C ≡ tally f I
  unfolding circuit_of laid_of with_flips
  circuit-tally f z =
      tally-laid n isl job.few P f (with_flips (near_of n xs) gs) n
      ∙ over-ext n isl job.few P (λ q. tally f (with_flips (near_of n xs) gs q)) (λ q. tally f (plain q)) (λ q l e. behind-tally (isl q) asked (plain q) f z)
      ∙ sym (tally-laid n isl job.few P f plain n)

  pub circuit-rotations : rotations_of C ≡ length (terms gs)
  unfolding rotations_of
  circuit-rotations =
      circuit-tally one_rotation (λ q. refl) ∙ laid-rotations n xs gs job.few job.good job.fit job.within plain (island-lays n xs ys job) (island-placed n xs ys job)

  pub circuit-cnots : cnots_of C ≤ 2 * (n - 1) * length (terms gs) + 2 * n * (n - 1)
  unfolding cnots_of
  circuit-cnots =
      omega (arith, circuit-tally one_cnot (λ q. refl), laid-cnots n xs gs job.few job.good job.fit job.within plain (island-lays n xs ys job) (island-placed n xs ys job))

  pub circuit-xs : xs_of C ≤ n
  unfolding circuit_of laid_of with_flips
  circuit-xs = laid-xs n isl job.few P plain asked nears inside

  pub circuit-xs-at : (i : ℕ) → i < n → xs_at i C ≡ flip_of gs i
  unfolding circuit_of laid_of with_flips
  circuit-xs-at i h = laid-xs-at n isl job.few P plain asked nears inside flips i h ∙ sym (flip_is gs i)

  pub circuit-bounded : length C ≤ bound_of n (length (terms gs))
  unfolding bound_of
  circuit-bounded = omega (arith, good_length n C circuit-good, circuit-rotations, circuit-cnots, circuit-xs)

  pub circuit-fits : FitsMemory C
  circuit-fits = record {
    few = omega (arith, circuit-bounded, bound-most n (length (terms gs)) job.few (omega (arith, terms-few gs, job.fit)));
    good = all_map (Good n) (Good 20) (λ g h. good-up n 20 g job.few h) C circuit-good;
  }
