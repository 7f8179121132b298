-- The loop that counts the stretches: what is counted already, and what is still to come. Assumes nothing.
use mathlib.Core.Path.{◌≡◌, sym, ap, ap₂, ◌∙◌, subst}
use mathlib.Core.List.{List, [], ◌∷◌, ◌++◌, map-append}
use Prim.Native.Nat.{ℕ, ◌+◌, ◌*◌, ◌≤◌, ◌<◌}
use native.Mathlib.Omega.{arith}
use native.Mathlib.Decide.{dec_lt}
use lib.ListN.{length, get_or, replicate, length-map}
use Rattle.gates.specs.declared.gate.Gate.{Gate}
use Rattle.gates.specs.declared.gate.Gate.TheVariants.{Bad}
use Rattle.gates.specs.Limits.{most_qubits, most_gates}
use Rattle.gates.specs.Layout.{gate_of, gates_of, record_of}
use Rattle.gates.proofs.Hadamards.{hadamard-bad}
use Rattle.verdicts.specs.Verdicts.{Verdict, number_of}
use Rattle.tallies.specs.Tally.{tally, one_cnot, one_rotation, cnots_of, rotations_of, layered, layers_from, layers_after, highest, depth_of, bound_of, largest}
use Rattle.tallies.proofs.Tallies.{cnots-append, rotations-append, cnots-most, rotations-most}
use Rattle.tallies.proofs.DepthLaws.{highest-layers}
use Rattle.tallies.proofs.InParts.{layers-append, after-fits}
use Rattle.laying.specs.Answers.{circuit_of}
use Rattle.laying.proofs.Demands.{demand-2-fits}
use Rattle.sets.specs.Lists.{All}
use Rattle.stretches.specs.Stretches.{stretches_of, end_at, stretch_at, rest_from}
use Rattle.stretches.specs.Tests.{judged_stretches}
use Rattle.stretches.specs.Asked.{Accepts}
use Rattle.stretches.specs.Laid.{stretch_records, job_records}
use Rattle.stretches.specs.Parts.{hadamard_at, part_at, laid_from}
use Rattle.sets.proofs.Lists.{all_head, all_tail}
use Rattle.stretches.proofs.Going.{rest-start, behind-some, behind-none, end-hadamard}
use Rattle.stretches.proofs.Judging.{lent-step, lent-within}
use Rattle.stretches.proofs.Records.{stretch-gates}
use Rattle.stretches.proofs.Parting.{parts_all, parts_none, parts-step}
use Rattle.lines.specs.Lines.{counts_text}
use Rattle.console.specs.Printed.{most_printed, refusal_of, counted_job}
use Rattle.console.proofs.Choosing.{unless-passed, unless-refused}
use Rattle.console.proofs.Whole.{counts-fits}

-- a Hadamard is no CNOT and no rotation, and takes no layer
behind-quiet : (n : ℕ) (xs : List ℕ) (k : ℕ) → k ≤ length xs → (cnots_of (gates_of n (hadamard_at n xs k)) ≡ 0) × (rotations_of (gates_of n (hadamard_at n xs k)) ≡ 0)
    × ((L : List ℕ) → layers_from (gates_of n (hadamard_at n xs k)) L ≡ L)
unfolding cnots_of rotations_of tally layers_from layered
behind-quiet n xs k l = go (dec_lt (end_at n xs k) (length xs))
  where
    go : Dec (end_at n xs k < length xs) → (tally one_cnot (gates_of n (hadamard_at n xs k)) ≡ 0) × (tally one_rotation (gates_of n (hadamard_at n xs k)) ≡ 0)
        × ((L : List ℕ) → layers_from (gates_of n (hadamard_at n xs k)) L ≡ L)
    go (yes m) =
        let e : gates_of n (hadamard_at n xs k) ≡ Bad ∷ [] =
        ap (gates_of n) (behind-some n xs k l m) ∙ ap (λ (g : Gate). g ∷ []) (hadamard-bad n (get_or xs (end_at n xs k) 0) (end-hadamard n xs k l m)) in
        (ap (tally one_cnot) e, ap (tally one_rotation) e, λ L. ap (λ (gs : List Gate). layers_from gs L) e)
    go (no m) =
        let e : gates_of n (hadamard_at n xs k) ≡ [] = ap (gates_of n) (behind-none n xs k l (omega (arith, m))) in
        (ap (tally one_cnot) e, ap (tally one_rotation) e, λ L. ap (λ (gs : List Gate). layers_from gs L) e)

-- the counts of a stretch are no larger than the largest B
pub counts-few : (n : ℕ) (couplers s : List ℕ) → Accepts n couplers s → (cnots_of (circuit_of n couplers s) ≤ largest) × (rotations_of (circuit_of n couplers s) ≤ largest)
counts-few n couplers s a =
    (omega (arith, cnots-most (circuit_of n couplers s), demand-2-fits n couplers s largest a), omega (arith, rotations-most (circuit_of n couplers s), demand-2-fits n couplers s largest a))

module _ (n : ℕ) (couplers xs : List ℕ) where
  abbrev G : List Gate
  G = gates_of n (job_records n couplers xs)

  abbrev later : ℕ → List Gate
  later k = gates_of n (laid_from n couplers xs k)

  abbrev none : List ℕ
  none = replicate most_qubits 0

  pub record CountingStretches (k c t : ℕ) (L : List ℕ) : Type 0 where
    pub within : k ≤ length xs + 1
    pub accepts : All (Accepts n couplers) (rest_from n xs k)
    pub cnots : c + cnots_of (later k) ≡ cnots_of G
    pub rotations : t + rotations_of (later k) ≡ rotations_of G
    pub layers : layers_from (later k) L ≡ layers_from G none
    pub few : (c ≤ largest * k) × (t ≤ largest * k) × (highest L ≤ largest * k)

  pub counting-none : All (Accepts n couplers) (stretches_of n xs) → (L : List ℕ) → L ≡ none → CountingStretches 0 0 0 L
  unfolding highest
  counting-none a L e = record {
    within = omega arith;
    accepts = subst (All (Accepts n couplers)) (sym (rest-start n xs)) a;
    cnots = omega (arith, ap (λ (x : List ℕ). cnots_of (gates_of n x)) (parts_all n couplers xs));
    rotations = omega (arith, ap (λ (x : List ℕ). rotations_of (gates_of n x)) (parts_all n couplers xs));
    layers = ap (λ (x : List ℕ). layers_from (gates_of n x) L) (parts_all n couplers xs) ∙ ap (layers_from G) e;
    few = (omega arith, omega arith, omega (arith, ap highest e));
  }

  pub counting-end : (k c t : ℕ) (L : List ℕ) → length xs < k → CountingStretches k c t L → (c ≡ cnots_of G) × (t ≡ rotations_of G) × (highest L ≡ depth_of G)
  unfolding cnots_of rotations_of tally layers_from depth_of
  counting-end k c t L l r =
      let e : later k ≡ [] = ap (gates_of n) (parts_none n couplers xs k l) in (
        omega (arith, r.cnots, ap (tally one_cnot) e),
        omega (arith, r.rotations, ap (tally one_rotation) e),
        ap highest (sym (ap (λ (gs : List Gate). layers_from gs L) e) ∙ r.layers),
      )

  module _ (k c t : ℕ) (L : List ℕ) (r : CountingStretches k c t L) (l : k ≤ length xs) (s : List ℕ) (e : s ≡ stretch_at n xs k) where
    abbrev next : ℕ
    next = k + length s + 1

    abbrev S : List Gate
    S = gates_of n (stretch_records n couplers s)

    abbrev H : List Gate
    H = gates_of n (hadamard_at n xs k)

    all : All (Accepts n couplers) (s ∷ rest_from n xs next)
    all = subst (All (Accepts n couplers)) (lent-step n xs k s e l) r.accepts

    pub counting-accepts : Accepts n couplers s
    counting-accepts = all_head (Accepts n couplers) s (rest_from n xs next) all

    later-step : later k ≡ (S ++ H) ++ later next
    unfolding part_at
    later-step =
        ap (gates_of n) (parts-step n couplers xs k l ∙ ap (λ (u : List ℕ). (stretch_records n couplers u ++ hadamard_at n xs k) ++ laid_from n couplers xs (k + length u + 1)) (sym e))
        ∙ map-append (gate_of n) (stretch_records n couplers s ++ hadamard_at n xs k) (laid_from n couplers xs next)
        ∙ ap (λ (x : List Gate). x ++ later next) (map-append (gate_of n) (stretch_records n couplers s) (hadamard_at n xs k))

    short : length S ≤ largest
    unfolding bound_of
    short = omega (arith, length-map (stretch_records n couplers s) (gate_of n), length-map (circuit_of n couplers s) record_of, demand-2-fits n couplers s largest counting-accepts)

    cnots-step : cnots_of (later k) ≡ cnots_of S + cnots_of (later next)
    cnots-step = omega (arith, ap cnots_of later-step, cnots-append (S ++ H) (later next), cnots-append S H, (behind-quiet n xs k l).0)

    rotations-step : rotations_of (later k) ≡ rotations_of S + rotations_of (later next)
    rotations-step = omega (arith, ap rotations_of later-step, rotations-append (S ++ H) (later next), rotations-append S H, (behind-quiet n xs k l).1)

    layers-step : layers_from (later next) (layers_from S L) ≡ layers_from (later k) L
    layers-step =
        sym (ap (λ (gs : List Gate). layers_from gs L) later-step ∙ layers-append (S ++ H) (later next) L
        ∙ ap (layers_from (later next)) (layers-append S H L ∙ (behind-quiet n xs k l).2 (layers_from S L)))

    module _ (most : length xs ≤ most_gates) where
      pub counting-fits : (c + largest ≤ 18446744073709551615) × (t + largest ≤ 18446744073709551615)
      unfolding bound_of
      counting-fits = (omega (arith, r.few.0, l, most), omega (arith, r.few.1, l, most))

      module _ (c' t' : ℕ) (L' : List ℕ) (a : c' ≡ c + cnots_of (circuit_of n couplers s)) (b : t' ≡ t + rotations_of (circuit_of n couplers s)) (d : L' ≡ layers_after S L) where
        same : S ≡ circuit_of n couplers s
        same = stretch-gates n couplers s largest counting-accepts

        layers-are : L' ≡ layers_from S L
        unfolding bound_of
        layers-are = d ∙ after-fits S L (omega (arith, r.few.2, short, l, most))

        pub counting-next : CountingStretches next c' t' L'
        unfolding bound_of
        counting-next = record {
          within = omega (arith, lent-within n xs k s e l);
          accepts = all_tail (Accepts n couplers) s (rest_from n xs next) all;
          cnots = omega (arith, r.cnots, cnots-step, a, ap cnots_of same);
          rotations = omega (arith, r.rotations, rotations-step, b, ap rotations_of same);
          layers = ap (layers_from (later next)) layers-are ∙ layers-step ∙ r.layers;
          few = (
            omega (arith, r.few.0, a, ap cnots_of same, cnots-most S, short),
            omega (arith, r.few.1, b, ap rotations_of same, rotations-most S, short),
            omega (arith, r.few.2, ap highest layers-are, highest-layers S L, short),
          );
        }

-- ---- the line

module _ (n : ℕ) (couplers gates : List ℕ) where
  pub counted-refused : (v : Verdict) → v ≡ judged_stretches n couplers gates → (number_of (judged_stretches n couplers gates) ≡ 0 → ⊥) → refusal_of v ≡ counted_job n couplers gates
  unfolding counted_job
  counted-refused v e ne = ap refusal_of e ∙ unless-refused (judged_stretches n couplers gates) _ ne

  module _ (z : number_of (judged_stretches n couplers gates) ≡ 0) (c t d : ℕ) (a : c ≡ cnots_of (G n couplers gates)) (b : t ≡ rotations_of (G n couplers gates)) (e : d ≡ depth_of (G n couplers gates)) where
    the-counts : counts_text c t d ≡ counts_text (cnots_of (G n couplers gates)) (rotations_of (G n couplers gates)) (depth_of (G n couplers gates))
    the-counts = ap (λ (i : ℕ). counts_text i t d) a ∙ ap₂ (counts_text (cnots_of (G n couplers gates))) b e

    pub counted-fits : length (counts_text c t d) ≤ most_printed
    counted-fits = omega (arith, ap length the-counts, counts-fits n couplers gates z)

    pub counted-text : counts_text c t d ≡ counted_job n couplers gates
    unfolding counted_job
    counted-text = the-counts ∙ unless-passed (judged_stretches n couplers gates) _ z
