-- The loop that lays the stretches: what is laid already, and what is still to come. Assumes nothing.
use mathlib.Core.Path.{◌≡◌, refl, sym, ap, ap₂, ◌∙◌, subst}
use mathlib.Core.List.{List, [], ◌∷◌, ◌++◌, append_assoc}
use Prim.Native.Nat.{ℕ, ◌+◌, ◌%◌, ◌≤◌, ◌<◌}
use native.Mathlib.Omega.{arith}
use lib.ListN.{length, length-append}
use lib.Seq.{sets, length-sets}
use Rattle.sets.proofs.Storing.{sets-append}
use Rattle.gates.specs.Layout.{gates_of}
use Rattle.circuit.specs.Phase.{phase_of, phases}
use Rattle.circuit.proofs.Phases.{phases-over}
use Rattle.sets.specs.Lists.{All}
use Rattle.stretches.specs.Stretches.{stretches_of, stretch_at, rest_from}
use Rattle.stretches.specs.Asked.{Accepts}
use Rattle.stretches.specs.Laid.{stretch_records, job_records, phases_of, job_phase}
use Rattle.stretches.specs.Parts.{hadamard_at, part_at, laid_from}
use Rattle.sets.proofs.Lists.{all_head, all_tail}
use Rattle.stretches.proofs.Going.{rest-start, rest-past}
use Rattle.stretches.proofs.Parting.{parts_all, parts_none, parts-step}
use Rattle.stretches.proofs.Judging.{lent-step, lent-within}

module _ (n : ℕ) (couplers xs : List ℕ) where
  abbrev J : List ℕ
  J = job_records n couplers xs

  abbrev later : ℕ → List ℕ
  later k = laid_from n couplers xs k

  pub record LayingJob (out₀ : List ℕ) (k : ℕ) (out : List ℕ) (at phase : ℕ) : Type 0 where
    pub within : k ≤ length xs + 1
    pub accepts : All (Accepts n couplers) (rest_from n xs k)
    pub size : length out ≡ length out₀
    pub place : at + length (later k) ≡ length J
    pub memory : sets out at (later k) ≡ sets out₀ 0 J
    pub small : phase < 131072
    pub due : phases phase (phases_of n (rest_from n xs k)) ≡ job_phase n xs

  pub phases-small : (ss : List (List ℕ)) → phases_of n ss < 131072
  unfolding phases_of phases
  phases-small [] = omega arith
  phases-small (s ∷ ss) = omega arith

  pub laying-none : (out : List ℕ) → All (Accepts n couplers) (stretches_of n xs) → LayingJob out 0 out 0 0
  unfolding job_phase phases
  laying-none out c = record {
    within = omega arith;
    accepts = subst (All (Accepts n couplers)) (sym (rest-start n xs)) c;
    size = refl;
    place = omega (arith, ap length (parts_all n couplers xs));
    memory = ap (sets out 0) (parts_all n couplers xs);
    small = omega arith;
    due = ap (λ (ss : List (List ℕ)). (0 + phases_of n ss) % 131072) (rest-start n xs) ∙ omega (arith, phases-small (stretches_of n xs));
  }

  pub laying-end : (out₀ : List ℕ) (k : ℕ) (out : List ℕ) (at phase : ℕ) → length xs < k → LayingJob out₀ k out at phase
      → (at ≡ length J) × (phase ≡ job_phase n xs) × (out ≡ sets out₀ 0 J)
  unfolding phases_of phases
  laying-end out₀ k out at phase l r =
      let e : later k ≡ [] = parts_none n couplers xs k l in
      let z : phases_of n (rest_from n xs k) ≡ 0 = ap (phases_of n) (rest-past n xs k l) in (
        omega (arith, r.place, ap length e),
        omega (arith, r.small, r.due, z),
        sym (ap (sets out at) e) ∙ r.memory,
      )

  module _ (out₀ : List ℕ) (k : ℕ) (out : List ℕ) (at phase : ℕ) (r : LayingJob out₀ k out at phase) (l : k ≤ length xs) (s : List ℕ) (e : s ≡ stretch_at n xs k) where
    abbrev L : List ℕ
    L = stretch_records n couplers s

    abbrev next : ℕ
    next = k + length s + 1

    all : All (Accepts n couplers) (s ∷ rest_from n xs next)
    all = subst (All (Accepts n couplers)) (lent-step n xs k s e l) r.accepts

    pub laying-accepts : Accepts n couplers s
    laying-accepts = all_head (Accepts n couplers) s (rest_from n xs next) all

    later-step : later k ≡ L ++ (hadamard_at n xs k ++ later next)
    unfolding part_at
    later-step =
        parts-step n couplers xs k l ∙ ap (λ (t : List ℕ). (stretch_records n couplers t ++ hadamard_at n xs k) ++ later (k + length t + 1)) (sym e)
        ∙ append_assoc L (hadamard_at n xs k) (later next)

    abbrev H : List ℕ
    H = hadamard_at n xs k

    later-length : length (later k) ≡ length L + (length H + length (later next))
    later-length = ap length later-step ∙ length-append L (H ++ later next) ∙ ap (λ (m : ℕ). length L + m) (length-append H (later next))

    -- both fit, where all does
    pub laying-fits : length J ≤ length out₀ → at + length L ≤ length out
    laying-fits f = omega (arith, f, r.place, r.size, later-length)

    pub behind-fits : length J ≤ length out₀ → (out' : List ℕ) → out' ≡ sets out at L → (h : List ℕ) → h ≡ H → (at' : ℕ) → at' ≡ at + length L → at' + length h ≤ length out'
    behind-fits f out' c h d at' g = omega (arith, f, r.place, r.size, later-length, ap length c, length-sets out at L, ap length d, g)

    module _ (share phase' : ℕ) (c : share ≡ phase_of (gates_of n s)) (d : phase' ≡ phases phase share) where
      due-next : phases phase' (phases_of n (rest_from n xs next)) ≡ job_phase n xs
      due-next =
          ap (λ (m : ℕ). phases m (phases_of n (rest_from n xs next))) (d ∙ ap (phases phase) c) ∙ phases-over phase (phase_of (gates_of n s)) (phases_of n (rest_from n xs next))
          ∙ ap (phases phase) (sym (ap (phases_of n) (lent-step n xs k s e l) ∙ (unfold phases_of in refl))) ∙ r.due

      phase-small : phase' < 131072
      unfolding phases
      phase-small = omega (arith, d)

      module _ (out' out'' : List ℕ) (at' at'' : ℕ) (h : List ℕ) (hd : h ≡ H) (a : out' ≡ sets out at L) (b : at' ≡ at + length L) (a' : out'' ≡ sets out' at' h) (b' : at'' ≡ at' + length h) where
        pub laying-next : LayingJob out₀ next out'' at'' phase'
        laying-next = record {
          within = omega (arith, lent-within n xs k s e l);
          accepts = all_tail (Accepts n couplers) s (rest_from n xs next) all;
          size = ap length a' ∙ length-sets out' at' h ∙ ap length a ∙ length-sets out at L ∙ r.size;
          place = omega (arith, r.place, later-length, b, b', ap length hd);
          memory =
              let R : List ℕ = later next in
              ap₂ (λ (o : List ℕ) (p : ℕ). sets o p R) a' b' ∙ sym (sets-append out' at' h R) ∙ ap (λ (x : List ℕ). sets out' at' (x ++ R)) hd
              ∙ ap₂ (λ (o : List ℕ) (p : ℕ). sets o p (H ++ R)) a b ∙ sym (sets-append out at L (H ++ R)) ∙ ap (sets out at) (sym later-step) ∙ r.memory;
          small = phase-small;
          due = due-next;
        }
