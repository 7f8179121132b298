-- The three demands of a job, of `job_answered` and `job_output`, which the contract of `stretches::job::lay_job` ties to the program. Assumes nothing.
use mathlib.Core.Path.{◌≡◌, refl, sym, ap, ap₂, ◌∙◌, subst}
use mathlib.Core.Logic.{◌≢◌}
use mathlib.Core.Bool.{Bool, true, false}
use mathlib.Core.List.{List, [], ◌∷◌, ◌++◌, map}
use Prim.Native.Nat.{ℕ, suc, ◌≤◌, ◌<◌}
use native.Mathlib.Omega.{arith}
use lib.ListN.{length, take, drop, length-map}
use lib.Seq.{take-append_seam}
use borrow.Author.Tests.{eq-eqb, ne_eqb}
use Rattle.sets.specs.Pick.{pick}
use Rattle.gates.specs.declared.gate.Gate.{Gate}
use Rattle.gates.specs.Layout.{gate_of, gates_of}
use Rattle.gates.specs.Hadamards.{is_hadamard}
use Rattle.verdicts.specs.Verdicts.{Verdict, number_of}
use Rattle.verdicts.specs.InOrder.{and_then}
use Rattle.verdicts.proofs.Judged.{then-stop, then-zero}
use Rattle.verdicts.proofs.Rows.{row-fails}
use Rattle.circuit.specs.Phase.{phase_of, phases}
use Rattle.meaning.specs.Same.{Alike}
use Rattle.tallies.specs.Tally.{cnots_of, rotations_of, depth_of, largest}
use Rattle.chip.specs.Couplers.{near_of}
use Rattle.laying.proofs.Going.{going-verdict, going-accepted, going-refused}
use Rattle.laying.specs.Answers.{Answer, counts_of, verdict_in, records_in, cnots_in, rotations_in, depth_in, phase_in}
use Rattle.laying.specs.Demands.{Island, FlipsLast, Agree}
use Rattle.laying.specs.Laid.{GoesOnIsland}
use Rattle.laying.proofs.Demands as laying
use Rattle.sets.specs.Lists.{All}
use Rattle.stretches.specs.Cut.{weave, Pairs}
use Rattle.stretches.specs.Stretches.{stretches_of, hadamards_of}
use Rattle.stretches.specs.Tests.{judged_five, judged_parities_from, judged_reaches, judged_stretches, job_verdict}
use Rattle.stretches.specs.Asked.{Accepts}
use Rattle.stretches.specs.Laid.{stretch_records, job_records, phases_of, job_phase, job_answered, job_output, job_laid}
use Rattle.stretches.specs.Meaning.{AlikeJob, ReachableJob}
use Rattle.stretches.specs.Demands.{sum_of_shares, Faithfuls, FaithfulJob, AgreeJob, SameOn, records_on}
use Rattle.sets.proofs.Lists.{all_map, all-mapped, those-pass}
use Rattle.stretches.proofs.Paired.{pairs-both, pairs-mapped, pairs-self}
use Rattle.stretches.proofs.Weaving.{cut-size, cut-weave, those-weave}
use Rattle.stretches.proofs.Passing.{Passed, stretches-six, job-passed, job-bounded}
use Rattle.stretches.proofs.Answering.{judge-reaches, room-enough}
use Rattle.stretches.proofs.Laying.{phases-small}
use Rattle.stretches.proofs.Records.{stretch-between, stretch-faithful, stretch-flips-last}
use Rattle.stretches.proofs.Islands.{woven-same, stretch-same-gates, stretch-same-records}
use Rattle.stretches.proofs.Testing.{reaches-tests}
use Rattle.stretches.proofs.Rows.{job-rows}

-- ---- demand 1

module _ (n : ℕ) (couplers gates out : List ℕ) where
  abbrev answer : Answer
  answer = job_answered n couplers gates (length out)

  abbrev verdict : Verdict
  verdict = job_verdict n couplers gates (length out)

  abbrev records : List ℕ
  records = job_records n couplers gates

  abbrev laid : List Gate
  laid = gates_of n records

  abbrev phase : ℕ
  phase = job_phase n gates

  -- every job gets the answer of the first test that it fails, of 1 to 8 in that order, or is accepted
  pub demand-1-verdict : verdict_in answer ≡ verdict
  unfolding job_answered
  demand-1-verdict = going-verdict verdict (counts_of laid phase)

  -- "On refusal all counts are 0 and no lent record has changed"
  pub demand-1-refused : number_of verdict ≢ 0 → (records_in answer ≡ 0) × (cnots_in answer ≡ 0) × (rotations_in answer ≡ 0) × (depth_in answer ≡ 0) × (phase_in answer ≡ 0)
      × (job_output n couplers gates out ≡ out)
  unfolding job_answered job_output
  demand-1-refused ne =
      let none = going-refused verdict (counts_of laid phase) ne in
      (none.0, none.1, none.2, none.3, none.4, ap (λ (b : Bool). pick b (records ++ drop (length records) out) out) (ne_eqb (number_of verdict) 0 ne))

  -- "An acceptance returns the number of records, CNOTs, rotations and the depth; the first records of the output are the circuit and all later ones stay"; "the acceptance returns the sum"
  -- of the common phases
  pub demand-1-accepted : number_of verdict ≡ 0
      → (records_in answer ≡ length records) × (cnots_in answer ≡ cnots_of laid) × (rotations_in answer ≡ rotations_of laid) × (depth_in answer ≡ depth_of laid)
      × (phase_in answer ≡ phase) × (job_output n couplers gates out ≡ records ++ drop (length records) out)
  unfolding job_answered job_output counts_of
  demand-1-accepted z =
      let said = going-accepted verdict (counts_of laid phase) z in (
        ap records_in said ∙ length-map records (gate_of n),
        ap cnots_in said,
        ap rotations_in said,
        ap depth_in said,
        ap phase_in said,
        ap (λ (b : Bool). pick b (records ++ drop (length records) out) out) (eq-eqb (number_of verdict) 0 z),
      )

  -- what was laid is the records
  pub records-are : number_of verdict ≡ 0 → job_laid n couplers gates out ≡ records
  records-are z = let a = demand-1-accepted z in ap₂ (λ (k : ℕ) (l : List ℕ). take k l) a.0 a.5 ∙ take-append_seam records (drop (length records) out)

-- ---- what was drawn and what is laid, stretch by stretch

-- an accepted job passed tests 1 to 7
pub accepted-passed : (n : ℕ) (couplers gates : List ℕ) (room : ℕ) → number_of (job_verdict n couplers gates room) ≡ 0 → Passed n couplers gates
unfolding job_verdict
accepted-passed n couplers gates room z = job-passed n couplers gates (then-zero (judged_stretches n couplers gates) _ z).0

module _ (n : ℕ) (couplers gates : List ℕ) (p : Passed n couplers gates) where
  -- what the stretches get: one piece more than there are Hadamards, and no Hadamard in any
  abbrev pieces : List (List ℕ)
  pieces = map (stretch_records n couplers) (stretches_of n gates)

  fitting : length pieces ≡ suc (length (hadamards_of n gates))
  unfolding stretches_of hadamards_of
  fitting = omega (arith, length-map (stretches_of n gates) (stretch_records n couplers), cut-size (is_hadamard n) gates)

  no-hadamards : All (All (λ x. is_hadamard n x ≡ false)) pieces
  no-hadamards = all-mapped (Accepts n couplers) (All (λ x. is_hadamard n x ≡ false)) (stretch_records n couplers) (λ s a. stretch-between n couplers s largest a) (stretches_of n gates) p.accepts

  -- every Hadamard drawn is one
  pub all-hadamards : All (λ x. is_hadamard n x ≡ true) (hadamards_of n gates)
  unfolding hadamards_of
  all-hadamards = those-pass (is_hadamard n) gates

  -- the stretches of the records laid are what the stretches drawn got
  pub laid-stretches : stretches_of n (job_records n couplers gates) ≡ map (stretch_records n couplers) (stretches_of n gates)
  unfolding stretches_of job_records
  laid-stretches = cut-weave (is_hadamard n) pieces (hadamards_of n gates) fitting no-hadamards all-hadamards

  -- and their Hadamards are the Hadamards drawn
  pub laid-hadamards : hadamards_of n (job_records n couplers gates) ≡ hadamards_of n gates
  unfolding hadamards_of job_records
  laid-hadamards = those-weave (is_hadamard n) pieces (hadamards_of n gates) fitting no-hadamards all-hadamards

-- ---- demand 2

module _ (n : ℕ) (couplers : List ℕ) where
  abbrev shares_of : List (List ℕ) → List ℕ
  shares_of ss = map (λ s. phase_of (gates_of n s)) ss

  -- the shares together are the common phase of the stretches
  shares_sum : (ss : List (List ℕ)) → sum_of_shares (shares_of ss) ≡ phases_of n ss
  unfolding sum_of_shares phases_of
  shares_sum [] = refl
  shares_sum (s ∷ ss) = ap (phases (phase_of (gates_of n s))) (shares_sum ss)

  -- demand 2 of each stretch
  faithfuls : (ss : List (List ℕ)) → All (Accepts n couplers) ss → Faithfuls n couplers (shares_of ss) ss (map (stretch_records n couplers) ss)
  unfolding Faithfuls All
  faithfuls [] a = tt
  faithfuls (s ∷ ss) a = (stretch-faithful n couplers s largest a.0, faithfuls ss a.1)

  -- what is laid has no common phase of its own
  silent : (ss : List (List ℕ)) → All (Accepts n couplers) ss → phases_of n (map (stretch_records n couplers) ss) ≡ 0
  unfolding phases_of phases All
  silent [] a = refl
  silent (s ∷ ss) a = omega (arith, (stretch-faithful n couplers s largest a.0).phaseless, silent ss a.1)

  module _ (gates : List ℕ) (p : Passed n couplers gates) where
    abbrev drawn : List (List ℕ)
    drawn = stretches_of n gates

    -- the same meaning, common phases aside
    laid-alike : AlikeJob n gates (job_records n couplers gates)
    laid-alike = record {
      hadamards = sym (laid-hadamards n couplers gates p);
      stretches = subst (Pairs (λ s t. Alike n (gates_of n s) (gates_of n t)) drawn) (sym (laid-stretches n couplers gates p))
          (pairs-self (Accepts n couplers) (stretch_records n couplers) (λ s t. Alike n (gates_of n s) (gates_of n t)) (λ s a. (stretch-faithful n couplers s largest a).same.alike) drawn p.accepts);
    }

    -- the common phase
    laid-phase : job_phase n gates ≡ phases (job_phase n (job_records n couplers gates)) (job_phase n gates)
    unfolding job_phase phases
    laid-phase = omega (arith, ap (phases_of n) (laid-stretches n couplers gates p), silent drawn p.accepts, phases-small n couplers gates drawn)

    -- all of demand 2
    pub laid-faithful : FaithfulJob n couplers (job_phase n gates) gates (job_records n couplers gates)
    laid-faithful = record {
      same = record { alike = laid-alike; phase = laid-phase };
      shares = shares_of drawn;
      summed = unfold job_phase in shares_sum drawn;
      stretches = subst (Faithfuls n couplers (shares_of drawn) drawn) (sym (laid-stretches n couplers gates p)) (faithfuls drawn p.accepts);
      bound = job-bounded n couplers gates p;
    }

  -- the records laid have the meaning of the job, with the Hadamards drawn; each stretch is on the couplers and within its bound, with its share of the phase returned; together they are
  -- within B
  pub demand-2 : (gates : List ℕ) (room : ℕ) → number_of (job_verdict n couplers gates room) ≡ 0
      → FaithfulJob n couplers (phase_in (job_answered n couplers gates room)) gates (job_records n couplers gates)
  demand-2 gates room z =
      subst (λ (f : ℕ). FaithfulJob n couplers f gates (job_records n couplers gates)) (sym returned) (laid-faithful gates (accepted-passed n couplers gates room z))
    where
      returned : phase_in (job_answered n couplers gates room) ≡ job_phase n gates
      returned =
          unfold job_answered counts_of in ap phase_in (going-accepted (job_verdict n couplers gates room) (counts_of (gates_of n (job_records n couplers gates)) (job_phase n gates)) z)

  -- in each stretch the X gates of each island stand behind its other gates, by ascending qubit
  pub demand-2-flips-last : (gates : List ℕ) (room : ℕ) → number_of (job_verdict n couplers gates room) ≡ 0
      → (S q : ℕ) → Island n couplers S q → All (λ s. FlipsLast S (gates_of n s)) (stretches_of n (job_records n couplers gates))
  demand-2-flips-last gates room z S q island =
      let p = accepted-passed n couplers gates room z in
      subst (All (λ s. FlipsLast S (gates_of n s))) (sym (laid-stretches n couplers gates p))
      (all-mapped (Accepts n couplers) (λ s. FlipsLast S (gates_of n s)) (stretch_records n couplers) (λ s a. stretch-flips-last n couplers s largest a S q island) (stretches_of n gates) p.accepts)

  -- B is never exceeded: the records fit the room lent
  pub demand-2-fits : (gates : List ℕ) (room : ℕ) → number_of (job_verdict n couplers gates room) ≡ 0 → length (job_records n couplers gates) ≤ room
  unfolding job_verdict
  demand-2-fits gates room z =
      omega (arith, job-bounded n couplers gates (accepted-passed n couplers gates room z), room-enough n couplers gates room (then-zero (judged_stretches n couplers gates) _ z).1)

  -- on each island of each stretch every base step has a spare qubit, and every ones step a neighbour to go on with
  pub demand-2-goes-on : (gates : List ℕ) (room : ℕ) → number_of (job_verdict n couplers gates room) ≡ 0 → (q : ℕ) → q < n → All (λ s. GoesOnIsland (near_of n couplers) (gates_of n s) q) (stretches_of n gates)
  demand-2-goes-on gates room z q l =
      all_map (Accepts n couplers) (λ s. GoesOnIsland (near_of n couplers) (gates_of n s) q) (λ s a. laying.demand-2-goes-on n couplers s largest a q l) (stretches_of n gates) (accepted-passed n couplers gates room z).accepts

  -- refused as unreachable only where some stretch has the meaning of no circuit of coupler CNOTs, rotations and X gates
  pub demand-2-unreachable : (gates : List ℕ) (room : ℕ) → number_of (job_verdict n couplers gates room) ≡ 7 → ReachableJob n couplers gates → ⊥
  demand-2-unreachable gates room e = ((job-rows n couplers gates room).row_7.exactly.0 e).1.1.1.1.1.1

  -- and wherever one has, past tests 1 to 6
  pub demand-2-refused : (gates : List ℕ) (room : ℕ) → number_of (and_then (judged_five n couplers gates) (judged_parities_from n 0 (stretches_of n gates))) ≡ 0
      → (ReachableJob n couplers gates → ⊥) → number_of (job_verdict n couplers gates room) ≡ 7
  unfolding job_verdict
  demand-2-refused gates room six none =
      let a = then-zero (judged_five n couplers gates) _ six in
      let e : number_of (judged_reaches n couplers gates) ≡ 7 = (row-fails (reaches-tests n couplers gates (stretches-six n couplers gates a.0 a.1))).exactly.1 none in
      let s : judged_reaches n couplers gates ≡ judged_stretches n couplers gates = judge-reaches n couplers gates a.0 a.1 in
      sym (ap number_of (s ∙ then-stop (judged_stretches n couplers gates) _ (λ z. omega (arith, e, ap number_of s, z)))) ∙ e

-- ---- demand 3

-- the same Hadamards, and in each stretch the same couplers, final parities, flips and sums of the island: the same gates on it in each stretch, and the same records in all
pub demand-3 : (n m : ℕ) (couplers couplers' gates gates' : List ℕ) (room room' : ℕ)
    → number_of (job_verdict n couplers gates room) ≡ 0 → number_of (job_verdict m couplers' gates' room') ≡ 0
    → (S q r : ℕ) → Island n couplers S q → Island m couplers' S r → AgreeJob S n m couplers couplers' gates gates'
    → Pairs (SameOn S n m) (stretches_of n (job_records n couplers gates)) (stretches_of m (job_records m couplers' gates'))
    × (records_on n S (job_records n couplers gates) ≡ records_on m S (job_records m couplers' gates'))
demand-3 n m couplers couplers' gates gates' room room' a b S q r i j agree = (
  subst (λ (x : List (List ℕ)). Pairs (SameOn S n m) x (stretches_of m (job_records m couplers' gates'))) (sym (laid-stretches n couplers gates p))
      (subst (Pairs (SameOn S n m) (pieces n couplers gates p)) (sym (laid-stretches m couplers' gates' p'))
      (paired (SameOn S n m) (λ s t x y g. stretch-same-gates n m S couplers couplers' q r i j s t x y g))),
  whole,
)
  where
    p : Passed n couplers gates
    p = accepted-passed n couplers gates room a

    p' : Passed m couplers' gates'
    p' = accepted-passed m couplers' gates' room' b

    AgreeOn : List ℕ → List ℕ → Type 0
    AgreeOn s t = Agree S couplers couplers' (gates_of n s) (gates_of m t)

    paired : (R : List ℕ → List ℕ → Type 0)
        → ((s t : List ℕ) → Accepts n couplers s → Accepts m couplers' t → AgreeOn s t → R (stretch_records n couplers s) (stretch_records m couplers' t))
        → Pairs R (pieces n couplers gates p) (pieces m couplers' gates' p')
    paired R f =
        pairs-mapped (stretch_records n couplers) (stretch_records m couplers') R (stretches_of n gates) (stretches_of m gates')
        (pairs-both (Accepts n couplers) (Accepts m couplers') AgreeOn (λ s t. R (stretch_records n couplers s) (stretch_records m couplers' t)) f (stretches_of n gates) (stretches_of m gates') p.accepts p'.accepts agree.stretches)

    whole : records_on n S (job_records n couplers gates) ≡ records_on m S (job_records m couplers' gates')
    whole = unfold job_records in
        woven-same n m S (pieces n couplers gates p) (pieces m couplers' gates' p') (hadamards_of n gates) (all-hadamards n couplers gates p)
        (subst (All (λ x. is_hadamard m x ≡ true)) (sym agree.hadamards) (all-hadamards m couplers' gates' p'))
        (paired (λ L M. records_on n S L ≡ records_on m S M) (λ s t x y g. stretch-same-records n m S couplers couplers' q r i j s t x y g))
        ∙ ap (λ (hs : List ℕ). records_on m S (weave (pieces m couplers' gates' p') hs)) agree.hadamards
