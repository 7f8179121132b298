-- A job without Hadamards gets word for word what it gets as a single stretch. Assumes nothing.
use mathlib.Core.Path.{◌≡◌, refl, sym, ap, ap₂, ◌∙◌, subst}
use mathlib.Core.Bool.{Bool, false}
use mathlib.Core.List.{List, [], ◌∷◌, ◌++◌, map}
use Prim.Native.Nat.{ℕ, ◌+◌, ◌<◌}
use native.Mathlib.Omega.{arith}
use lib.Dec.{eqb, ltb}
use lib.ListN.{length, get_or, drop, length-map}
use borrow.Author.Tests.{eq-eqb}
use Rattle.std.specs.Prelude.{Ok, Err}
use Rattle.sets.specs.Pick.{pick}
use Rattle.gates.specs.declared.gate.Gate.{Gate}
use Rattle.gates.specs.Layout.{gate_of, gates_of, record_of}
use Rattle.gates.specs.Hadamards.{is_hadamard}
use Rattle.verdicts.specs.declared.verdict.Refusal.TheVariants.{ManyParities, Room}
use Rattle.verdicts.specs.Verdicts.{Verdict, number_of, judged_qubits, judged_couplers, judged_gates}
use Rattle.verdicts.specs.InOrder.{and_then}
use Rattle.verdicts.proofs.Judged.{then-assoc, then-accepted}
use Rattle.verdicts.proofs.Passing.{drawn-gates}
use Rattle.circuit.specs.Phase.{phase_of, phases}
use Rattle.circuit.proofs.Phases.{phase-small}
use Rattle.meaning.specs.Borne.{over_at, terms}
use Rattle.tallies.specs.Tally.{bound_of}
use Rattle.chip.specs.Couplers.{near_of}
use Rattle.isles.specs.Islands.{islands_of}
use Rattle.judging.specs.Tests.{judged_count, judged_parities, judged_reach, judged_room, judged_meaning, verdict_of, verdict_on}
use Rattle.laying.proofs.Going.{going}
use Rattle.laying.specs.Answers.{circuit_of, counts_of, answered, output_of}
use Rattle.sets.specs.Lists.{All}
use Rattle.stretches.specs.Cut.{weave}
use Rattle.stretches.specs.Stretches.{stretches_of, hadamards_of}
use Rattle.stretches.specs.Tests.{judged_five, judged_parities_at, judged_parities_from, judged_reach_from, judged_reaches, bounds_of, job_bound, judged_bound, judged_stretches, job_verdict}
use Rattle.stretches.specs.Laid.{stretch_records, job_records, phases_of, job_phase, job_answered, job_output}
use Rattle.sets.proofs.Lists.{all_head, all-place}
use Rattle.stretches.proofs.Cutting.{cut-false}
use Rattle.stretches.proofs.Passing.{none-one}
use Rattle.stretches.proofs.Records.{stretch-gates}

module _ (n : ℕ) (couplers gates : List ℕ) (none : hadamards_of n gates ≡ []) where
  abbrev gs : List Gate
  gs = gates_of n gates

  abbrev isls : List ℕ
  isls = islands_of (near_of n couplers)

  abbrev circuit : List Gate
  circuit = circuit_of n couplers gates

  one : stretches_of n gates ≡ gates ∷ []
  one = none-one n gates (ap length none)

  -- ---- what is laid

  -- its records are those of its circuit
  pub one-records : job_records n couplers gates ≡ map record_of circuit
  unfolding job_records weave
  one-records = ap₂ (λ (ss : List (List ℕ)) (hs : List ℕ). weave (map (stretch_records n couplers) ss) hs) one none

  -- its common phase is that of its gates
  pub one-phase : job_phase n gates ≡ phase_of gs
  unfolding job_phase phases_of phases
  one-phase = ap (phases_of n) one ∙ omega (arith, phase-small gs)

  -- ---- test by test

  -- no record is a Hadamard
  between : (k : ℕ) → k < length gates → is_hadamard n (get_or gates k 0) ≡ false
  unfolding stretches_of
  between k l =
      all-place (λ x. is_hadamard n x ≡ false) gates
      (all_head (All (λ x. is_hadamard n x ≡ false)) gates [] (subst (All (All (λ x. is_hadamard n x ≡ false))) one (cut-false (is_hadamard n) gates))) k l

  one-six : judged_parities_from n 0 (stretches_of n gates) ≡ judged_parities gs
  unfolding judged_parities_from judged_parities_at judged_parities
  one-six =
      ap (judged_parities_from n 0) one ∙ then-accepted (judged_parities_at n 0 gates)
      ∙ ap (λ (k : ℕ). pick (ltb (over_at gs) k) (Err (ManyParities (0 + over_at gs))) (Ok tt)) (sym (length-map gates (gate_of n)))
      ∙ ap (λ (k : ℕ). pick (ltb (over_at gs) (length gs)) (Err (ManyParities k)) (Ok tt)) (let z : 0 + over_at gs ≡ over_at gs = omega arith in z)

  one-seven : judged_reaches n couplers gates ≡ judged_reach n isls gs
  unfolding judged_reaches
  one-seven = ap (λ (b : Bool). pick b (judged_reach n isls gs) (judged_reach_from n isls 0 (stretches_of n gates))) (eq-eqb (length (hadamards_of n gates)) 0 (ap length none))

  one-eight : (room : ℕ) → judged_bound n gates room ≡ judged_room n gs room
  unfolding judged_bound judged_room job_bound bounds_of
  one-eight room =
      let e : bounds_of n (stretches_of n gates) + length (hadamards_of n gates) ≡ bound_of n (length (terms gs)) = omega (arith, ap (bounds_of n) one, ap length none) in
      ap (λ (k : ℕ). pick (ltb room k) (Err Room) (Ok tt)) e

  -- ---- all of them

  -- the same verdict: tests 1 to 8 are those of one stretch, with its place of 7
  pub one-verdict : (room : ℕ) → job_verdict n couplers gates room ≡ verdict_of n couplers gates room
  unfolding job_verdict judged_stretches judged_five verdict_of verdict_on judged_meaning
  one-verdict room =
      let q : Verdict = judged_qubits n in
      let c : Verdict = judged_couplers n couplers in
      let k : Verdict = judged_count gates in
      let g : Verdict = judged_gates n gates in
      let p : Verdict = judged_parities gs in
      let r : Verdict = judged_reach n isls gs in
      let m : Verdict = judged_room n gs room in
      let a : Verdict = and_then (judged_parities_from n 0 (stretches_of n gates)) (judged_reaches n couplers gates) in
      let l : Verdict = and_then q (and_then c (and_then k g)) in
      let left : and_then (and_then l (and_then p r)) m ≡ and_then l (and_then p (and_then r m)) = then-assoc l (and_then p r) m ∙ ap (and_then l) (then-assoc p r m) in
      let flat : and_then l (and_then p (and_then r m)) ≡ and_then q (and_then c (and_then k (and_then g (and_then p (and_then r m))))) =
      then-assoc q (and_then c (and_then k g)) (and_then p (and_then r m)) ∙ ap (and_then q) (then-assoc c (and_then k g) (and_then p (and_then r m)) ∙ ap (and_then c) (then-assoc k g (and_then p (and_then r m)))) in
      ap (λ (d : Verdict). and_then (and_then (and_then q (and_then c (and_then k d))) a) (judged_bound n gates room)) (drawn-gates n gates between)
      ∙ ap₂ (λ (v w : Verdict). and_then (and_then l v) w) (ap₂ and_then one-six one-seven) (one-eight room) ∙ left ∙ flat

  -- the same answer
  pub one_answer : (room : ℕ) → job_answered n couplers gates room ≡ answered n couplers gates room
  unfolding job_answered answered
  one_answer room =
      ap₂ (λ (v : Verdict) (f : ℕ). going v (counts_of (gates_of n (job_records n couplers gates)) f)) (one-verdict room) one-phase ∙ go v refl
    where
      v : Verdict
      v = verdict_of n couplers gates room

      go : (w : Verdict) → v ≡ w → going w (counts_of (gates_of n (job_records n couplers gates)) (phase_of gs)) ≡ going w (counts_of circuit (phase_of gs))
      go (Ok tt) e = ap (λ (hs : List Gate). Ok (counts_of hs (phase_of gs))) (ap (gates_of n) one-records ∙ stretch-gates n couplers gates room (ap number_of e))
      go (Err r) e = refl

  -- the same output
  pub one-output : (out : List ℕ) → job_output n couplers gates out ≡ output_of n couplers gates out
  unfolding job_output output_of
  one-output out =
      ap₂ (λ (v : Verdict) (R : List ℕ). pick (eqb (number_of v) 0) (R ++ drop (length R) out) out) (one-verdict (length out)) one-records
      ∙ ap (λ (k : ℕ). pick (eqb (number_of (verdict_of n couplers gates (length out))) 0) (map record_of circuit ++ drop k out) out) (length-map circuit record_of)
