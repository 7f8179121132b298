-- The three demands, of `answered` and `output_of`, which the contract of `laying::lay::lay` ties to the program. Assumes nothing.
use mathlib.Core.Path.{◌≡◌, sym, ap, ap₂, ◌∙◌, subst}
use mathlib.Core.Logic.{◌≢◌, ◌⊎◌, inl, inr, ◌↔◌}
use mathlib.Core.Bool.{Bool}
use mathlib.Core.List.{List, ◌++◌, map}
use Prim.Native.Nat.{ℕ, ◌≤◌, ◌<◌}
use native.Mathlib.Omega.{arith}
use native.Mathlib.Decide.{ℕ_discrete}
use lib.ListN.{length, take, drop, length-map}
use lib.Seq.{take-append_seam}
use borrow.Author.Tests.{eq-eqb, ne_eqb}
use Rattle.std.specs.Prelude.{Ok}
use Rattle.sets.specs.Pick.{pick}
use Rattle.gates.specs.declared.gate.Gate.{Gate}
use Rattle.gates.specs.Layout.{gates_of, record_of, Good}
use Rattle.meaning.specs.Borne.{over_at}
use Rattle.sets.specs.Lists.{All}
use Rattle.meaning.specs.Same.{SameMeaning, Reachable}
use Rattle.circuit.specs.Phase.{phase_of}
use Rattle.tallies.specs.Tally.{cnots_of, rotations_of, depth_of}
use Rattle.verdicts.specs.Verdicts.{Verdict, number_of, place_of, judged_qubits, judged_couplers, judged_gates}
use Rattle.verdicts.specs.InOrder.{and_then}
use Rattle.verdicts.proofs.Judged.{zero-accepted, then-on, then-stop, then-zero}
use Rattle.verdicts.proofs.Passing.{accepted-good}
use Rattle.verdicts.proofs.Rows.{Tests, row-fails}
use Rattle.gates.proofs.Alls.{records-gates}
use Rattle.chip.specs.Couplers.{near_of}
use Rattle.isles.specs.Islands.{island_of, islands_of}
use Rattle.laying.specs.Layable.{Layable}
use Rattle.laying.specs.Laid.{GoesOnIsland}
use Rattle.judging.specs.Tests.{judged_count, judged_parities, judged_reach, judged_room, judged_meaning, verdict_of, verdict_on}
use Rattle.laying.specs.Answers.{Answer, circuit_of, counts_of, answered, output_of, verdict_in, records_in, cnots_in, rotations_in, depth_in, phase_in, laid_records}
use Rattle.laying.specs.Reach.{MeaningInside}
use Rattle.laying.specs.Demands.{Island, InIsland, gates_on, Faithful, FlipsLast, judged_six, Stays, InIslands, Strays, Agree}
use Rattle.laying.proofs.Job.{only-inside}
use Rattle.judging.proofs.Judging.{qubits-few, over-few}
use Rattle.laying.proofs.Going.{going-verdict, going-accepted, going-refused}
use Rattle.laying.proofs.Accepting.{reach-within, within-reach, reach-number, reach-place, parities-whole, job-layable, job-room, job-listed, room-number}
use Rattle.laying.proofs.Accepted.{circuit-quiet, circuit-alike, circuit-phase, circuit-same, circuit-good, circuit-coupled, circuit-rotations, circuit-cnots, circuit-xs, circuit-xs-at, circuit-bounded, circuit-reaches}
use Rattle.laying.proofs.Both.{island-goes-on}
use Rattle.laying.proofs.Linking.{linked-in, in-linked}
use Rattle.laying.proofs.Each.{each-term-once, no_other}
use Rattle.laying.proofs.Twice.{flips-last, same_gates}

-- ---- demand 1

module _ (n : ℕ) (couplers gates out : List ℕ) where
  abbrev answer : Answer
  answer = answered n couplers gates (length out)

  abbrev verdict : Verdict
  verdict = verdict_of n couplers gates (length out)

  abbrev circuit : List Gate
  circuit = circuit_of n couplers gates

  abbrev phase : ℕ
  phase = phase_of (gates_of n gates)

  -- every job gets the answer of the first test that it fails, of 1 to 8 in that order, or is accepted
  pub demand-1-verdict : verdict_in answer ≡ verdict
  unfolding answered
  demand-1-verdict = going-verdict verdict (counts_of circuit phase)

  -- "On refusal all counts are 0 and no lent record has changed"
  pub demand-1-refused : number_of verdict ≢ 0 → (records_in answer ≡ 0) × (cnots_in answer ≡ 0) × (rotations_in answer ≡ 0) × (depth_in answer ≡ 0) × (phase_in answer ≡ 0)
      × (output_of n couplers gates out ≡ out)
  unfolding answered output_of
  demand-1-refused ne =
      let none = going-refused verdict (counts_of circuit phase) ne in (
        none.0,
        none.1,
        none.2,
        none.3,
        none.4,
        ap (λ (b : Bool). pick b (map record_of circuit ++ drop (length circuit) out) out) (ne_eqb (number_of verdict) 0 ne),
      )

  -- "An acceptance returns the number of records, CNOTs, rotations and the depth; the first records of the output are the circuit and all later ones stay"; it returns the common phase too
  pub demand-1-accepted : number_of verdict ≡ 0
      → (records_in answer ≡ length circuit) × (cnots_in answer ≡ cnots_of circuit) × (rotations_in answer ≡ rotations_of circuit) × (depth_in answer ≡ depth_of circuit)
      × (phase_in answer ≡ phase) × (output_of n couplers gates out ≡ map record_of circuit ++ drop (length circuit) out)
  unfolding answered output_of counts_of
  demand-1-accepted z =
      let said = going-accepted verdict (counts_of circuit phase) z in (
        ap records_in said,
        ap cnots_in said,
        ap rotations_in said,
        ap depth_in said,
        ap phase_in said,
        ap (λ (b : Bool). pick b (map record_of circuit ++ drop (length circuit) out) out) (eq-eqb (number_of verdict) 0 z),
      )

-- ---- demand 2

-- the circuit has the meaning of the job, is on its couplers and within the bound
pub demand-2 : (n : ℕ) (couplers gates : List ℕ) (room : ℕ) → number_of (verdict_of n couplers gates room) ≡ 0
    → Faithful n couplers (phase_in (answered n couplers gates room)) (gates_of n gates) (circuit_of n couplers gates)
demand-2 n couplers gates room z =
    let job = job-layable n couplers gates room z in
    record {
      same = subst (λ (f : ℕ). SameMeaning n f (gates_of n gates) (circuit_of n couplers gates)) (sym returned) (circuit-same n couplers gates job);
      phaseless = circuit-phase n couplers gates job;
      good = circuit-good n couplers gates job;
      coupled = circuit-coupled n couplers gates job;
      rotations = circuit-rotations n couplers gates job;
      each = each-term-once n (gates_of n gates) (circuit_of n couplers gates) (circuit-alike n couplers gates job) (circuit-quiet n couplers gates job) (circuit-rotations n couplers gates job);
      other = no_other n (gates_of n gates) (circuit_of n couplers gates) (circuit-alike n couplers gates job) (circuit-quiet n couplers gates job) (circuit-rotations n couplers gates job);
      cnots = circuit-cnots n couplers gates job;
      flipped = circuit-xs-at n couplers gates job;
      xs = circuit-xs n couplers gates job;
      bound = circuit-bounded n couplers gates job;
    }
  where
    returned : phase_in (answered n couplers gates room) ≡ phase_of (gates_of n gates)
    returned =
        unfold answered counts_of in ap phase_in (going-accepted (verdict_of n couplers gates room) (counts_of (circuit_of n couplers gates) (phase_of (gates_of n gates))) z)

-- the X gates of each island stand behind its other gates, by ascending qubit
pub demand-2-flips-last : (n : ℕ) (couplers gates : List ℕ) (room : ℕ) → number_of (verdict_of n couplers gates room) ≡ 0
    → (S q : ℕ) → Island n couplers S q → FlipsLast S (circuit_of n couplers gates)
demand-2-flips-last n couplers gates room z S q island =
    flips-last n couplers gates (job-layable n couplers gates room z) (job-listed n couplers gates room z) S q island

-- the records laid are the circuit's
pub records-are : (n : ℕ) (couplers gates out : List ℕ) → number_of (verdict_of n couplers gates (length out)) ≡ 0
    → laid_records n couplers gates out ≡ map record_of (circuit_of n couplers gates)
records-are n couplers gates out z =
    let C : List Gate = circuit_of n couplers gates in
    let a = demand-1-accepted n couplers gates out z in
    ap₂ (λ (k : ℕ) (l : List ℕ). take k l) (a.0 ∙ sym (length-map C record_of)) a.5 ∙ take-append_seam (map record_of C) (drop (length C) out)

-- the same of the lent output: the gates of the records laid are the circuit
pub demand-2-lent : (n : ℕ) (couplers gates out : List ℕ) → number_of (verdict_of n couplers gates (length out)) ≡ 0
    → gates_of n (laid_records n couplers gates out) ≡ circuit_of n couplers gates
demand-2-lent n couplers gates out z =
    let job = job-layable n couplers gates (length out) z in
    ap (gates_of n) (records-are n couplers gates out z) ∙ records-gates n (circuit_of n couplers gates) (let f = job.few in omega arith) (circuit-good n couplers gates job)

-- B is never exceeded: the records fit the room lent
pub demand-2-fits : (n : ℕ) (couplers gates : List ℕ) (room : ℕ) → number_of (verdict_of n couplers gates room) ≡ 0 → length (circuit_of n couplers gates) ≤ room
demand-2-fits n couplers gates room z =
    omega (arith, circuit-bounded n couplers gates (job-layable n couplers gates room z), job-room n couplers gates room z)

-- on each island every base step has a spare qubit, and every ones step a neighbour to go on with
pub demand-2-goes-on : (n : ℕ) (couplers gates : List ℕ) (room : ℕ) → number_of (verdict_of n couplers gates room) ≡ 0 → (q : ℕ) → q < n → GoesOnIsland (near_of n couplers) (gates_of n gates) q
demand-2-goes-on n couplers gates room z q l = island-goes-on n couplers gates (job-layable n couplers gates room z) q l

module _ (n : ℕ) (couplers gates : List ℕ) (room : ℕ) (six : number_of (judged_six n couplers gates) ≡ 0) where
  abbrev drawn : List Gate
  drawn = gates_of n gates

  abbrev reach : Verdict
  reach = judged_reach n (islands_of (near_of n couplers)) drawn

  record Past : Type 0 where
    qubits : number_of (judged_qubits n) ≡ 0
    listed : number_of (judged_couplers n couplers) ≡ 0
    count : number_of (judged_count gates) ≡ 0
    good : number_of (judged_gates n gates) ≡ 0
    parities : number_of (judged_parities drawn) ≡ 0

  past : Past
  unfolding judged_six
  past =
      let a = then-zero (judged_qubits n) _ six in
      let b = then-zero (judged_couplers n couplers) _ a.1 in
      let c = then-zero (judged_count gates) _ b.1 in
      let d = then-zero (judged_gates n gates) _ c.1 in
      record { qubits = a.0; listed = b.0; count = c.0; good = d.0; parities = d.1 }

  few : n ≤ 20
  few = (qubits-few n past.qubits).1

  all_good : All (Good n) drawn
  all_good = accepted-good n gates (zero-accepted (judged_gates n gates) past.good)

  ok : judged_couplers n couplers ≡ Ok tt
  ok = zero-accepted (judged_couplers n couplers) past.listed

  -- past tests 1 to 6 the verdict is that of 7 and 8
  rest : and_then reach (judged_room n drawn room) ≡ verdict_of n couplers gates room
  unfolding verdict_of verdict_on judged_meaning
  rest =
      then-on (judged_parities drawn) _ past.parities ∙ then-on (judged_gates n gates) _ past.good ∙ then-on (judged_count gates) _ past.count
      ∙ then-on (judged_couplers n couplers) _ past.listed ∙ then-on (judged_qubits n) _ past.qubits

  layable : number_of reach ≡ 0 → Layable n couplers gates
  layable z =
      let w : over_at drawn ≡ length drawn = parities-whole drawn past.parities in
      record { few = few; good = all_good; fit = over-few drawn w; within = reach-within n couplers drawn few all_good z }

  refused-7 : (number_of reach ≡ 0 → ⊥) → reach ≡ verdict_of n couplers gates room
  refused-7 ne = then-stop reach (judged_room n drawn room) ne ∙ rest

  reached : Reachable n couplers drawn → reach ≡ Ok tt
  reached r = within-reach n couplers drawn few all_good (only-inside n couplers few ok drawn r)

  strays : (number_of reach ≡ 0 → ⊥) → Strays n couplers drawn (place_of reach)
  unfolding Stays InIsland
  strays ne =
      let s = reach-place n couplers drawn few all_good ne in
      record {
        most = s.0;
        before = λ i l j m. in-linked n couplers few ok i j (let b = s.0 in omega arith) (s.1 i l j m);
        here = λ l stay. s.2 l (λ j m. linked-in n couplers few ok (place_of reach) j (stay j m));
      }

  -- test 7 is passed by what is reachable, and by nothing else
  pub reach-tests : Tests reach 7 (Reachable n couplers drawn) (Reachable n couplers drawn → ⊥) (Strays n couplers drawn)
  reach-tests = record { decided = go (ℕ_discrete (number_of reach) 0); apart = λ r f. f r; refuses = omega arith }
    where
      go : Dec (number_of reach ≡ 0) → ((number_of reach ≡ 0) × Reachable n couplers drawn) ⊎ ((number_of reach ≡ 7) × (Reachable n couplers drawn → ⊥) × Strays n couplers drawn (place_of reach))
      go (yes z) = inl (z, circuit-reaches n couplers gates (layable z))
      go (no ne) = inr (reach-number n couplers drawn few all_good ne, λ r. ne (ap number_of (reached r)), strays ne)

  -- refused as unreachable only where no circuit of coupler CNOTs, rotations and X gates has the meaning
  pub demand-2-unreachable : number_of (verdict_of n couplers gates room) ≡ 7 → Reachable n couplers drawn → ⊥
  demand-2-unreachable h r = room-number n drawn room (ap number_of (then-on reach (judged_room n drawn room) (ap number_of (reached r)) ∙ rest) ∙ h)

  -- and wherever none has
  pub demand-2-refused : (Reachable n couplers drawn → ⊥) → number_of (verdict_of n couplers gates room) ≡ 7
  demand-2-refused no-circuit =
      let e : number_of reach ≡ 7 = (row-fails reach-tests).exactly.1 no-circuit in
      sym (ap number_of (refused-7 (λ z. omega (arith, e, z)))) ∙ e

  -- at the lowest wire whose final parity leaves its island, else n
  pub demand-2-place : number_of (verdict_of n couplers gates room) ≡ 7 → Strays n couplers drawn (place_of (verdict_of n couplers gates room))
  demand-2-place h =
      let ne : number_of reach ≡ 0 → ⊥ = λ z. demand-2-unreachable h (circuit-reaches n couplers gates (layable z)) in
      subst (λ (v : Verdict). Strays n couplers drawn (place_of v)) (refused-7 ne) (strays ne)

  -- document 01, "Islands": "reachable exactly when each wire's final parity is inside that wire's island and each term is inside one island"
  pub reachable-in-islands : Reachable n couplers drawn ↔ InIslands n couplers drawn
  unfolding Stays InIsland
  reachable-in-islands = (λ r. linked (only-inside n couplers few ok drawn r), λ i. circuit-reaches n couplers gates (layable (ap number_of (within-reach n couplers drawn few all_good (found i)))))
    where
      linked : MeaningInside n (island_of (near_of n couplers)) drawn → InIslands n couplers drawn
      linked w = record {
        finals = λ i h j m. in-linked n couplers few ok i j h (w.finals i h j m);
        terms = λ p t. let s = w.terms p t in (s.0, s.1, λ j m. in-linked n couplers few ok s.0 j s.1 (s.2 j m));
      }

      found : InIslands n couplers drawn → MeaningInside n (island_of (near_of n couplers)) drawn
      found i = record {
        finals = λ q h j m. linked-in n couplers few ok q j (i.finals q h j m);
        terms = λ p t. let s = i.terms p t in (s.0, s.1, λ j m. linked-in n couplers few ok s.0 j (s.2 j m));
      }

-- ---- demand 3

-- the gates laid on an island depend on nothing but its couplers, its final parities, its flips and its sums
pub demand-3 : (n m : ℕ) (couplers couplers' gates gates' : List ℕ) (room room' : ℕ)
    → number_of (verdict_of n couplers gates room) ≡ 0 → number_of (verdict_of m couplers' gates' room') ≡ 0
    → (S q r : ℕ) → Island n couplers S q → Island m couplers' S r → Agree S couplers couplers' (gates_of n gates) (gates_of m gates')
    → gates_on S (circuit_of n couplers gates) ≡ gates_on S (circuit_of m couplers' gates')
demand-3 n m couplers couplers' gates gates' room room' a b S q r i j agree =
    same_gates n m couplers couplers' gates gates' (job-layable n couplers gates room a) (job-layable m couplers' gates' room' b)
    (job-listed n couplers gates room a) (job-listed m couplers' gates' room' b) S q r i j agree
