-- For the keeper of an archive: one circuit for one meaning. And demand 3 is not about nothing: each qubit has its island, and jobs of equal meaning agree on it. Assumes nothing.
use mathlib.Core.Path.{◌≡◌, refl, sym, ap, ap₂, ◌∙◌, subst}
use mathlib.Core.Logic.{◌↔◌}
use mathlib.Core.Bool.{Bool, true, false}
use mathlib.Core.List.{List, [], ◌++◌, map}
use Prim.Native.Nat.{ℕ, zero, suc, ◌<◌}
use native.Mathlib.Omega.{arith}
use lib.Dec.{eqb}
use lib.ListN.{length}
use Rattle.std.specs.Prelude.{Ok}
use Rattle.sets.specs.Pick.{pick}
use Rattle.sets.specs.Size.{lowest_of}
use Rattle.gates.specs.declared.gate.Gate.{Gate}
use Rattle.gates.specs.Layout.{gates_of, record_of}
use Rattle.verdicts.specs.Verdicts.{number_of, judged_couplers}
use Rattle.circuit.specs.Circuit.{final_of, sum_of}
use Rattle.circuit.specs.Flips.{flip_run, no_flips, flip_of}
use Rattle.meaning.specs.Same.{Alike}
use Rattle.chip.specs.Couplers.{near_of}
use Rattle.isles.specs.Islands.{island_of}
use Rattle.share.specs.Own.{own_sets}
use Rattle.laying.specs.Islands.{leads, laid_to}
use Rattle.laying.specs.Laid.{on_island, with_flips, laid_of}
use Rattle.laying.specs.Layable.{Layable}
use Rattle.judging.specs.Tests.{verdict_of}
use Rattle.laying.specs.Answers.{circuit_of, laid_records}
use Rattle.laying.specs.Demands.{Linked, same, more, Island, gates_on, SameCouplers, Agree}
use Rattle.laying.proofs.Job.{parts}
use Rattle.laying.proofs.Both.{island-placed}
use Rattle.laying.proofs.Alike.{flips-on, gates-on}
use Rattle.laying.proofs.Accepting.{job-layable, job-listed}
use Rattle.laying.proofs.Linking.{linked-in, in-linked, island-found}
use Rattle.laying.proofs.Demands.{records-are, demand-2, demand-2-lent, demand-3}

-- ---- one job

module _ (n : ℕ) (couplers gates : List ℕ) (room : ℕ) (accepted : number_of (verdict_of n couplers gates room) ≡ 0) where
  abbrev isl : ℕ → ℕ
  isl = island_of (near_of n couplers)

  abbrev on : ℕ → List Gate
  on = with_flips (near_of n couplers) (gates_of n gates)

  job : Layable n couplers gates
  job = job-layable n couplers gates room accepted

  listed : judged_couplers n couplers ≡ Ok tt
  listed = job-listed n couplers gates room accepted

  qubit-island : (q : ℕ) → q < n → Island n couplers (isl q) q
  qubit-island q h = record {
    member = (parts n couplers job.few).self q h;
    below = h;
    all = λ j l. linked-in n couplers job.few listed q j l;
    only = λ j m. in-linked n couplers job.few listed q j h m;
  }

  -- each qubit of an accepted job has its island
  pub each-qubit-has-an-island : (q : ℕ) → q < n → (S : ℕ) × Island n couplers S q
  each-qubit-has-an-island q h = (isl q, qubit-island q h)

  -- the circuit is the islands' gates, one island after another
  circuit-laid : circuit_of n couplers gates ≡ laid_to isl on n
  unfolding circuit_of laid_of
  circuit-laid = refl

  led : (q : ℕ) → q < n → leads isl q ≡ true → gates_on (isl q) (circuit_of n couplers gates) ≡ on q
  led q h e =
      ap (gates_on (isl q)) circuit-laid
      ∙ gates-on n isl job.few (parts n couplers job.few) on
      (λ k l. unfold with_flips in flips-on (own_sets (isl k) (near_of n couplers)) (isl k) (flip_run (gates_of n gates) no_flips) (on_island (near_of n couplers) (gates_of n gates) k) (island-placed n couplers gates job k l).inside)
      q h e n (omega arith) h

-- ---- two jobs

linked-there : (n : ℕ) (couplers couplers' : List ℕ) → SameCouplers couplers couplers' → {q j : ℕ} → Linked couplers n q j → Linked couplers' n q j
linked-there n couplers couplers' s (same h) = same h
linked-there n couplers couplers' s (more {v} {w} l h k) = more (linked-there n couplers couplers' s l) h (s.there v w k)

turned : (couplers couplers' : List ℕ) → SameCouplers couplers couplers' → SameCouplers couplers' couplers
turned couplers couplers' s = record { there = s.back; back = s.there }

leads-same : (isl isl' : ℕ → ℕ) (q : ℕ) → isl q ≡ isl' q → leads isl q ≡ leads isl' q
unfolding leads
leads-same isl isl' q e = ap (λ (Q : ℕ). eqb (lowest_of Q) q) e

pub laid-alike : (isl isl' : ℕ → ℕ) (on on' : ℕ → List Gate) (k : ℕ) → ((q : ℕ) → q < k → isl q ≡ isl' q) → ((q : ℕ) → q < k → leads isl q ≡ true → on q ≡ on' q)
    → laid_to isl on k ≡ laid_to isl' on' k
unfolding laid_to
laid-alike isl isl' on on' zero e alike = refl
laid-alike isl isl' on on' (suc k) e alike =
    ap₂ (λ (a b : List Gate). a ++ b) (laid-alike isl isl' on on' k (λ q (l : q < k). e q (omega arith)) (λ q (l : q < k). alike q (omega arith)))
    (go (leads isl k) refl ∙ ap (λ (b : Bool). pick b (on' k) []) (leads-same isl isl' k (e k (omega arith))))
  where
    go : (b : Bool) → leads isl k ≡ b → pick b (on k) [] ≡ pick b (on' k) []
    go true l = alike k (omega arith) l
    go false l = refl

module _ (n : ℕ) (couplers couplers' gates gates' : List ℕ) (room room' : ℕ)
    (one : number_of (verdict_of n couplers gates room) ≡ 0) (two : number_of (verdict_of n couplers' gates' room') ≡ 0) (chip : SameCouplers couplers couplers') where
  abbrev drawn : List Gate
  drawn = gates_of n gates

  abbrev drawn' : List Gate
  drawn' = gates_of n gates'

  -- an island of the one job is an island of the other
  pub island-there : (S q : ℕ) → Island n couplers S q → Island n couplers' S q
  island-there S q i = record {
    member = i.member;
    below = i.below;
    all = λ j l. i.all j (linked-there n couplers' couplers (turned couplers couplers' chip) l);
    only = λ j m. linked-there n couplers couplers' chip (i.only j m);
  }

  linked-below : {q j : ℕ} → Linked couplers n q j → j < n
  linked-below (same h) = h
  linked-below (more l h k) = h

  -- jobs of equal meaning agree on each of their islands
  pub meaning-agrees : Alike n drawn drawn' → (S q : ℕ) → Island n couplers S q → Agree S couplers couplers' drawn drawn'
  meaning-agrees m S q i = record {
    there = λ u v a b k. chip.there u v k;
    back = λ u v a b k. chip.back u v k;
    finals = λ j a. m.finals j (linked-below (i.only j a));
    flips = λ j a. m.flips j (linked-below (i.only j a));
    sums = λ p a. m.sums p;
  }

  same-circuit : Alike n drawn drawn' → circuit_of n couplers gates ≡ circuit_of n couplers' gates'
  same-circuit m =
      circuit-laid n couplers gates room one ∙ laid-alike (isl n couplers gates room one) (isl n couplers' gates' room' two) (on n couplers gates room one) (on n couplers' gates' room' two) n same-island same_gates
      ∙ sym (circuit-laid n couplers' gates' room' two)
    where
      here : (q : ℕ) → q < n → Island n couplers (island_of (near_of n couplers) q) q
      here q h = qubit-island n couplers gates room one q h

      there : (q : ℕ) → q < n → Island n couplers' (island_of (near_of n couplers) q) q
      there q h = island-there (island_of (near_of n couplers) q) q (here q h)

      same-island : (q : ℕ) → q < n → island_of (near_of n couplers) q ≡ island_of (near_of n couplers') q
      same-island q h =
          island-found n couplers' (job n couplers' gates' room' two).few (listed n couplers' gates' room' two) (island_of (near_of n couplers) q) q (there q h)

      same_gates : (q : ℕ) → q < n → leads (island_of (near_of n couplers)) q ≡ true
          → with_flips (near_of n couplers) drawn q ≡ with_flips (near_of n couplers') drawn' q
      same_gates q h e =
          let S : ℕ = island_of (near_of n couplers) q in
          sym (led n couplers gates room one q h e)
          ∙ demand-3 n n couplers couplers' gates gates' room room' one two S q q (here q h) (there q h) (meaning-agrees m S q (here q h))
          ∙ ap (λ (Q : ℕ). gates_on Q (circuit_of n couplers' gates')) (same-island q h)
          ∙ led n couplers' gates' room' two q h (sym (leads-same (island_of (near_of n couplers)) (island_of (near_of n couplers')) q (same-island q h)) ∙ e)

-- Two accepted jobs with the same number of qubits and the same couplers have equal meaning, common phases aside, exactly when the same records were laid for them.
pub one-circuit-for-one-meaning : (n : ℕ) (couplers couplers' gates gates' out out' : List ℕ)
    → number_of (verdict_of n couplers gates (length out)) ≡ 0 → number_of (verdict_of n couplers' gates' (length out')) ≡ 0 → SameCouplers couplers couplers'
    → Alike n (gates_of n gates) (gates_of n gates') ↔ (laid_records n couplers gates out ≡ laid_records n couplers' gates' out')
one-circuit-for-one-meaning n couplers couplers' gates gates' out out' one two chip = (there, back)
  where
    C : List Gate
    C = circuit_of n couplers gates

    C' : List Gate
    C' = circuit_of n couplers' gates'

    there : Alike n (gates_of n gates) (gates_of n gates') → laid_records n couplers gates out ≡ laid_records n couplers' gates' out'
    there m =
        records-are n couplers gates out one ∙ ap (map record_of) (same-circuit n couplers couplers' gates gates' (length out) (length out') one two chip m)
        ∙ sym (records-are n couplers' gates' out' two)

    back : laid_records n couplers gates out ≡ laid_records n couplers' gates' out' → Alike n (gates_of n gates) (gates_of n gates')
    back e =
        let same-laid : C ≡ C' = sym (demand-2-lent n couplers gates out one) ∙ ap (gates_of n) e ∙ demand-2-lent n couplers' gates' out' two in
        let a = (demand-2 n couplers gates (length out) one).same.alike in
        let b = (demand-2 n couplers' gates' (length out') two).same.alike in
        record {
          finals = λ i h. a.finals i h ∙ ap (λ (g : List Gate). final_of g i) same-laid ∙ sym (b.finals i h);
          flips = λ i h. a.flips i h ∙ ap (λ (g : List Gate). flip_of g i) same-laid ∙ sym (b.flips i h);
          sums = λ p. a.sums p ∙ ap (λ (g : List Gate). sum_of p g) same-laid ∙ sym (b.sums p);
        }

-- What was laid is laid as it stands, where it is accepted as a job itself.
pub laid-again : (n : ℕ) (couplers gates out out' : List ℕ) → number_of (verdict_of n couplers gates (length out)) ≡ 0
    → number_of (verdict_of n couplers (laid_records n couplers gates out) (length out')) ≡ 0
    → laid_records n couplers (laid_records n couplers gates out) out' ≡ laid_records n couplers gates out
laid-again n couplers gates out out' one two =
    sym ((one-circuit-for-one-meaning n couplers couplers gates (laid_records n couplers gates out) out out' one two (record { there = λ u v k. k; back = λ u v k. k })).0
    (subst (Alike n (gates_of n gates)) (sym (demand-2-lent n couplers gates out one)) (demand-2 n couplers gates (length out) one).same.alike))
