-- For the keeper of an archive, of jobs: what is laid is the same exactly where the meaning is, and is laid again as it stands. Assumes nothing.
use mathlib.Core.Path.{◌≡◌, sym, ap, ap₂, ◌∙◌, subst}
use mathlib.Core.Logic.{◌↔◌}
use mathlib.Core.List.{List, [], ◌∷◌, map}
use Prim.Native.Nat.{ℕ, suc, ◌<◌}
use native.Mathlib.Omega.{arith}
use lib.ListN.{length}
use Rattle.gates.specs.Layout.{gates_of}
use Rattle.gates.specs.Hadamards.{is_hadamard}
use Rattle.verdicts.specs.Verdicts.{number_of}
use Rattle.meaning.specs.Same.{Alike}
use Rattle.laying.specs.Demands.{Island, SameCouplers, Agree}
use Rattle.sets.specs.Lists.{those, All}
use Rattle.stretches.specs.Cut.{weave}
use Rattle.stretches.specs.Stretches.{stretches_of, hadamards_of}
use Rattle.stretches.specs.Tests.{job_verdict}
use Rattle.stretches.specs.Asked.{Accepts}
use Rattle.stretches.specs.Laid.{stretch_records, job_records, job_laid}
use Rattle.stretches.specs.Meaning.{AlikeJob}
use Rattle.stretches.specs.Demands.{AgreeJob}
use Rattle.sets.proofs.Lists.{all_head}
use Rattle.stretches.proofs.Weaving.{cut-size}
use Rattle.stretches.proofs.Paired.{pairs-both, pairs-mapped, pairs-equal, equal-pairs}
use Rattle.stretches.proofs.Passing.{Passed}
use Rattle.stretches.proofs.Records.{stretch-island, stretch-one, stretches-agree}
use Rattle.stretches.proofs.Demands.{records-are, accepted-passed, laid-stretches, laid-hadamards, demand-2}

-- jobs that passed tests 1 to 7
module _ (n : ℕ) (couplers couplers' gates gates' : List ℕ) (p : Passed n couplers gates) (p' : Passed n couplers' gates') (chip : SameCouplers couplers couplers') where
  abbrev laid : List ℕ → List ℕ
  laid = stretch_records n couplers

  abbrev laid' : List ℕ → List ℕ
  laid' = stretch_records n couplers'

  abbrev SameMeant : List ℕ → List ℕ → Type 0
  SameMeant s t = Alike n (gates_of n s) (gates_of n t)

  abbrev SameLaid : List ℕ → List ℕ → Type 0
  SameLaid s t = laid s ≡ laid' t

  -- jobs of equal meaning get the same records
  pub same-records : AlikeJob n gates gates' → job_records n couplers gates ≡ job_records n couplers' gates'
  unfolding job_records
  same-records m =
      ap₂ weave
      (pairs-equal (map laid (stretches_of n gates)) (map laid' (stretches_of n gates'))
      (pairs-mapped laid laid' (λ a b. a ≡ b) (stretches_of n gates) (stretches_of n gates')
      (pairs-both (Accepts n couplers) (Accepts n couplers') SameMeant SameLaid (λ s t a b. (stretch-one n couplers couplers' s t a b chip).0) (stretches_of n gates) (stretches_of n gates') p.accepts p'.accepts m.stretches)))
      m.hadamards

  -- jobs that get the same records have equal meaning
  same-meaning : job_records n couplers gates ≡ job_records n couplers' gates' → AlikeJob n gates gates'
  same-meaning e = record {
    hadamards = sym (laid-hadamards n couplers gates p) ∙ ap (hadamards_of n) e ∙ laid-hadamards n couplers' gates' p';
    stretches = pairs-both (Accepts n couplers) (Accepts n couplers') SameLaid SameMeant (λ s t a b. (stretch-one n couplers couplers' s t a b chip).1) (stretches_of n gates) (stretches_of n gates') p.accepts p'.accepts
        (equal-pairs laid laid' (stretches_of n gates) (stretches_of n gates') (sym (laid-stretches n couplers gates p) ∙ ap (stretches_of n) e ∙ laid-stretches n couplers' gates' p'));
  }

-- Two accepted jobs with the same number of qubits and the same couplers have equal meaning, common phases aside, exactly when the same records were laid for them.
pub one-circuit-for-one-meaning : (n : ℕ) (couplers couplers' gates gates' out out' : List ℕ)
    → number_of (job_verdict n couplers gates (length out)) ≡ 0 → number_of (job_verdict n couplers' gates' (length out')) ≡ 0 → SameCouplers couplers couplers'
    → AlikeJob n gates gates' ↔ (job_laid n couplers gates out ≡ job_laid n couplers' gates' out')
one-circuit-for-one-meaning n couplers couplers' gates gates' out out' one two chip = (
  λ m. here ∙ same-records n couplers couplers' gates gates' p p' chip m ∙ sym there,
  λ e. same-meaning n couplers couplers' gates gates' p p' chip (sym here ∙ e ∙ there),
)
  where
    p : Passed n couplers gates
    p = accepted-passed n couplers gates (length out) one

    p' : Passed n couplers' gates'
    p' = accepted-passed n couplers' gates' (length out') two

    here : job_laid n couplers gates out ≡ job_records n couplers gates
    here = records-are n couplers gates out one

    there : job_laid n couplers' gates' out' ≡ job_records n couplers' gates'
    there = records-are n couplers' gates' out' two

-- What was laid is laid as it stands, where it is accepted as a job itself.
pub laid-again : (n : ℕ) (couplers gates out out' : List ℕ) → number_of (job_verdict n couplers gates (length out)) ≡ 0
    → number_of (job_verdict n couplers (job_laid n couplers gates out) (length out')) ≡ 0
    → job_laid n couplers (job_laid n couplers gates out) out' ≡ job_laid n couplers gates out
laid-again n couplers gates out out' one two =
    sym ((one-circuit-for-one-meaning n couplers couplers gates (job_laid n couplers gates out) out out' one two (record { there = λ u v k. k; back = λ u v k. k })).0
    (subst (AlikeJob n gates) (sym (records-are n couplers gates out one)) (demand-2 n couplers gates (length out) one).same.alike))

-- ---- demand 3 is not about nothing

-- Each qubit of an accepted job has its island.
pub each-qubit-has-an-island : (n : ℕ) (couplers gates : List ℕ) (room : ℕ) → number_of (job_verdict n couplers gates room) ≡ 0 → (q : ℕ) → q < n → (S : ℕ) × Island n couplers S q
unfolding stretches_of
each-qubit-has-an-island n couplers gates room z q l =
    let p = accepted-passed n couplers gates room z in go (stretches_of n gates) (cut-size (is_hadamard n) gates) p.accepts
  where
    go : (ss : List (List ℕ)) → length ss ≡ suc (length (those (is_hadamard n) gates)) → All (Accepts n couplers) ss → (S : ℕ) × Island n couplers S q
    go [] e a = absurd (omega (arith, e))
    go (s ∷ ss) e a = stretch-island n couplers s (all_head (Accepts n couplers) s ss a) q l

-- Accepted jobs of equal meaning agree on each of their islands.
pub meaning-agrees : (n : ℕ) (couplers couplers' gates gates' : List ℕ) (room room' : ℕ) → number_of (job_verdict n couplers gates room) ≡ 0 → number_of (job_verdict n couplers' gates' room') ≡ 0
    → SameCouplers couplers couplers' → AlikeJob n gates gates' → (S q : ℕ) → Island n couplers S q → AgreeJob S n n couplers couplers' gates gates'
meaning-agrees n couplers couplers' gates gates' room room' one two chip m S q island = record {
  hadamards = m.hadamards;
  stretches = pairs-both (Accepts n couplers) (Accepts n couplers') (λ s t. Alike n (gates_of n s) (gates_of n t)) (λ s t. Agree S couplers couplers' (gates_of n s) (gates_of n t))
      (λ s t a b e. stretches-agree n couplers couplers' s t a b chip e S q island) (stretches_of n gates) (stretches_of n gates')
      (accepted-passed n couplers gates room one).accepts (accepted-passed n couplers' gates' room' two).accepts m.stretches;
}
