-- Tests 6, 7 and 8 of a job, each decided by what the table asks of its stretches. Assumes nothing.
use mathlib.Core.Path.{◌≡◌, refl, sym, ap, ◌∙◌, subst}
use mathlib.Core.Logic.{◌⊎◌, inl, inr}
use mathlib.Core.Bool.{Bool, true, false}
use mathlib.Core.List.{List, [], ◌∷◌}
use Prim.Native.Nat.{ℕ, ◌+◌, ◌≤◌, ◌<◌}
use native.Mathlib.Omega.{arith}
use lib.Dec.{eqb, ltb}
use lib.ListN.{length, length-map}
use borrow.Author.Tests.{ltb-true, ltb-false, eqb-true, eqb-false}
use Rattle.std.specs.Prelude.{Ok, Err}
use Rattle.sets.specs.Pick.{pick}
use Rattle.gates.specs.declared.gate.Gate.{Gate}
use Rattle.gates.specs.Layout.{gate_of, gates_of}
use Rattle.verdicts.specs.declared.verdict.Refusal.TheVariants.{ManyParities, Unreachable, Room}
use Rattle.verdicts.specs.Verdicts.{Verdict, number_of, place_of}
use Rattle.verdicts.specs.InOrder.{and_then}
use Rattle.verdicts.specs.Rows.{Nowhere}
use Rattle.verdicts.proofs.Judged.{then-on, then-stop}
use Rattle.verdicts.proofs.Rows.{Tests, row-fails, row-passes, limit-tests}
use Rattle.meaning.specs.Borne.{over_at}
use Rattle.meaning.specs.Same.{Reachable}
use Rattle.chip.specs.Couplers.{near_of}
use Rattle.isles.specs.Islands.{islands_of}
use Rattle.judging.specs.Tests.{judged_reach}
use Rattle.judging.proofs.Judging.{over-le, parities-pass, parities-fail}
use Rattle.laying.specs.Demands.{judged_six}
use Rattle.laying.specs.Rows.{Passes6, Brings}
use Rattle.laying.proofs.Demands.{reach-tests}
use Rattle.laying.proofs.Rows.{tests-6}
use Rattle.tallies.specs.Tally.{largest}
use Rattle.sets.specs.Lists.{All}
use Rattle.stretches.specs.Stretches.{stretches_of, hadamards_of}
use Rattle.stretches.specs.Tests.{judged_parities_at, judged_parities_from, judged_reach_at, judged_reach_from, judged_reaches, job_bound, judged_bound}
use Rattle.stretches.specs.Meaning.{ReachableJob}
use Rattle.stretches.specs.Rows.{PassesSix, BringsFrom, UnreachedFrom, Unreached}
use Rattle.sets.proofs.Lists.{all_head, all_one}
use Rattle.stretches.proofs.Passing.{none-one}

-- ---- tests in other words, and one behind another

module _ {v : Verdict} {k : ℕ} {Pass Fail : Type 0} {At : ℕ → Type 0} (t : Tests v k Pass Fail At) where
  -- a test in other words
  tests-as : {Pass' : Type 0} {At' : ℕ → Type 0} → (Pass → Pass') → (Pass' → Pass) → ((p : ℕ) → Fail → At p → At' p) → Tests v k Pass' (Pass' → ⊥) At'
  tests-as {Pass'} {At'} there back at = record { decided = go t.decided; apart = λ p f. f p; refuses = t.refuses }
    where
      go : ((number_of v ≡ 0) × Pass) ⊎ ((number_of v ≡ k) × Fail × At (place_of v)) → ((number_of v ≡ 0) × Pass') ⊎ ((number_of v ≡ k) × (Pass' → ⊥) × At' (place_of v))
      go (inl d) = inl (d.0, there d.1)
      go (inr d) = inr (d.0, λ p. t.apart (back p) d.1, at (place_of v) d.1 d.2)

  -- the same test of what stands first, and of what comes behind
  tests_then : {w : Verdict} {Rest : Type 0} {There Here : ℕ → Type 0} → Tests w k Rest (Rest → ⊥) There → ((p : ℕ) → Fail → At p → Here p)
      → Tests (and_then v w) k (Pass × Rest) (Pass × Rest → ⊥) (λ p. Here p ⊎ (Pass × There p))
  tests_then {w} {Rest} {There} {Here} u here = record { decided = go t.decided u.decided; apart = λ p f. f p; refuses = t.refuses }
    where
      go : ((number_of v ≡ 0) × Pass) ⊎ ((number_of v ≡ k) × Fail × At (place_of v)) → ((number_of w ≡ 0) × Rest) ⊎ ((number_of w ≡ k) × (Rest → ⊥) × There (place_of w))
          → ((number_of (and_then v w) ≡ 0) × (Pass × Rest)) ⊎ ((number_of (and_then v w) ≡ k) × (Pass × Rest → ⊥) × (Here (place_of (and_then v w)) ⊎ (Pass × There (place_of (and_then v w)))))
      go (inl (z, p)) (inl (y, q)) = inl (sym (ap number_of (then-on v w z)) ∙ y, (p, q))
      go (inl (z, p)) (inr (e, f, a)) = inr (sym (ap number_of (then-on v w z)) ∙ e, λ b. f b.1, inr (p, subst (λ (x : Verdict). There (place_of x)) (then-on v w z) a))
      go (inr (e, f, a)) d =
          let s : v ≡ and_then v w = then-stop v w (λ z. omega (arith, z, e, t.refuses)) in
          inr (sym (ap number_of s) ∙ e, λ b. t.apart b.0 f, inl (subst (λ (x : Verdict). Here (place_of x)) s (here (place_of v) f a)))

-- where nothing is left to test
tests-end : (k : ℕ) {At : ℕ → Type 0} → 0 < k → Tests (Ok tt) k Unit (Unit → ⊥) At
tests-end k h = record { decided = inl (refl, tt); apart = λ p f. f p; refuses = h }

-- ---- 6

module _ (n : ℕ) where
  abbrev BringsAt : ℕ → List ℕ → ℕ → Type 0
  BringsAt k s p = (i : ℕ) × (p ≡ k + i) × Brings (gates_of n s) i

  -- of a stretch whose first gate has the place k
  parities-at : (k : ℕ) (s : List ℕ) → Tests (judged_parities_at n k s) 6 (Passes6 (gates_of n s)) (Passes6 (gates_of n s) → ⊥) (BringsAt k s)
  unfolding judged_parities_at
  parities-at k s = record { decided = go (ltb (over_at gs) (length s)) refl; apart = λ p f. f p; refuses = omega arith }
    where
      gs : List Gate
      gs = gates_of n s

      go : (b : Bool) → ltb (over_at gs) (length s) ≡ b → let v = pick b (Err (ManyParities (k + over_at gs))) (Ok tt) in
          ((number_of v ≡ 0) × Passes6 gs) ⊎ ((number_of v ≡ 6) × (Passes6 gs → ⊥) × BringsAt k s (place_of v))
      go true e =
          let w = parities-fail gs (omega (arith, ltb-true (over_at gs) (length s) e, length-map s (gate_of n))) in
          let r = row-fails (tests-6 gs) in
          inr (refl, λ p. (tests-6 gs).apart p (r.exactly.0 (ap number_of w)), (over_at gs, refl, subst (λ (v : Verdict). Brings gs (place_of v)) w (r.place (ap number_of w))))
      go false e = inl (refl, (row-passes (tests-6 gs)).exactly.0 (ap number_of (parities-pass gs (omega (arith, ltb-false (over_at gs) (length s) e, length-map s (gate_of n), over-le gs)))))

  -- test 6 is passed where every stretch passes it
  pub parities-tests : (k : ℕ) (ss : List (List ℕ)) → Tests (judged_parities_from n k ss) 6 (PassesSix n ss) (PassesSix n ss → ⊥) (BringsFrom n k ss)
  unfolding judged_parities_from BringsFrom All
  parities-tests k [] = tests-end 6 (omega arith)
  parities-tests k (s ∷ ss) = tests_then (parities-at k s) (parities-tests (k + length s + 1) ss) (λ p f a. a)

-- ---- 7

module _ (n : ℕ) (couplers : List ℕ) where
  abbrev isls : List ℕ
  isls = islands_of (near_of n couplers)

  abbrev Six : List ℕ → Type 0
  Six s = number_of (judged_six n couplers s) ≡ 0

  abbrev CanReach : List ℕ → Type 0
  CanReach s = Reachable n couplers (gates_of n s)

  -- of a stretch whose first gate has the place k, past test 6
  reach-at : (k : ℕ) (s : List ℕ) → Six s → Tests (judged_reach_at n isls k s) 7 (CanReach s) (CanReach s → ⊥) (λ p. p ≡ k)
  unfolding judged_reach_at
  reach-at k s z = record { decided = go (eqb (number_of reach) 0) refl; apart = λ p f. f p; refuses = omega arith }
    where
      reach : Verdict
      reach = judged_reach n isls (gates_of n s)

      go : (b : Bool) → eqb (number_of reach) 0 ≡ b → let v = pick b (Ok tt) (Err (Unreachable k)) in ((number_of v ≡ 0) × CanReach s) ⊎ ((number_of v ≡ 7) × (CanReach s → ⊥) × (place_of v ≡ k))
      go true e = inl (refl, (row-passes (reach-tests n couplers s largest z)).exactly.0 (eqb-true (number_of reach) 0 e))
      go false e = inr (refl, λ r. eqb-false (number_of reach) 0 e ((row-passes (reach-tests n couplers s largest z)).exactly.1 r), refl)

  -- of stretches with a Hadamard between each and the next
  reach-from : (k : ℕ) (ss : List (List ℕ)) → All Six ss → Tests (judged_reach_from n isls k ss) 7 (All CanReach ss) (All CanReach ss → ⊥) (UnreachedFrom n couplers k ss)
  unfolding judged_reach_from UnreachedFrom All
  reach-from k [] z = tests-end 7 (omega arith)
  reach-from k (s ∷ ss) z = tests_then (reach-at k s z.0) (reach-from (k + length s + 1) ss z.1) (λ p f a. (a, f))

  -- test 7, past test 6, is passed where every stretch can be reached
  pub reaches-tests : (gates : List ℕ) → All Six (stretches_of n gates)
      → Tests (judged_reaches n couplers gates) 7 (ReachableJob n couplers gates) (ReachableJob n couplers gates → ⊥) (Unreached n couplers gates)
  unfolding judged_reaches
  reaches-tests gates z = go (eqb (length hs) 0) refl
    where
      hs : List ℕ
      hs = hadamards_of n gates

      empty : (l : List ℕ) → length l ≡ 0 → l ≡ []
      empty [] x = refl
      empty (y ∷ l) x = absurd (omega arith)

      go : (b : Bool) → eqb (length hs) 0 ≡ b
          → Tests (pick b (judged_reach n isls (gates_of n gates)) (judged_reach_from n isls 0 (stretches_of n gates))) 7 (ReachableJob n couplers gates) (ReachableJob n couplers gates → ⊥) (Unreached n couplers gates)
      go true e =
          let one = none-one n gates (eqb-true (length hs) 0 e) in
          tests-as (reach-tests n couplers gates largest (all_head Six gates [] (subst (All Six) one z))) (λ r. subst (All CanReach) (sym one) (all_one CanReach gates r)) (λ r. all_head CanReach gates [] (subst (All CanReach) one r))
          (λ p f a. record { one = λ x. a; more = λ x. absurd (x (empty hs (eqb-true (length hs) 0 e))) })
      go false e = tests-as (reach-from 0 (stretches_of n gates) z) (λ r. r) (λ r. r) (λ p f a. record { one = λ x. absurd (eqb-false (length hs) 0 e (ap length x)); more = λ x. a })

-- ---- 8

-- test 8 is passed where B is lent
pub bound-tests : (n : ℕ) (gates : List ℕ) (room : ℕ) → Tests (judged_bound n gates room) 8 (job_bound n gates ≤ room) (room < job_bound n gates) Nowhere
unfolding judged_bound
bound-tests n gates room = limit-tests room (job_bound n gates) (Err Room) (omega arith) refl
