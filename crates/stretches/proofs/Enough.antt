-- A job is never answered 8 where its B is lent, and is answered by tests 1 to 7 alone; the place of a refusal is no larger than a job's limits. Assumes nothing.
use mathlib.Core.Path.{◌≡◌, refl, sym, ap, ◌∙◌}
use mathlib.Core.Logic.{◌≢◌, inl, inr}
use mathlib.Core.Bool.{Bool, true, false}
use mathlib.Core.List.{List, [], ◌∷◌}
use Prim.Native.Nat.{ℕ, ◌+◌, ◌≤◌, ◌<◌}
use native.Mathlib.Omega.{arith}
use lib.ListN.{length, length-map}
use Rattle.sets.specs.Pick.{pick}
use Rattle.gates.specs.Limits.{most_qubits, most_gates}
use Rattle.gates.specs.Layout.{gate_of}
use Rattle.gates.specs.Hadamards.{is_hadamard}
use Rattle.verdicts.specs.Verdicts.{number_of, place_of, judged_qubits, judged_couplers}
use Rattle.verdicts.specs.InOrder.{and_then}
use Rattle.verdicts.proofs.Judged.{then-accepted, zero-accepted, then-zero}
use Rattle.verdicts.proofs.Rows.{test-passed, row-passes, tests-1, tests-drawn}
use Rattle.verdicts.proofs.Places.{Low, low-test, low-then, nowhere, low-couplers}
use Rattle.judging.specs.Tests.{judged_count}
use Rattle.laying.proofs.InOrder.{tests-4}
use Rattle.stretches.specs.Cut.{ahead, cut_at}
use Rattle.stretches.specs.Stretches.{stretches_of, hadamards_of}
use Rattle.stretches.specs.Tests.{judged_five, judged_parities_from, judged_reaches, job_bound, judged_bound, judged_stretches, job_verdict}
use Rattle.stretches.specs.Rows.{BringsFrom, UnreachedFrom, Unreached}
use Rattle.stretches.proofs.Passing.{stretches-six}
use Rattle.stretches.proofs.Testing.{parities-tests, reaches-tests, bound-tests}
use Rattle.stretches.proofs.Rows.{job-rows}

-- ---- 8

-- where B is lent, 8 is never answered
pub job-never-8 : (n : ℕ) (couplers gates : List ℕ) (room : ℕ) → job_bound n gates ≤ room → number_of (job_verdict n couplers gates room) ≢ 8
job-never-8 n couplers gates room lent e = omega (arith, lent, ((job-rows n couplers gates room).row_8.exactly.0 e).1.1.1.1.1.1.1)

-- there tests 1 to 7 decide
pub judged-enough : (n : ℕ) (couplers gates : List ℕ) (room : ℕ) → job_bound n gates ≤ room → job_verdict n couplers gates room ≡ judged_stretches n couplers gates
unfolding job_verdict
judged-enough n couplers gates room lent =
    ap (and_then (judged_stretches n couplers gates)) (zero-accepted (judged_bound n gates room) (test-passed (bound-tests n gates room) lent))
    ∙ then-accepted (judged_stretches n couplers gates)

-- ---- places of stretches

-- the gates of stretches, and one more for each
span : List (List ℕ) → ℕ
span [] = 0
span (s ∷ ss) = length s + 1 + span ss

span-cut : (h : ℕ → Bool) (xs : List ℕ) → span (cut_at h xs) ≡ length xs + 1
unfolding cut_at ahead span
span-cut h [] = omega arith
span-cut h (x ∷ xs) = go (h x) (cut_at h xs) (span-cut h xs)
  where
    go : (b : Bool) (ss : List (List ℕ)) → span ss ≡ length xs + 1 → span (pick b ([] ∷ ss) (ahead x ss)) ≡ length (x ∷ xs) + 1
    go true ss e = omega (arith, e)
    go false [] e = absurd (omega (arith, e))
    go false (s ∷ ss) e = omega (arith, e)

module _ (n : ℕ) where
  brings-below : (k : ℕ) (ss : List (List ℕ)) (p : ℕ) → BringsFrom n k ss p → p < k + span ss
  unfolding BringsFrom span
  brings-below k [] p b = absurd b
  brings-below k (s ∷ ss) p (inl (i, e, b)) = omega (arith, e, b.within, length-map s (gate_of n))
  brings-below k (s ∷ ss) p (inr b) = omega (arith, brings-below (k + length s + 1) ss p b.1)

  unreached-below : (couplers : List ℕ) (k : ℕ) (ss : List (List ℕ)) (p : ℕ) → UnreachedFrom n couplers k ss p → p < k + span ss
  unfolding UnreachedFrom span
  unreached-below couplers k [] p u = absurd u
  unreached-below couplers k (s ∷ ss) p (inl u) = omega (arith, u.0)
  unreached-below couplers k (s ∷ ss) p (inr u) = omega (arith, unreached-below couplers (k + length s + 1) ss p u.1)

  span-all : (gates : List ℕ) → span (stretches_of n gates) ≡ length gates + 1
  unfolding stretches_of
  span-all gates = span-cut (is_hadamard n) gates

-- ---- in order

module _ (n : ℕ) (couplers gates : List ℕ) where
  low-five : Low (judged_five n couplers gates)
  unfolding judged_five
  low-five =
      low-then (judged_qubits n) _ (low-test (tests-1 n) nowhere)
      (λ q. low-then (judged_couplers n couplers) _ (low-couplers n couplers)
      (λ c. low-then (judged_count gates) _ (low-test (tests-4 gates) nowhere)
      (λ k. low-test (tests-drawn n gates) (λ p f. omega (arith, f.within, (row-passes (tests-4 gates)).exactly.0 k)))))

  module _ (d : number_of (judged_five n couplers gates) ≡ 0) where
    few : n ≤ most_qubits
    unfolding judged_five
    few = ((row-passes (tests-1 n)).exactly.0 (then-zero (judged_qubits n) _ d).0).1

    short : length gates ≤ most_gates
    unfolding judged_five
    short = (row-passes (tests-4 gates)).exactly.0 (then-zero (judged_count gates) _ (then-zero (judged_couplers n couplers) _ (then-zero (judged_qubits n) _ d).1).1).0

    low-parities : Low (judged_parities_from n 0 (stretches_of n gates))
    low-parities = low-test (parities-tests n 0 (stretches_of n gates)) (λ p b. omega (arith, brings-below n 0 (stretches_of n gates) p b, span-all n gates, short))

    low-reaches : number_of (judged_parities_from n 0 (stretches_of n gates)) ≡ 0 → Low (judged_reaches n couplers gates)
    low-reaches z = low-test (reaches-tests n couplers gates (stretches-six n couplers gates d z)) (λ p u. go p u (hadamards_of n gates) refl)
      where
        go : (p : ℕ) → Unreached n couplers gates p → (hs : List ℕ) → hadamards_of n gates ≡ hs → p ≤ most_gates
        go p u [] e = omega (arith, (u.one e).most, few)
        go p u (h ∷ hs) e = omega (arith, unreached-below n couplers 0 (stretches_of n gates) p (u.more (λ z. omega (arith, ap length (sym e ∙ z)))), span-all n gates, short)

  -- every place is at most 4,096
  pub place-most : place_of (judged_stretches n couplers gates) ≤ most_gates
  unfolding judged_stretches
  place-most =
      low-then (judged_five n couplers gates) _ low-five
      (λ d. low-then (judged_parities_from n 0 (stretches_of n gates)) (judged_reaches n couplers gates) (low-parities d) (low-reaches d))
