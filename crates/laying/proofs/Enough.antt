-- Laying never answers 8 where the largest B is lent, and the place of a refusal is no larger than a job's limits. Assumes nothing.
use mathlib.Core.Path.{◌≡◌, refl}
use mathlib.Core.Logic.{◌≢◌}
use mathlib.Core.Bool.{Bool, true, false}
use mathlib.Core.List.{List}
use Prim.Native.Nat.{ℕ, ◌≤◌, ◌<◌}
use native.Mathlib.Omega.{arith}
use lib.Dec.{ltb}
use lib.ListN.{length, length-map}
use borrow.Author.Tests.{ltb-true}
use Rattle.std.specs.Prelude.{Ok, Err}
use Rattle.sets.specs.Pick.{pick}
use Rattle.gates.specs.Limits.{most_qubits, most_gates}
use Rattle.gates.specs.declared.gate.Gate.{Gate}
use Rattle.gates.specs.Layout.{gate_of, gates_of}
use Rattle.verdicts.specs.declared.verdict.Refusal.TheVariants.{Unreachable}
use Rattle.verdicts.specs.Verdicts.{number_of, place_of, judged_qubits, judged_couplers, judged_gates}
use Rattle.verdicts.specs.Rows.{Passes1, Passes2, Passes3, Passes5}
use Rattle.verdicts.proofs.Rows.{row-passes, tests-1, tests-5}
use Rattle.verdicts.proofs.Places.{Low, low-test, low-then, nowhere, low-couplers}
use Rattle.tallies.specs.Tally.{bound_of, largest}
use Rattle.tallies.proofs.Tallies.{bound-most}
use Rattle.circuit.specs.Circuit.{run, start}
use Rattle.meaning.specs.Borne.{terms}
use Rattle.meaning.specs.Same.{Reachable}
use Rattle.meaning.proofs.Bearing.{terms-few}
use Rattle.chip.specs.Couplers.{near_of}
use Rattle.isles.specs.Islands.{islands_of}
use Rattle.judging.specs.Tests.{judged_count, judged_parities, stray_at, scattered, judged_reach, judged_meaning, verdict_of, verdict_on}
use Rattle.laying.specs.Rows.{Passes4, Passes6}
use Rattle.laying.proofs.InOrder.{tests-4}
use Rattle.laying.proofs.Rows.{tests-6, tests-8, rows}

-- ---- 8

-- past test 1 there are at most 20 qubits, and past test 6 at most 256 terms
pub lays-never-8 : (n : ℕ) (xs ys : List ℕ) (room : ℕ) → largest ≤ room → number_of (verdict_of n xs ys room) ≢ 8
lays-never-8 n xs ys room lent e = go ((rows n xs ys room).row_8.exactly.0 e)
  where
    gs : List Gate
    gs = gates_of n ys

    go : Passes1 n × (Passes2 xs × (Passes3 n xs × (Passes4 ys × (Passes5 n ys × (Passes6 gs × (Reachable n xs gs × (room < bound_of n (length (terms gs))))))))) → ⊥
    go (p1, (p2, (p3, (p4, (p5, (p6, (p7, short))))))) = omega (arith, lent, short, bound-most n (length (terms gs)) p1.1 (omega (arith, p6, terms-few gs)))

-- ---- places

reach-low : (n : ℕ) (islands : List ℕ) (gs : List Gate) → n ≤ most_qubits → Low (judged_reach n islands gs)
unfolding judged_reach
reach-low n islands gs few = go (ltb k n) (scattered islands (terms gs)) refl
  where
    k : ℕ
    k = stray_at n islands (run gs start)

    go : (a b : Bool) → ltb k n ≡ a → Low (pick a (Err (Unreachable k)) (pick b (Err (Unreachable n)) (Ok tt)))
    go true b e = omega (arith, ltb-true k n e, few)
    go false true e = omega (arith, few)
    go false false e = omega arith

pub place-most : (n : ℕ) (xs ys : List ℕ) (room : ℕ) → place_of (verdict_of n xs ys room) ≤ most_gates
unfolding verdict_of verdict_on judged_meaning
place-most n xs ys room =
    let gs : List Gate = gates_of n ys in
    low-then (judged_qubits n) _ (low-test (tests-1 n) nowhere) (λ q.
    low-then (judged_couplers n xs) _ (low-couplers n xs) (λ c.
    low-then (judged_count ys) _ (low-test (tests-4 ys) nowhere) (λ k.
    let few : length ys ≤ most_gates = (row-passes (tests-4 ys)).exactly.0 k in
    low-then (judged_gates n ys) _ (low-test (tests-5 n ys) (λ p f. omega (arith, f.within, few))) (λ g.
    low-then (judged_parities gs) _ (low-test (tests-6 gs) (λ p b. omega (arith, b.within, length-map ys (gate_of n), few))) (λ s.
    low-then (judged_reach n (islands_of (near_of n xs)) gs) _ (reach-low n (islands_of (near_of n xs)) gs ((row-passes (tests-1 n)).exactly.0 q).1)
    (λ r. low-test (tests-8 n gs room) nowhere))))))
