-- The table of document 01 holds of what laying answers, row by row. Assumes nothing.
use mathlib.Core.Path.{◌≡◌, refl, sym, ap, ◌∙◌, subst}
use mathlib.Core.Logic.{◌⊎◌, inl, inr}
use mathlib.Core.Bool.{Bool, true, false}
use mathlib.Core.List.{List}
use Prim.Native.Nat.{ℕ, zero, suc, ◌+◌, ◌≤◌, ◌<◌}
use native.Mathlib.Omega.{arith}
use lib.Dec.{ltb}
use lib.ListN.{length, take}
use borrow.Author.Tests.{ltb-true, ltb-false}
use Rattle.std.specs.Prelude.{Ok, Err}
use Rattle.sets.specs.Pick.{pick}
use Rattle.sets.proofs.Finding.{first-true, first-before}
use Rattle.gates.specs.declared.gate.Gate.{Gate}
use Rattle.gates.specs.Limits.{most_parities}
use Rattle.gates.specs.Layout.{gates_of}
use Rattle.verdicts.specs.declared.verdict.Refusal.TheVariants.{ManyParities, Room}
use Rattle.verdicts.specs.Verdicts.{number_of, place_of, judged_qubits, judged_couplers, judged_gates}
use Rattle.verdicts.specs.Rows.{Nowhere, Passes1, Passes2, Passes3, Passes5}
use Rattle.verdicts.proofs.Judged.{then-on}
use Rattle.verdicts.proofs.Rows.{Tests, test-passed, limit-tests, tests-1, tests-5, couplers-passed}
use Rattle.tallies.specs.Tally.{bound_of}
use Rattle.meaning.specs.Borne.{borne, borne_from, over_at, terms}
use Rattle.meaning.proofs.Bearing.{borne-grows}
use Rattle.chip.specs.Couplers.{near_of}
use Rattle.isles.specs.Islands.{islands_of}
use Rattle.judging.specs.Tests.{judged_count, judged_parities, judged_reach, judged_room, judged_meaning, verdict_of, verdict_on}
use Rattle.judging.proofs.Judging.{over-le, over-few}
use Rattle.laying.specs.Demands.{judged_six}
use Rattle.laying.specs.Rows.{Passes4, Passes6, Brings, Passes8, Rows}
use Rattle.laying.proofs.InOrder.{tests-4, in_order}
use Rattle.laying.proofs.Demands.{reach-tests}

-- ---- tests 6 and 8

pub tests-8 : (n : ℕ) (drawn : List Gate) (room : ℕ) → Tests (judged_room n drawn room) 8 (Passes8 n drawn room) (room < bound_of n (length (terms drawn))) Nowhere
unfolding judged_room
tests-8 n drawn room = limit-tests room (bound_of n (length (terms drawn))) (Err Room) (omega arith) refl

none-borne : (gs : List Gate) → length (borne (take 0 gs)) ≡ 0
unfolding borne borne_from
none-borne gs = refl

brings : (gs : List Gate) → over_at gs < length gs → Brings gs (over_at gs)
unfolding over_at
brings gs l = record { within = l; before = before (over_at gs) refl; here = ltb-true _ _ (first-true over (length gs) 0 (omega arith)) }
  where
    over : ℕ → Bool
    over k = ltb most_parities (length (borne (take (k + 1) gs)))

    before : (k : ℕ) → over_at gs ≡ k → length (borne (take k gs)) ≤ most_parities
    before zero e = omega (arith, none-borne gs)
    before (suc k) e =
        subst (λ (m : ℕ). length (borne (take m gs)) ≤ most_parities) {x = k + 1} {y = suc k} (omega arith)
        (ltb-false most_parities (length (borne (take (k + 1) gs))) (first-before over (length gs) 0 k (omega arith) (omega (arith, e))))

pub tests-6 : (gs : List Gate) → Tests (judged_parities gs) 6 (Passes6 gs) (most_parities < length (borne gs)) (Brings gs)
unfolding judged_parities
tests-6 gs = record { decided = go (ltb (over_at gs) (length gs)) refl; apart = λ (p : Passes6 gs) (f : most_parities < length (borne gs)). omega arith; refuses = omega arith }
  where
    go : (b : Bool) → ltb (over_at gs) (length gs) ≡ b → let v = pick b (Err (ManyParities (over_at gs))) (Ok tt) in
        ((number_of v ≡ 0) × Passes6 gs) ⊎ ((number_of v ≡ 6) × (most_parities < length (borne gs)) × Brings gs (place_of v))
    go true e =
        let l : over_at gs < length gs = ltb-true (over_at gs) (length gs) e in
        inr (refl, omega (arith, (brings gs l).here, borne-grows (over_at gs + 1) gs), brings gs l)
    go false e = inl (refl, over-few gs (omega (arith, ltb-false (over_at gs) (length gs) e, over-le gs)))

-- ---- the table

module _ (n : ℕ) (couplers gates : List ℕ) (room : ℕ) where
  abbrev drawn : List Gate
  drawn = gates_of n gates

  six : Passes1 n → Passes2 couplers → Passes3 n couplers → Passes4 gates → Passes5 n gates → Passes6 drawn → number_of (judged_six n couplers gates) ≡ 0
  unfolding judged_six
  six p1 p2 p3 p4 p5 p6 =
      sym (ap number_of (then-on (judged_gates n gates) (judged_parities drawn) (test-passed (tests-5 n gates) p5) ∙ then-on (judged_count gates) _ (test-passed (tests-4 gates) p4)
      ∙ then-on (judged_couplers n couplers) _ (couplers-passed n couplers p2 p3) ∙ then-on (judged_qubits n) _ (test-passed (tests-1 n) p1)))
      ∙ test-passed (tests-6 drawn) p6

  pub rows : Rows n couplers gates room (verdict_of n couplers gates room)
  unfolding verdict_of verdict_on judged_meaning
  rows =
      let r = in_order n couplers gates (judged_gates n gates) (judged_parities drawn) (judged_reach n (islands_of (near_of n couplers)) drawn) (judged_room n drawn room) (tests-5 n gates) (tests-6 drawn)
      (λ p1 p2 p3 p4 p5 p6. reach-tests n couplers gates room (six p1 p2 p3 p4 p5 p6)) (tests-8 n drawn room) in
      record { row_0 = r.row_0; row_1 = r.row_1; row_2 = r.row_2; row_3 = r.row_3; row_4 = r.row_4; row_5 = r.row_5; row_6 = r.row_6; row_7 = r.row_7; row_8 = r.row_8 }
