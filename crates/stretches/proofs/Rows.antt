-- The table of document 01 holds of what laying a job answers, row by row. Assumes nothing.
use mathlib.Core.Path.{◌≡◌, sym, ap, ◌∙◌, subst}
use mathlib.Core.List.{List}
use Prim.Native.Nat.{ℕ}
use Rattle.verdicts.specs.Verdicts.{Verdict, number_of, judged_qubits, judged_couplers, judged_drawn}
use Rattle.verdicts.specs.InOrder.{and_then}
use Rattle.verdicts.specs.Rows.{Passes1, Passes2, Passes3, PassesDrawn}
use Rattle.verdicts.proofs.Judged.{then-on, then-assoc}
use Rattle.verdicts.proofs.Rows.{test-passed, tests-1, tests-drawn, couplers-passed}
use Rattle.judging.specs.Tests.{judged_count}
use Rattle.laying.specs.Rows.{Passes4}
use Rattle.laying.proofs.InOrder.{tests-4, in_order}
use Rattle.stretches.specs.Stretches.{stretches_of}
use Rattle.stretches.specs.Tests.{judged_five, judged_parities_from, judged_reaches, judged_bound, judged_stretches, job_verdict}
use Rattle.stretches.specs.Rows.{JobRows}
use Rattle.stretches.proofs.Passing.{stretches-six}
use Rattle.stretches.proofs.Testing.{parities-tests, reaches-tests, bound-tests}

module _ (n : ℕ) (couplers gates : List ℕ) (room : ℕ) where
  abbrev stretches : List (List ℕ)
  stretches = stretches_of n gates

  abbrev parities : Verdict
  parities = judged_parities_from n 0 stretches

  abbrev reach : Verdict
  reach = judged_reaches n couplers gates

  abbrev bound : Verdict
  bound = judged_bound n gates room

  -- 1 to 8, of which 1 to 5 and 1 to 7 are functions
  all-judged : and_then (judged_qubits n) (and_then (judged_couplers n couplers) (and_then (judged_count gates) (and_then (judged_drawn n gates) (and_then parities (and_then reach bound))))) ≡ job_verdict n couplers gates room
  unfolding job_verdict judged_stretches judged_five
  all-judged =
      let k : Verdict = judged_count gates in
      let g : Verdict = judged_drawn n gates in
      let later : Verdict = and_then parities (and_then reach bound) in
      ap (and_then (judged_qubits n)) (ap (and_then (judged_couplers n couplers)) (sym (then-assoc k g later)) ∙ sym (then-assoc (judged_couplers n couplers) (and_then k g) later))
      ∙ sym (then-assoc (judged_qubits n) (and_then (judged_couplers n couplers) (and_then k g)) later)
      ∙ ap (and_then (judged_five n couplers gates)) (sym (then-assoc parities reach bound)) ∙ sym (then-assoc (judged_five n couplers gates) (and_then parities reach) bound)

  five : Passes1 n → Passes2 couplers → Passes3 n couplers → Passes4 gates → PassesDrawn n gates → number_of (judged_five n couplers gates) ≡ 0
  unfolding judged_five
  five p1 p2 p3 p4 p5 =
      sym (ap number_of (then-on (judged_count gates) _ (test-passed (tests-4 gates) p4) ∙ then-on (judged_couplers n couplers) _ (couplers-passed n couplers p2 p3) ∙ then-on (judged_qubits n) _ (test-passed (tests-1 n) p1)))
      ∙ test-passed (tests-drawn n gates) p5

  -- every row holds of the verdict of a job
  pub job-rows : JobRows n couplers gates room (job_verdict n couplers gates room)
  job-rows =
      let r = in_order n couplers gates (judged_drawn n gates) parities reach bound (tests-drawn n gates) (parities-tests n 0 stretches)
      (λ p1 p2 p3 p4 p5 p6. reaches-tests n couplers gates (stretches-six n couplers gates (five p1 p2 p3 p4 p5) (test-passed (parities-tests n 0 stretches) p6))) (bound-tests n gates room) in
      subst (JobRows n couplers gates room) all-judged
      (record { row_0 = r.row_0; row_1 = r.row_1; row_2 = r.row_2; row_3 = r.row_3; row_4 = r.row_4; row_5 = r.row_5; row_6 = r.row_6; row_7 = r.row_7; row_8 = r.row_8 })
