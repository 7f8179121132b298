-- What the entry point answers and leaves is what the definitions say. Assumes nothing.
use mathlib.Core.Path.{◌≡◌, refl, sym, ap, ap₂, ◌∙◌}
use mathlib.Core.Bool.{Bool, true, false}
use mathlib.Core.List.{List, ◌++◌}
use Prim.Native.Nat.{ℕ, ◌+◌, ◌≤◌}
use native.Mathlib.Omega.{arith}
use lib.Dec.{eqb, ltb}
use lib.ListN.{length, take, drop}
use lib.Seq.{sets, sets-eq, length-sets, take-append_seam, length-take-le}
use borrow.Author.Tests.{eq-eqb, ne_eqb, ltb-false}
use Rattle.std.specs.Prelude.{Ok, Err}
use Rattle.sets.specs.Pick.{pick}
use Rattle.gates.specs.Layout.{gates_of}
use Rattle.verdicts.specs.declared.verdict.Refusal.{Refusal}
use Rattle.verdicts.specs.declared.verdict.Refusal.TheVariants.{Room}
use Rattle.verdicts.specs.Verdicts.{Verdict, number_of}
use Rattle.verdicts.proofs.Judged.{zero-accepted, stopped, then-on, then-stop}
use Rattle.laying.specs.Answers.{Answer, counts_of}
use Rattle.laying.proofs.Going.{going, going-accepted}
use Rattle.laying.specs.declared.lay.Laid.{Laid}
use Rattle.stretches.specs.Stretches.{stretches_of}
use Rattle.stretches.specs.Tests.{judged_five, judged_parities_from, judged_reaches, job_bound, judged_bound, judged_stretches, job_verdict}
use Rattle.stretches.specs.Laid.{job_records, job_phase, job_answered, job_output}
use Rattle.stretches.proofs.Passing.{job-passed, job-bounded}

module _ (n : ℕ) (xs ys : List ℕ) where
  -- ---- 1 to 7

  pub judge-drawing : (number_of (judged_five n xs ys) ≡ 0 → ⊥) → judged_five n xs ys ≡ judged_stretches n xs ys
  unfolding judged_stretches
  judge-drawing a = then-stop (judged_five n xs ys) _ a

  module _ (a : number_of (judged_five n xs ys) ≡ 0) where
    pub judge-parities : (number_of (judged_parities_from n 0 (stretches_of n ys)) ≡ 0 → ⊥) → judged_parities_from n 0 (stretches_of n ys) ≡ judged_stretches n xs ys
    unfolding judged_stretches
    judge-parities b = then-stop (judged_parities_from n 0 (stretches_of n ys)) _ b ∙ then-on (judged_five n xs ys) _ a

    pub judge-reaches : number_of (judged_parities_from n 0 (stretches_of n ys)) ≡ 0 → judged_reaches n xs ys ≡ judged_stretches n xs ys
    unfolding judged_stretches
    judge-reaches b = then-on (judged_parities_from n 0 (stretches_of n ys)) _ b ∙ then-on (judged_five n xs ys) _ a

  pub room-enough : (room : ℕ) → number_of (judged_bound n ys room) ≡ 0 → job_bound n ys ≤ room
  unfolding judged_bound
  room-enough room e = go (ltb room (job_bound n ys)) refl e
    where
      go : (b : Bool) → ltb room (job_bound n ys) ≡ b → number_of (pick b (Err Room) (Ok tt)) ≡ 0 → job_bound n ys ≤ room
      go true x e = absurd (let y : ◌≡◌ {A = ℕ} 8 0 = e in omega arith)
      go false x e = ltb-false room (job_bound n ys) x

  module _ (out : List ℕ) where
    abbrev room : ℕ
    room = length out

    abbrev R : List ℕ
    R = job_records n xs ys

    abbrev verdict : Verdict
    verdict = job_verdict n xs ys room

    -- ---- refused

    module _ {r : Refusal} (answer : Answer) (h : answer ≡ Err r) where
      answers-refused : verdict ≡ Err r → (answer ≡ job_answered n xs ys room) × (out ≡ job_output n xs ys out)
      unfolding job_answered job_output
      answers-refused e = (
        h ∙ sym (ap (λ (v : Verdict). going v (counts_of (gates_of n R) (job_phase n ys))) e),
        sym (ap (λ (t : Bool). pick t (R ++ drop (length R) out) out) (ne_eqb (number_of verdict) 0 (stopped refl e))),
      )

      pub refused : judged_stretches n xs ys ≡ Err r → (answer ≡ job_answered n xs ys room) × (out ≡ job_output n xs ys out)
      refused e = answers-refused (unfold job_verdict in sym (then-stop (judged_stretches n xs ys) _ (stopped refl e)) ∙ e)

      pub refused-8 : number_of (judged_stretches n xs ys) ≡ 0 → judged_bound n ys room ≡ Err r → (answer ≡ job_answered n xs ys room) × (out ≡ job_output n xs ys out)
      refused-8 a e = answers-refused (unfold job_verdict in sym (then-on (judged_stretches n xs ys) _ a) ∙ e)

    module _ (a : number_of (judged_stretches n xs ys) ≡ 0) where
      -- ---- accepted

      module _ (b : number_of (judged_bound n ys room) ≡ 0) where
        pub accepted-is : verdict ≡ Ok tt
        unfolding job_verdict
        accepted-is = sym (then-on (judged_stretches n xs ys) _ a) ∙ zero-accepted (judged_bound n ys room) b

        accepted : eqb (number_of verdict) 0 ≡ true
        accepted = eq-eqb (number_of verdict) 0 (ap number_of accepted-is)

        pub fits : length R ≤ room
        fits = omega (arith, job-bounded n xs ys (job-passed n xs ys a), room-enough room b)

        module _ (out' : List ℕ) (k : ℕ) (m : out' ≡ sets out 0 R) (p : k ≡ length R) where
          pub part-fits : k ≤ length out'
          part-fits = omega (arith, p, fits, ap length m, length-sets out 0 R)

          pub part-long : k ≡ length (take k out')
          part-long = sym (length-take-le k out' part-fits)

          memory : out' ≡ R ++ drop (length R) out
          memory = m ∙ sets-eq R out 0 (omega (arith, fits)) ∙ ap (λ (j : ℕ). R ++ drop j out) (let z : 0 + length R ≡ length R = omega arith in z)

          read : take k out' ≡ R
          read = ap₂ (λ (i : ℕ) (l : List ℕ). take i l) p memory ∙ take-append_seam R (drop (length R) out)

          pub counted : (l : Laid) (f : ℕ) → f ≡ job_phase n ys → l ≡ counts_of (gates_of n (take k out')) f → (Ok l ≡ job_answered n xs ys room) × (out' ≡ job_output n xs ys out)
          unfolding job_answered job_output
          counted l f d h = (
            ap Ok (h ∙ ap₂ counts_of (ap (gates_of n) read) d) ∙ sym (going-accepted verdict (counts_of (gates_of n R) (job_phase n ys)) (ap number_of accepted-is)),
            memory ∙ sym (ap (λ (t : Bool). pick t (R ++ drop (length R) out) out) accepted),
          )
