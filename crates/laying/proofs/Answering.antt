-- What the entry point answers and leaves is what the definitions say. Assumes nothing.
use mathlib.Core.Path.{◌≡◌, refl, sym, ap, ap₂, ◌∙◌}
use mathlib.Core.Bool.{Bool, true}
use mathlib.Core.List.{List, ◌++◌, map}
use Prim.Native.Nat.{ℕ, ◌+◌}
use native.Mathlib.Omega.{arith}
use lib.Dec.{eqb}
use lib.ListN.{length, take, drop}
use borrow.Author.Tests.{eq-eqb, ne_eqb}
use Rattle.std.specs.Prelude.{Ok, Err}
use Rattle.sets.specs.Pick.{pick}
use Rattle.gates.specs.declared.gate.Gate.{Gate}
use Rattle.gates.specs.Layout.{gates_of, record_of}
use Rattle.circuit.specs.Phase.{phase_of}
use Rattle.verdicts.specs.declared.verdict.Refusal.{Refusal}
use Rattle.verdicts.proofs.Judged.{stopped}
use Rattle.verdicts.specs.Verdicts.{Verdict, number_of}
use Rattle.emitting.specs.Emit.{emit, emit_at}
use Rattle.emitting.proofs.Emitting.{emit-room}
use Rattle.laying.specs.declared.lay.Laid.{Laid}
use Rattle.chip.specs.Couplers.{near_of}
use Rattle.laying.specs.Laid.{laid_of}
use Rattle.laying.specs.Layable.{Layable}
use Rattle.judging.specs.Tests.{verdict_of}
use Rattle.laying.specs.Answers.{Answer, circuit_of, counts_of, answered, output_of}
use Rattle.ways.proofs.Replaying.{zeros, gates_read, memory-fits}
use Rattle.ways.proofs.Owned.{part_held}
use Rattle.laying.proofs.Going.{going, going-accepted}
use Rattle.laying.proofs.Accepting.{job-layable, job-room}
use Rattle.laying.proofs.Accepted.{circuit-good, circuit-fits, circuit-bounded}

module _ (n : ℕ) (xs ys : List ℕ) (out : List ℕ) where
  abbrev room : ℕ
  room = length out

  abbrev C : List Gate
  C = circuit_of n xs ys

  -- what is laid on the job's own chip is its circuit
  pub circuit-on : (near : List ℕ) → near ≡ near_of n xs → laid_of n near (gates_of n ys) ≡ C
  unfolding circuit_of
  circuit-on near e = ap (λ (l : List ℕ). laid_of n l (gates_of n ys)) e

  -- ---- refused

  pub refused : {r : Refusal} (a : Answer) → a ≡ Err r → verdict_of n xs ys room ≡ Err r → (a ≡ answered n xs ys room) × (out ≡ output_of n xs ys out)
  unfolding answered output_of
  refused a h e = (
    h ∙ sym (ap (λ (v : Verdict). going v (counts_of C (phase_of (gates_of n ys)))) e),
    sym (ap (λ (t : Bool). pick t (map record_of C ++ drop (length C) out) out) (ne_eqb (number_of (verdict_of n xs ys room)) 0 (stopped refl e))),
  )

  -- ---- accepted

  module _ (e : number_of (verdict_of n xs ys room) ≡ 0) where
    abbrev job : Layable n xs ys
    job = job-layable n xs ys room e

    accepted : eqb (number_of (verdict_of n xs ys room)) 0 ≡ true
    accepted = eq-eqb (number_of (verdict_of n xs ys room)) 0 e

    module _ (laid : List ℕ) (k : ℕ) (a : laid ≡ emit zeros 0 C) (b : k ≡ emit_at zeros 0 C) where
      counts-are : (l : Laid) (phase : ℕ) → phase ≡ phase_of (gates_of n ys) → l ≡ counts_of (gates_of n (take k laid)) phase → Ok l ≡ answered n xs ys room
      unfolding answered
      counts-are l phase d h =
          let f = job.few in
          ap Ok (h ∙ ap₂ counts_of (ap₂ (λ (i : ℕ) (l : List ℕ). gates_of n (take i l)) b a ∙ gates_read C (circuit-fits n xs ys job) n (omega arith) (circuit-good n xs ys job)) d)
          ∙ sym (going-accepted (verdict_of n xs ys room) (counts_of C (phase_of (gates_of n ys))) e)

      output-is : (out' : List ℕ) → out' ≡ emit out 0 (gates_of 20 (take k laid)) → out' ≡ output_of n xs ys out
      unfolding output_of
      output-is out' h =
          h ∙ ap (emit out 0) (part_held C laid k a b ∙ memory-fits C (circuit-fits n xs ys job))
          ∙ emit-room out 0 C (omega (arith, circuit-bounded n xs ys job, job-room n xs ys room e))
          ∙ ap (λ (j : ℕ). map record_of C ++ drop j out) (let z : 0 + length C ≡ length C = omega arith in z)
          ∙ sym (ap (λ (t : Bool). pick t (map record_of C ++ drop (length C) out) out) accepted)

      pub copied : (l : Laid) (phase : ℕ) (out' : List ℕ) → phase ≡ phase_of (gates_of n ys) → l ≡ counts_of (gates_of n (take k laid)) phase → out' ≡ emit out 0 (gates_of 20 (take k laid))
          → (Ok l ≡ answered n xs ys room) × (out' ≡ output_of n xs ys out)
      copied l phase out' d g h = (counts-are l phase d g, output-is out' h)
