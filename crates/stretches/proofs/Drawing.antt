-- Tests 1 to 5 in order, as the code makes them. Assumes nothing.
use mathlib.Core.Path.{◌≡◌, sym, ap, ◌∙◌}
use mathlib.Core.Bool.{Bool}
use mathlib.Core.List.{List}
use Prim.Native.Nat.{ℕ, ◌≤◌, ◌<◌}
use native.Mathlib.Omega.{arith}
use lib.ListN.{length}
use borrow.Author.Tests.{lt-ltb, le-ltb}
use Rattle.std.specs.Prelude.{Ok, Err}
use Rattle.sets.specs.Pick.{pick}
use Rattle.gates.specs.Limits.{most_gates}
use Rattle.verdicts.specs.declared.verdict.Refusal.TheVariants.{ManyGates}
use Rattle.verdicts.specs.Verdicts.{number_of, judged_qubits, judged_couplers, judged_drawn}
use Rattle.verdicts.proofs.Judged.{then-on, then-stop}
use Rattle.judging.specs.Tests.{judged_count}
use Rattle.stretches.specs.Tests.{judged_five}

module _ (n : ℕ) (xs ys : List ℕ) where
  pub drawing-qubits : (number_of (judged_qubits n) ≡ 0 → ⊥) → judged_qubits n ≡ judged_five n xs ys
  unfolding judged_five
  drawing-qubits a = then-stop (judged_qubits n) _ a

  module _ (a : number_of (judged_qubits n) ≡ 0) where
    pub drawing-couplers : (number_of (judged_couplers n xs) ≡ 0 → ⊥) → judged_couplers n xs ≡ judged_five n xs ys
    unfolding judged_five
    drawing-couplers b = then-stop (judged_couplers n xs) _ b ∙ then-on (judged_qubits n) _ a

    module _ (b : number_of (judged_couplers n xs) ≡ 0) where
      pub drawing-many : most_gates < length ys → Err ManyGates ≡ judged_five n xs ys
      unfolding judged_five judged_count
      drawing-many c =
          let e : judged_count ys ≡ Err ManyGates = ap (λ (t : Bool). pick t (Err ManyGates) (Ok tt)) (lt-ltb most_gates (length ys) c) in
          sym e ∙ then-stop (judged_count ys) _ (λ z. let y : ◌≡◌ {A = ℕ} 4 0 = sym (ap number_of e) ∙ z in omega arith) ∙ then-on (judged_couplers n xs) _ b ∙ then-on (judged_qubits n) _ a

      pub drawing-drawn : length ys ≤ most_gates → judged_drawn n ys ≡ judged_five n xs ys
      unfolding judged_five judged_count
      drawing-drawn c =
          then-on (judged_count ys) _ (ap (λ (t : Bool). number_of (pick t (Err ManyGates) (Ok tt))) (le-ltb most_gates (length ys) c)) ∙ then-on (judged_couplers n xs) _ b ∙ then-on (judged_qubits n) _ a
