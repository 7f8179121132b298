-- Answers: what tests in order come to by what each of them answers, and what an answer with a value says of its verdict. Assumes nothing.
use mathlib.Core.Path.{◌≡◌, refl}
use Prim.Native.Nat.{ℕ}
use lib.Dec.{eqb}
use borrow.Author.Tests.{ne_eqb}
use Rattle.std.specs.Prelude.{Ok, Err}
use Rattle.std.specs.Result.{result_and, result_unwrap_or}
use Rattle.sets.specs.Pick.{pick}
use Rattle.verdicts.specs.declared.verdict.Refusal.{Refusal}
use Rattle.verdicts.specs.Verdicts.{Verdict, number_of, verdict_in}
use Rattle.verdicts.specs.InOrder.{and_then}
use Rattle.verdicts.proofs.Judged.{zero-accepted}

-- no refusal has the number 0
refusal-numbered : (r : Refusal) → number_of (Err r) ≡ 0 → ⊥
refusal-numbered r e = cc (zero-accepted (Err r) e)

-- ---- tests in order

pub then-ok : {v w : Verdict} {u : Unit} → v ≡ Ok u → and_then v w ≡ w
then-ok e = rw e refl

pub then-err : {v : Verdict} {r : Refusal} (w : Verdict) → v ≡ Err r → and_then v w ≡ Err r
then-err {r = r} w e = rw e (rw (ne_eqb (number_of (Err r)) 0 (refusal-numbered r)))

-- ---- an answer that has the value x where the verdict v accepts, and else its refusal

pub gives-value : {A : Type 0} {v : Verdict} {u : Unit} (x : A) → v ≡ Ok u → Ok x ≡ result_and v (Ok x)
gives-value x e = rw e refl

pub gives-refusal : {A : Type 0} {v : Verdict} {r : Refusal} (x : A) → v ≡ Err r → Err r ≡ result_and v (Ok x)
gives-refusal x e = rw e refl

pub answered-value : {A : Type 0} (v : Verdict) (x y : A) → result_and v (Ok x) ≡ Ok y → (number_of v ≡ 0) × (y ≡ x)
answered-value (Ok u) x y e = (refl, cc)
answered-value (Err r) x y e = cc

pub answered-refusal : {A : Type 0} (v : Verdict) (x : A) (r : Refusal) → result_and v (Ok x) ≡ Err r → (number_of v ≡ 0 → ⊥) × (Err r ≡ v)
answered-refusal (Ok u) x r e = cc
answered-refusal (Err q) x r e = (refusal-numbered q, cc)

pub answered-verdict : {A : Type 0} (v : Verdict) (x : A) → verdict_in (result_and v (Ok x)) ≡ v
answered-verdict (Ok u) x = refl
answered-verdict (Err r) x = refl

pub answered-or : {A : Type 0} (v : Verdict) (x d : A) → result_unwrap_or (result_and v (Ok x)) d ≡ pick (eqb (number_of v) 0) x d
answered-or (Ok u) x d = refl
answered-or (Err r) x d = rw (ne_eqb (number_of (Err r)) 0 (refusal-numbered r))
