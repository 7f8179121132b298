-- Tests in order: the first refusal decides, and the number 0 is that of acceptance alone. Assumes nothing.
use mathlib.Core.Path.{◌≡◌, refl, sym, ap, ◌∙◌}
use mathlib.Core.Logic.{◌≢◌}
use mathlib.Core.Bool.{Bool, true, false}
use Prim.Native.Nat.{ℕ}
use native.Mathlib.Omega.{arith}
use lib.Dec.{eqb}
use borrow.Author.Tests.{eqb-true, eq-eqb, ne_eqb}
use Rattle.std.specs.Prelude.{Ok, Err}
use Rattle.sets.specs.Pick.{pick}
use Rattle.verdicts.specs.declared.verdict.Refusal.{Refusal}
use Rattle.verdicts.specs.declared.verdict.Refusal.TheVariants.{Qubits, ManyCouplers, WrongCoupler, ManyGates, BadGate, ManyParities, Unreachable, Room, Line, LongText, Angle, Statement, Unversioned}
use Rattle.verdicts.specs.Verdicts.{Verdict, number_of}
use Rattle.verdicts.specs.InOrder.{and_then}

-- the number 0 is that of acceptance alone
pub zero-accepted : (v : Verdict) → number_of v ≡ 0 → v ≡ Ok tt
zero-accepted (Ok tt) e = refl
zero-accepted (Err Qubits) e = let z : ◌≡◌ {A = ℕ} 1 0 = e in absurd (omega arith)
zero-accepted (Err ManyCouplers) e = let z : ◌≡◌ {A = ℕ} 2 0 = e in absurd (omega arith)
zero-accepted (Err (WrongCoupler k)) e = let z : ◌≡◌ {A = ℕ} 3 0 = e in absurd (omega arith)
zero-accepted (Err ManyGates) e = let z : ◌≡◌ {A = ℕ} 4 0 = e in absurd (omega arith)
zero-accepted (Err (BadGate k)) e = let z : ◌≡◌ {A = ℕ} 5 0 = e in absurd (omega arith)
zero-accepted (Err (ManyParities k)) e = let z : ◌≡◌ {A = ℕ} 6 0 = e in absurd (omega arith)
zero-accepted (Err (Unreachable k)) e = let z : ◌≡◌ {A = ℕ} 7 0 = e in absurd (omega arith)
zero-accepted (Err Room) e = let z : ◌≡◌ {A = ℕ} 8 0 = e in absurd (omega arith)
zero-accepted (Err (Line k)) e = let z : ◌≡◌ {A = ℕ} 10 0 = e in absurd (omega arith)
zero-accepted (Err LongText) e = let z : ◌≡◌ {A = ℕ} 11 0 = e in absurd (omega arith)
zero-accepted (Err (Angle k)) e = let z : ◌≡◌ {A = ℕ} 12 0 = e in absurd (omega arith)
zero-accepted (Err (Statement k)) e = let z : ◌≡◌ {A = ℕ} 13 0 = e in absurd (omega arith)
zero-accepted (Err Unversioned) e = let z : ◌≡◌ {A = ℕ} 14 0 = e in absurd (omega arith)

-- no answer has the number 9
pub no_nine : (v : Verdict) → number_of v ≢ 9
no_nine (Ok tt) e = let z : ◌≡◌ {A = ℕ} 0 9 = e in omega arith
no_nine (Err Qubits) e = let z : ◌≡◌ {A = ℕ} 1 9 = e in omega arith
no_nine (Err ManyCouplers) e = let z : ◌≡◌ {A = ℕ} 2 9 = e in omega arith
no_nine (Err (WrongCoupler k)) e = let z : ◌≡◌ {A = ℕ} 3 9 = e in omega arith
no_nine (Err ManyGates) e = let z : ◌≡◌ {A = ℕ} 4 9 = e in omega arith
no_nine (Err (BadGate k)) e = let z : ◌≡◌ {A = ℕ} 5 9 = e in omega arith
no_nine (Err (ManyParities k)) e = let z : ◌≡◌ {A = ℕ} 6 9 = e in omega arith
no_nine (Err (Unreachable k)) e = let z : ◌≡◌ {A = ℕ} 7 9 = e in omega arith
no_nine (Err Room) e = let z : ◌≡◌ {A = ℕ} 8 9 = e in omega arith
no_nine (Err (Line k)) e = let z : ◌≡◌ {A = ℕ} 10 9 = e in omega arith
no_nine (Err LongText) e = let z : ◌≡◌ {A = ℕ} 11 9 = e in omega arith
no_nine (Err (Angle k)) e = let z : ◌≡◌ {A = ℕ} 12 9 = e in omega arith
no_nine (Err (Statement k)) e = let z : ◌≡◌ {A = ℕ} 13 9 = e in omega arith
no_nine (Err Unversioned) e = let z : ◌≡◌ {A = ℕ} 14 9 = e in omega arith

-- v stands for the verdict w of a test, and k for v's number
module _ {v w : Verdict} {k : ℕ} (e : v ≡ w) (f : k ≡ number_of v) where
  pub passed : k ≡ 0 → number_of w ≡ 0
  passed z = sym (ap number_of e) ∙ sym f ∙ z

  pub refused : (k ≡ 0 → ⊥) → number_of w ≡ 0 → ⊥
  refused z p = z (f ∙ ap number_of e ∙ p)

-- v stands for the verdict w of a test, which ends well or with a refusal
module _ {v w : Verdict} (e : v ≡ w) where
  pub went : {u : Unit {0}} → v ≡ Ok u → number_of w ≡ 0
  went o = sym (ap number_of e) ∙ ap number_of o

  pub stopped : {r : Refusal} → v ≡ Err r → number_of w ≡ 0 → ⊥
  stopped {r} o z = let f : ◌≡◌ {A = Verdict} (Err r) (Ok tt) = sym o ∙ e ∙ zero-accepted w z in cc

pub then-on : (v w : Verdict) → number_of v ≡ 0 → w ≡ and_then v w
then-on v w e = rw (eq-eqb (number_of v) 0 e)

pub then-stop : (v w : Verdict) → (number_of v ≡ 0 → ⊥) → v ≡ and_then v w
then-stop v w e = rw (ne_eqb (number_of v) 0 e)

pub then-zero : (v w : Verdict) → number_of (and_then v w) ≡ 0 → (number_of v ≡ 0) × (number_of w ≡ 0)
then-zero v w e = go (eqb (number_of v) 0) refl e
  where
    go : (t : Bool) → eqb (number_of v) 0 ≡ t → number_of (pick t w v) ≡ 0 → (number_of v ≡ 0) × (number_of w ≡ 0)
    go true q e = (eqb-true (number_of v) 0 q, e)
    go false q e = let z : ◌≡◌ {A = Bool} false true = sym q ∙ eq-eqb (number_of v) 0 e in let y : ◌≡◌ {A = ℕ} 0 1 = cc z in absurd (omega arith)

pub then-assoc : (u v w : Verdict) → and_then (and_then u v) w ≡ and_then u (and_then v w)
then-assoc u v w = go (eqb (number_of u) 0) refl
  where
    go : (t : Bool) → eqb (number_of u) 0 ≡ t → and_then (pick t v u) w ≡ pick t (and_then v w) u
    go true e = refl
    go false e = ap (λ (b : Bool). pick b w u) e

-- an accepting test behind another changes nothing
pub then-accepted : (v : Verdict) → and_then v (Ok tt) ≡ v
then-accepted v = go (eqb (number_of v) 0) refl
  where
    go : (b : Bool) → eqb (number_of v) 0 ≡ b → pick b (Ok tt) v ≡ v
    go true e = sym (zero-accepted v (eqb-true (number_of v) 0 e))
    go false e = refl
