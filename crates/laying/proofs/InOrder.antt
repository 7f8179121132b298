-- The rows of tests 1 to 8 in order, whatever 5 to 8 ask: they are those of one stretch, or those of a job. Assumes nothing.
use mathlib.Core.Path.{◌≡◌, refl, sym, ap, ◌∙◌, subst}
use mathlib.Core.Logic.{◌≢◌, ◌⊎◌, inl, inr}
use mathlib.Core.List.{List}
use Prim.Native.Nat.{ℕ, ◌+◌, ◌<◌}
use native.Mathlib.Omega.{arith}
use lib.ListN.{length}
use Rattle.std.specs.Prelude.{Err}
use Rattle.gates.specs.Limits.{most_couplers, most_gates}
use Rattle.verdicts.specs.declared.verdict.Refusal.TheVariants.{ManyGates}
use Rattle.verdicts.specs.Verdicts.{Verdict, judged_qubits, judged_couplers}
use Rattle.verdicts.specs.InOrder.{and_then}
use Rattle.verdicts.specs.Rows.{Row, Nowhere, Some, First, Passes1, Passes2, Passes3, WrongRecord}
use Rattle.verdicts.proofs.Judged.{then-assoc}
use Rattle.verdicts.proofs.Rows.{Tests, row-fails, row-passes, row-then, row_first, Beyond, beyond-not, beyond-test, beyond-then, limit-tests, tests-1, tests-2, tests-3, judged_many, judged_wrong, couplers-parted}
use Rattle.judging.specs.Tests.{judged_count}
use Rattle.laying.specs.Rows.{Passes4}

pub tests-4 : (gates : List ℕ) → Tests (judged_count gates) 4 (Passes4 gates) (most_gates < length gates) Nowhere
unfolding judged_count
tests-4 gates = limit-tests most_gates (length gates) (Err ManyGates) (omega arith) refl

-- the number j is 0 or that of a test behind k
abbrev Later : ℕ → ℕ → Type 0
Later k j = (j ≡ 0) ⊎ (k < j)

later-not : (k j : ℕ) → 0 < k → Later k j → j ≢ k
later-not k j h (inl z) e = omega (arith, h, z, e)
later-not k j h (inr l) e = omega (arith, l, e)

later-than : (k j : ℕ) → Later (k + 1) j → Later k j
later-than k j (inl z) = inl z
later-than k j (inr l) = inr (omega (arith, l))

-- v is what tests 1 to 8 in order answer. Of test k of the last four, Pk says that it is passed, Fk that it is failed, Ak the place
pub record InOrder (n : ℕ) (couplers gates : List ℕ) (P5 F5 P6 F6 P7 F7 P8 F8 : Type 0) (A5 A6 A7 : ℕ → Type 0) (v : Verdict) : Type 0 where
  pub row_0 : Row v 0 (Passes1 n × (Passes2 couplers × (Passes3 n couplers × (Passes4 gates × (P5 × (P6 × (P7 × P8))))))) Nowhere
  pub row_1 : Row v 1 (Passes1 n → ⊥) Nowhere
  pub row_2 : Row v 2 (Passes1 n × (most_couplers < length couplers)) Nowhere
  pub row_3 : Row v 3 (Passes1 n × (Passes2 couplers × Some (WrongRecord n) couplers)) (First (WrongRecord n) couplers)
  pub row_4 : Row v 4 (Passes1 n × (Passes2 couplers × (Passes3 n couplers × (most_gates < length gates)))) Nowhere
  pub row_5 : Row v 5 (Passes1 n × (Passes2 couplers × (Passes3 n couplers × (Passes4 gates × F5)))) A5
  pub row_6 : Row v 6 (Passes1 n × (Passes2 couplers × (Passes3 n couplers × (Passes4 gates × (P5 × F6))))) A6
  pub row_7 : Row v 7 (Passes1 n × (Passes2 couplers × (Passes3 n couplers × (Passes4 gates × (P5 × (P6 × F7)))))) A7
  pub row_8 : Row v 8 (Passes1 n × (Passes2 couplers × (Passes3 n couplers × (Passes4 gates × (P5 × (P6 × (P7 × F8))))))) Nowhere

-- test 7 may take those before it as passed
module _ (n : ℕ) (couplers gates : List ℕ) {P5 F5 P6 F6 P7 F7 P8 F8 : Type 0} {A5 A6 A7 : ℕ → Type 0} (v5 v6 v7 v8 : Verdict) (tests-5 : Tests v5 5 P5 F5 A5) (tests-6 : Tests v6 6 P6 F6 A6)
    (tests-7 : Passes1 n → Passes2 couplers → Passes3 n couplers → Passes4 gates → P5 → P6 → Tests v7 7 P7 F7 A7) (tests-8 : Tests v8 8 P8 F8 Nowhere) where
  abbrev behind6 : Verdict
  behind6 = and_then v7 v8

  abbrev behind5 : Verdict
  behind5 = and_then v6 behind6

  abbrev behind4 : Verdict
  behind4 = and_then v5 behind5

  abbrev behind3 : Verdict
  behind3 = and_then (judged_count gates) behind4

  abbrev behind2 : Verdict
  behind2 = and_then (judged_wrong n couplers) behind3

  abbrev behind1 : Verdict
  behind1 = and_then (judged_many couplers) behind2

  abbrev all : Verdict
  all = and_then (judged_qubits n) behind1

  module _ (p1 : Passes1 n) (p2 : Passes2 couplers) (p3 : Passes3 n couplers) where
    beyond6 : Passes4 gates → P5 → P6 → Beyond 6 behind6
    beyond6 p4 p5 p6 = beyond-then (tests-7 p1 p2 p3 p4 p5 p6) 6 (omega arith) v8 (λ p7. beyond-test tests-8 7 (omega arith))

    beyond5 : Passes4 gates → P5 → Beyond 5 behind5
    beyond5 p4 p5 = beyond-then tests-6 5 (omega arith) behind6 (λ p6. beyond6 p4 p5 p6)

    beyond4 : Passes4 gates → Beyond 4 behind4
    beyond4 p4 = beyond-then tests-5 4 (omega arith) behind5 (λ p5. beyond5 p4 p5)

    beyond3 : Beyond 3 behind3
    beyond3 = beyond-then (tests-4 gates) 3 (omega arith) behind4 (λ p4. beyond4 p4)

  beyond2 : Passes1 n → Passes2 couplers → Beyond 2 behind2
  beyond2 p1 p2 = beyond-then (tests-3 n couplers) 2 (omega arith) behind3 (λ p3. beyond3 p1 p2 p3)

  beyond1 : Passes1 n → Beyond 1 behind1
  beyond1 p1 = beyond-then (tests-2 couplers) 1 (omega arith) behind2 (λ p2. beyond2 p1 p2)

  -- ---- a later row, of those that pass the earlier tests

  past1 : (j : ℕ) {When : Type 0} {At : ℕ → Type 0} → Later 1 j → (Passes1 n → Row behind1 j When At) → Row all j (Passes1 n × When) At
  past1 j l r = row-then (tests-1 n) behind1 j (later-not 1 j (omega arith) l) r

  past2 : (j : ℕ) {When : Type 0} {At : ℕ → Type 0} → Later 2 j → (Passes1 n → Passes2 couplers → Row behind2 j When At) → Row all j (Passes1 n × (Passes2 couplers × When)) At
  past2 j l r = past1 j (later-than 1 j l) (λ p1. row-then (tests-2 couplers) behind2 j (later-not 2 j (omega arith) l) (r p1))

  past3 : (j : ℕ) {When : Type 0} {At : ℕ → Type 0} → Later 3 j → (Passes1 n → Passes2 couplers → Passes3 n couplers → Row behind3 j When At)
      → Row all j (Passes1 n × (Passes2 couplers × (Passes3 n couplers × When))) At
  past3 j l r = past2 j (later-than 2 j l) (λ p1 p2. row-then (tests-3 n couplers) behind3 j (later-not 3 j (omega arith) l) (r p1 p2))

  past4 : (j : ℕ) {When : Type 0} {At : ℕ → Type 0} → Later 4 j → (Passes1 n → Passes2 couplers → Passes3 n couplers → Passes4 gates → Row behind4 j When At)
      → Row all j (Passes1 n × (Passes2 couplers × (Passes3 n couplers × (Passes4 gates × When)))) At
  past4 j l r = past3 j (later-than 3 j l) (λ p1 p2 p3. row-then (tests-4 gates) behind4 j (later-not 4 j (omega arith) l) (r p1 p2 p3))

  past5 : (j : ℕ) {When : Type 0} {At : ℕ → Type 0} → Later 5 j → (Passes1 n → Passes2 couplers → Passes3 n couplers → Passes4 gates → P5 → Row behind5 j When At)
      → Row all j (Passes1 n × (Passes2 couplers × (Passes3 n couplers × (Passes4 gates × (P5 × When))))) At
  past5 j l r = past4 j (later-than 4 j l) (λ p1 p2 p3 p4. row-then tests-5 behind5 j (later-not 5 j (omega arith) l) (r p1 p2 p3 p4))

  past6 : (j : ℕ) {When : Type 0} {At : ℕ → Type 0} → Later 6 j → (Passes1 n → Passes2 couplers → Passes3 n couplers → Passes4 gates → P5 → P6 → Row behind6 j When At)
      → Row all j (Passes1 n × (Passes2 couplers × (Passes3 n couplers × (Passes4 gates × (P5 × (P6 × When)))))) At
  past6 j l r = past5 j (later-than 5 j l) (λ p1 p2 p3 p4 p5. row-then tests-6 behind6 j (later-not 6 j (omega arith) l) (r p1 p2 p3 p4 p5))

  past7 : (j : ℕ) {When : Type 0} {At : ℕ → Type 0} → Later 7 j → Row v8 j When At
      → Row all j (Passes1 n × (Passes2 couplers × (Passes3 n couplers × (Passes4 gates × (P5 × (P6 × (P7 × When))))))) At
  past7 j l r = past6 j (later-than 6 j l) (λ p1 p2 p3 p4 p5 p6. row-then (tests-7 p1 p2 p3 p4 p5 p6) v8 j (later-not 7 j (omega arith) l) (λ p7. r))

  all-rows : InOrder n couplers gates P5 F5 P6 F6 P7 F7 P8 F8 A5 A6 A7 all
  all-rows = record {
    row_0 = past7 0 (inl refl) (row-passes tests-8);
    row_1 = row_first (tests-1 n) behind1 (λ p1. beyond-not 1 behind1 (omega arith) (beyond1 p1));
    row_2 = past1 2 (inr (omega arith)) (λ p1. row_first (tests-2 couplers) behind2 (λ p2. beyond-not 2 behind2 (omega arith) (beyond2 p1 p2)));
    row_3 = past2 3 (inr (omega arith)) (λ p1 p2. row_first (tests-3 n couplers) behind3 (λ p3. beyond-not 3 behind3 (omega arith) (beyond3 p1 p2 p3)));
    row_4 = past3 4 (inr (omega arith)) (λ p1 p2 p3. row_first (tests-4 gates) behind4 (λ p4. beyond-not 4 behind4 (omega arith) (beyond4 p1 p2 p3 p4)));
    row_5 = past4 5 (inr (omega arith)) (λ p1 p2 p3 p4. row_first tests-5 behind5 (λ p5. beyond-not 5 behind5 (omega arith) (beyond5 p1 p2 p3 p4 p5)));
    row_6 = past5 6 (inr (omega arith)) (λ p1 p2 p3 p4 p5. row_first tests-6 behind6 (λ p6. beyond-not 6 behind6 (omega arith) (beyond6 p1 p2 p3 p4 p5 p6)));
    row_7 = past6 7 (inr (omega arith)) (λ p1 p2 p3 p4 p5 p6. row_first (tests-7 p1 p2 p3 p4 p5 p6) v8 (λ p7. beyond-not 7 v8 (omega arith) (beyond-test tests-8 7 (omega arith))));
    row_8 = past7 8 (inr (omega arith)) (row-fails tests-8);
  }

  -- 2 and 3 are one function
  pub in_order : InOrder n couplers gates P5 F5 P6 F6 P7 F7 P8 F8 A5 A6 A7 (and_then (judged_qubits n) (and_then (judged_couplers n couplers) behind3))
  in_order =
      subst (InOrder n couplers gates P5 F5 P6 F6 P7 F7 P8 F8 A5 A6 A7)
      (ap (and_then (judged_qubits n)) (sym (then-assoc (judged_many couplers) (judged_wrong n couplers) behind3) ∙ ap (λ (v : Verdict). and_then v behind3) (couplers-parted n couplers)))
      all-rows
