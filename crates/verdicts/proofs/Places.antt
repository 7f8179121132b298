-- The place of a refusal is no larger than a job's limits, test by test. Assumes nothing.
use mathlib.Core.Path.{◌≡◌, ap, subst}
use mathlib.Core.Logic.{◌⊎◌, inl, inr}
use mathlib.Core.List.{List}
use Prim.Native.Nat.{ℕ, ◌≤◌}
use native.Mathlib.Omega.{arith}
use native.Mathlib.Decide.{ℕ_discrete}
use Rattle.gates.specs.Limits.{most_gates}
use Rattle.verdicts.specs.Verdicts.{Verdict, number_of, place_of, judged_couplers}
use Rattle.verdicts.specs.InOrder.{and_then}
use Rattle.verdicts.specs.Rows.{Nowhere}
use Rattle.verdicts.proofs.Judged.{zero-accepted, then-on, then-stop}
use Rattle.verdicts.proofs.Rows.{Tests, row-passes, tests-2, tests-3, judged_many, judged_wrong, couplers-parted}

abbrev pub Low : Verdict → Type 0
Low v = place_of v ≤ most_gates

pub low-test : {v : Verdict} {k : ℕ} {Pass Fail : Type 0} {At : ℕ → Type 0} → Tests v k Pass Fail At → ((p : ℕ) → At p → p ≤ most_gates) → Low v
low-test {v} {k} {Pass} {Fail} {At} t f = go t.decided
  where
    go : ((number_of v ≡ 0) × Pass) ⊎ ((number_of v ≡ k) × Fail × At (place_of v)) → Low v
    go (inl d) = omega (arith, ap place_of (zero-accepted v d.0))
    go (inr d) = f (place_of v) d.2

pub low-then : (v w : Verdict) → Low v → (number_of v ≡ 0 → Low w) → Low (and_then v w)
low-then v w p q = go (ℕ_discrete (number_of v) 0)
  where
    go : Dec (number_of v ≡ 0) → Low (and_then v w)
    go (yes z) = subst Low (then-on v w z) (q z)
    go (no ne) = subst Low (then-stop v w ne) p

pub nowhere : (p : ℕ) → Nowhere p → p ≤ most_gates
nowhere p e = omega (arith, e)

pub low-couplers : (n : ℕ) (couplers : List ℕ) → Low (judged_couplers n couplers)
low-couplers n couplers =
    subst Low (couplers-parted n couplers)
    (low-then (judged_many couplers) (judged_wrong n couplers) (low-test (tests-2 couplers) nowhere)
    (λ z. low-test (tests-3 n couplers) (λ p f. omega (arith, f.within, (row-passes (tests-2 couplers)).exactly.0 z))))
