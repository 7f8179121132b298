-- An answer goes by the verdict: what was laid where it accepts, its refusal where it refuses. Assumes nothing.
use mathlib.Core.Path.{◌≡◌, refl, ap}
use mathlib.Core.Logic.{◌≢◌}
use Prim.Native.Nat.{ℕ}
use native.Mathlib.Omega.{arith}
use Rattle.std.specs.Prelude.{Ok, Err}
use Rattle.std.specs.Result.{result_and}
use Rattle.verdicts.specs.declared.verdict.Refusal.{Refusal}
use Rattle.verdicts.specs.Verdicts.{Verdict, number_of}
use Rattle.verdicts.proofs.Judged.{zero-accepted}
use Rattle.laying.specs.declared.lay.Laid.{Laid}
use Rattle.laying.specs.Answers.{Answer, verdict_in, records_in, cnots_in, rotations_in, depth_in, phase_in}

-- what is answered, where l is what would be laid
abbrev pub going : Verdict → Laid → Answer
going v l = result_and v (Ok l)

pub going-verdict : (v : Verdict) (l : Laid) → verdict_in (going v l) ≡ v
going-verdict (Ok tt) l = refl
going-verdict (Err r) l = refl

pub going-accepted : (v : Verdict) (l : Laid) → number_of v ≡ 0 → going v l ≡ Ok l
going-accepted v l z = ap (λ (u : Verdict). going u l) (zero-accepted v z)

-- a refusal counts nothing
pub going-refused : (v : Verdict) (l : Laid) → number_of v ≢ 0
    → let a = going v l in (records_in a ≡ 0) × (cnots_in a ≡ 0) × (rotations_in a ≡ 0) × (depth_in a ≡ 0) × (phase_in a ≡ 0)
going-refused (Ok tt) l ne = absurd (ne refl)
going-refused (Err r) l ne = (refl, refl, refl, refl, refl)

-- what an answer says of the verdict
pub going-laid : (v : Verdict) (l : Laid) {k : Laid} → going v l ≡ Ok k → (number_of v ≡ 0) × (k ≡ l)
going-laid (Ok tt) l e = (refl, cc)
going-laid (Err r) l e = let z : ◌≡◌ {A = ℕ} 0 1 = cc in absurd (omega arith)

pub going-stopped : (v : Verdict) (l : Laid) {r : Refusal} → going v l ≡ Err r → v ≡ Err r
going-stopped (Ok tt) l e = let z : ◌≡◌ {A = ℕ} 0 1 = cc in absurd (omega arith)
going-stopped (Err r) l e = cc
