-- The two readings of the same gates (request E5): "the same gates under 2.0 and 3.0 read as the same records, and their common phases differ by minus half the sum of the `rz` angles, modulo one turn". Assumes nothing.
-- The records do not depend on the version: `form_records` does not speak of it.
use mathlib.Core.Path.{◌≡◌, refl, ap, ap₂, ◌∙◌}
use mathlib.Core.List.{List, [], ◌∷◌}
use Prim.Native.Nat.{ℕ, ◌+◌, ◌*◌, ◌/◌, ◌%◌}
use native.Mathlib.Nat.{mod-add-mod, add-mod-mod, mul-mod_right}
use native.Mathlib.Omega.{arith}
use Rattle.sets.specs.Lists.{All}
use Rattle.circuit.specs.Phase.{phases}
use Rattle.versions.specs.declared.Version.TheVariants.{Two, Three}
use Rattle.statements.specs.Forms.{as_u1, as_rz, as_p, Form, cnot, turn, xgate, hadamard, common, Newer, Carried, GoodForm, half_taken, form_phase, phase_of_forms, rz_angle, rz_angles}

-- what is good in 2.0 is good in 3.0
form-later : (f : Form) → GoodForm Two f → GoodForm Three f
unfolding GoodForm Carried Newer
form-later (cnot a b) h = h
form-later (turn as_u1 m t o a) h = h
form-later (turn as_rz m t o a) h = h
form-later (turn as_p m t o a) h = absurd h.0
form-later (xgate a) h = h
form-later (hadamard a) h = h
form-later (common m t o) h = absurd h.0

-- in 2.0 nothing is added to the common phase
phase-two : (f : Form) → GoodForm Two f → form_phase Two f ≡ 0
unfolding GoodForm Carried Newer form_phase half_taken
phase-two (cnot a b) h = refl
phase-two (turn as_u1 m t o a) h = refl
phase-two (turn as_rz m t o a) h = refl
phase-two (turn as_p m t o a) h = refl
phase-two (xgate a) h = refl
phase-two (hadamard a) h = refl
phase-two (common m t o) h = absurd h.0

half-taken : (a : ℕ) → phases (half_taken Three a) a ≡ 0
unfolding phases half_taken
half-taken a = omega arith

-- in 3.0 it is what takes away half the angle of an `rz`
phase-three : (f : Form) → GoodForm Two f → phases (form_phase Three f) (rz_angle f) ≡ 0
unfolding GoodForm Carried Newer form_phase rz_angle phases
phase-three (cnot a b) h = refl
phase-three (turn as_u1 m t o a) h = refl
phase-three (turn as_rz m t o a) h = half-taken _
phase-three (turn as_p m t o a) h = refl
phase-three (xgate a) h = refl
phase-three (hadamard a) h = refl
phase-three (common m t o) h = absurd h.0

-- two and two that take each other away do so together
together : (a b c d : ℕ) → phases a b ≡ 0 → phases c d ≡ 0 → phases (phases a c) (phases b d) ≡ 0
unfolding phases
together a b c d h k =
    let e : a + c + (b + d) ≡ 131072 * ((a + b) / 131072 + (c + d) / 131072) = omega arith in
    mod-add-mod (a + c) 131072 ((b + d) % 131072) ∙ add-mod-mod (a + c) (b + d) 131072 ∙ ap (λ n. n % 131072) e ∙ mul-mod_right 131072 _

-- THEOREM: forms that are good in 2.0 are good in 3.0; in 2.0 they add nothing to the common phase, and in 3.0 what they add is minus half the sum of the `rz` angles
pub two-readings : (fs : List Form) → All (GoodForm Two) fs → All (GoodForm Three) fs × (phase_of_forms Two fs ≡ 0) × (phases (phase_of_forms Three fs) (rz_angles fs) ≡ 0)
unfolding All phase_of_forms rz_angles phases
two-readings [] h = (tt, refl, refl)
two-readings (f ∷ fs) h =
    let r = two-readings fs h.1 in
    ((form-later f h.0, r.0), ap₂ phases (phase-two f h.0) r.1, together (form_phase Three f) (rz_angle f) (phase_of_forms Three fs) (rz_angles fs) (phase-three f h.0) r.2)
