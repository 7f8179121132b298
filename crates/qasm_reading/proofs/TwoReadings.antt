-- The two readings of rz, of texts: the same gates under 2.0 and 3.0 read as the same records, and their common phases differ by minus half the sum of the `rz` angles. Assumes nothing.
use mathlib.Core.Path.{◌≡◌, refl, sym}
use mathlib.Core.Bool.{true}
use mathlib.Core.List.{List, ◌++◌}
use Prim.Native.Nat.{ℕ, ◌≤◌}
use Rattle.sets.specs.Lists.{All}
use Rattle.circuit.specs.Phase.{phases}
use Rattle.words.specs.Words.{words, bodies}
use Rattle.words.specs.Taking.{is_name}
use Rattle.versions.specs.declared.Version.TheVariants.{Two, Three}
use Rattle.statements.specs.Forms.{Form, GoodForm, forms_words, head_words, form_records, rz_angles, phase_of_forms}
use Rattle.statements.proofs.TwoReadings.{two-readings}
use Rattle.qasm_reading.specs.Texts.{CircuitText}

-- s and t have the same forms behind their heads, in 2.0 and in 3.0; their registers may have other names
pub record SameForms (s t : List ℕ) : Type 0 where
  pub qubits : ℕ
  pub forms : List Form
  pub few : qubits ≤ 255
  pub good : All (GoodForm Two) forms
  pub name : List ℕ
  pub named : is_name name ≡ true
  pub spelt : bodies (words s) ≡ head_words Two name qubits ++ forms_words name forms
  pub other : List ℕ
  pub other_named : is_name other ≡ true
  pub other_spelt : bodies (words t) ≡ head_words Three other qubits ++ forms_words other forms

-- what they are read as
pub record BothRead (s t : List ℕ) (f : SameForms s t) : Type 0 where
  pub two : CircuitText s Two f.qubits (form_records f.forms) 0
  pub phase : ℕ
  pub three : CircuitText t Three f.qubits (form_records f.forms) phase
  pub differ : phases phase (rz_angles f.forms) ≡ 0

-- THEOREM: a units of an angle are 2a half units, and half of them are a, so that the angles' sum is taken as it stands
pub both_read : (s t : List ℕ) (f : SameForms s t) → BothRead s t f
both_read s t f =
    let r = two-readings f.forms f.good in
    record {
      two = record { name = f.name; forms = f.forms; named = f.named; few = f.few; good = f.good; meant = refl; shifted = sym r.1; spelt = f.spelt };
      phase = phase_of_forms Three f.forms;
      three = record { name = f.other; forms = f.forms; named = f.other_named; few = f.few; good = r.0; meant = refl; shifted = refl; spelt = f.other_spelt };
      differ = r.2;
    }
