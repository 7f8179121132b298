-- A text within its limit has few gates: each takes at least six words, and each word a byte. Assumes nothing.
use mathlib.Core.Path.{◌≡◌, refl, ap}
use mathlib.Core.List.{List, [], ◌∷◌}
use Prim.Native.Nat.{ℕ, ◌*◌, ◌≤◌}
use native.Mathlib.Omega.{arith}
use lib.ListN.{length, length-append}
use Rattle.reading.specs.Limits.{most_bytes}
use Rattle.words.specs.Words.{words}
use Rattle.versions.specs.declared.Version.{Version}
use Rattle.versions.specs.declared.Version.TheVariants.{Two, Three}
use Rattle.statements.specs.Forms.{Form, cnot, turn, xgate, hadamard, common, form_words, forms_words, qubit_words, version_words, include_words, register_words, head_words, form_record, form_records}
use Rattle.statements.proofs.Words.{bodies-length}
use Rattle.qasm_reading.specs.Parsing.{ParsedCircuit, circuit, angle, statement, early, unversioned, parsed_circuit}
use Rattle.qasm_reading.specs.Readings.{circuit_gates}
use Rattle.qasm_reading.proofs.Loops.{words-length}
use Rattle.qasm_reading.proofs.Found.{FoundText, found}

-- a form has six words for its gate, if it is one
form-six : (name : List ℕ) (f : Form) → 6 * length (form_record f) ≤ length (form_words name f)
unfolding form_words form_record qubit_words
form-six name (cnot a b) = omega arith
form-six name (turn r m t o a) = simp length-append (omega arith)
form-six name (xgate a) = omega arith
form-six name (hadamard a) = omega arith
form-six name (common m t o) = omega arith

forms-six : (name : List ℕ) (fs : List Form) → 6 * length (form_records fs) ≤ length (forms_words name fs)
unfolding form_records forms_words
forms-six name [] = omega arith
forms-six name (f ∷ fs) = omega (arith, form-six name f, forms-six name fs, length-append (form_words name f) (forms_words name fs), length-append (form_record f) (form_records fs))

head-twelve : (v : Version) (name : List ℕ) (n : ℕ) → length (head_words v name n) ≡ 12
unfolding head_words version_words include_words register_words
head-twelve Two name n = refl
head-twelve Three name n = refl

-- no circuit's text of 65,536 bytes has more than 10,920 gates
pub gates-few : (s : List ℕ) → length s ≤ most_bytes → length (circuit_gates (parsed_circuit s)) ≤ 10920
gates-few s h = go (parsed_circuit s) (found s)
  where
    go : (p : ParsedCircuit) → FoundText s p → length (circuit_gates p) ≤ 10920
    go (circuit v n gates g) c =
        omega (arith, ap length c.meant, forms-six c.name c.forms, ap length c.spelt, length-append (head_words v c.name n) (forms_words c.name c.forms), head-twelve v c.name n, bodies-length (words s), words-length s)
    go (angle l) f = omega arith
    go (statement l) f = omega arith
    go early f = omega arith
    go unversioned f = omega arith
