-- What the reader finds where it is known what stands before. Assumes nothing.
use Rattle.std.specs.Prelude.{None, Some}
use mathlib.Core.Path.{◌≡◌, refl, sym, ap, ap₂, ◌∙◌}
use mathlib.Core.Bool.{true}
use mathlib.Core.List.{List, [], ◌∷◌, ◌++◌, append_assoc, append-nil}
use Prim.Native.Nat.{ℕ, ◌≤◌}
use Rattle.sets.specs.Lists.{All}
use Rattle.words.specs.Words.{Word, words, bodies}
use Rattle.words.specs.Taking.{is_name}
use Rattle.circuit.specs.Phase.{phases}
use Rattle.circuit.proofs.Phases.{phases-again}
use Rattle.versions.specs.declared.Version.{Version}
use Rattle.versions.specs.declared.Version.TheVariants.{Two, Three}
use Rattle.statements.specs.Statements.{read_version, read_include, read_name, read_register, read_gate}
use Rattle.statements.specs.Forms.{Form, GoodForm, forms_words, version_words, include_words, register_words, head_words, form_records, form_phase, phase_of_forms}
use Rattle.statements.proofs.Words.{before}
use Rattle.statements.proofs.Heads.{version-on, version-apart-back, include-on, name-on, register-on}
use Rattle.qasm_reading.specs.Parsing.{circuit, end_circuit, statement_run, behind_register, registered, included, versioned, parsed_words, parsed_circuit}
use Rattle.qasm_reading.specs.Texts.{CircuitText, Seen}
use Rattle.qasm_reading.proofs.Runs.{gate-nil, statement-run-none, statement-run-on}

-- forms come to a common phase within a turn
forms-phase-again : (v : Version) (fs : List Form) → phases (phase_of_forms v fs) 0 ≡ phase_of_forms v fs
unfolding phase_of_forms phases
forms-phase-again v [] = refl
forms-phase-again v (f ∷ fs) = phases-again (form_phase v f) (phase_of_forms v fs)

-- ---- behind the version, and behind the include line

pub after-version : (v : Version) (ws t : List Word) → bodies ws ≡ version_words v → parsed_words (ws ++ t) ≡ included v (read_include v (Some t)) t
unfolding parsed_words versioned
after-version Two ws t e = ap (λ o. versioned o (read_version Three (Some (ws ++ t)))) (version-on ws t Two e)
after-version Three ws t e = let o = version-on ws t Three e in ap₂ versioned (version-apart-back (ws ++ t) t o) o

pub after-include : (v : Version) (ws t : List Word) → bodies ws ≡ version_words v ++ include_words v
    → parsed_words (ws ++ t) ≡ registered v (read_name v (Some t)) (read_register v (Some t)) t
unfolding included
after-include v ws t e =
    let b = before (version_words v) (include_words v) ws e in
    ap (λ l. parsed_words (l ++ t)) b.same ∙ ap parsed_words (append_assoc b.front b.back t)
    ∙ after-version v b.front (b.back ++ t) b.front_spelt ∙ ap (λ o. included v o (b.back ++ t)) (include-on b.back t v b.back_spelt)

-- ---- behind the register

after-register : (v : Version) (name : List ℕ) (n : ℕ) (ws t : List Word) → is_name name ≡ true → n ≤ 255 → bodies ws ≡ head_words v name n
    → parsed_words (ws ++ t) ≡ end_circuit v name n (statement_run v name t).records (statement_run v name t).phase (statement_run v name t).left
unfolding head_words registered behind_register
after-register v name n ws t h k e =
    let b = before (version_words v ++ include_words v) (register_words v name n) ws (e ∙ sym (append_assoc (version_words v) (include_words v) (register_words v name n))) in
    let r = register-on b.back t v name n h k b.back_spelt in
    ap (λ l. parsed_words (l ++ t)) b.same ∙ ap parsed_words (append_assoc b.front b.back t) ∙ after-include v b.front (b.back ++ t) b.front_spelt
    ∙ ap (λ g. registered v (read_name v (Some (b.back ++ t))) g (b.back ++ t)) r
    ∙ ap (λ m. end_circuit v m n (statement_run v m t).records (statement_run v m t).phase (statement_run v m t).left) (name-on b.back t v name n h k b.back_spelt)

-- .. and behind gates
after-gates : (v : Version) (name : List ℕ) (n : ℕ) (fs : List Form) (ws t : List Word) → is_name name ≡ true → n ≤ 255 → All (GoodForm v) fs → bodies ws ≡ head_words v name n ++ forms_words name fs
    → parsed_words (ws ++ t) ≡ end_circuit v name n (form_records fs ++ (statement_run v name t).records) (phases (phase_of_forms v fs) (statement_run v name t).phase) (statement_run v name t).left
after-gates v name n fs ws t h k g e =
    let b = before (head_words v name n) (forms_words name fs) ws e in
    let r = statement-run-on v name fs b.back t g b.back_spelt in
    ap (λ l. parsed_words (l ++ t)) b.same ∙ ap parsed_words (append_assoc b.front b.back t) ∙ after-register v name n b.front (b.back ++ t) h k b.front_spelt
    ∙ rw r

-- where no gate stands behind what was seen, the reader stops there
pub after-seen : (v : Version) (name : List ℕ) (ws t : List Word) (s : Seen v name (bodies ws)) → read_gate v name (Some t) ≡ None
    → parsed_words (ws ++ t) ≡ end_circuit v name s.qubits (form_records s.forms) (phase_of_forms v s.forms) t
after-seen v name ws t s e =
    let r = statement-run-none v name t e in
    after-gates v name s.qubits s.forms ws t s.named s.few s.good s.spelt
    ∙ rw r (ap₂ (λ l g. end_circuit v name s.qubits l g t) (append-nil (form_records s.forms)) (forms-phase-again v s.forms))

-- THEOREM: a circuit's text is read as that circuit
pub circuit-parsed : (s : List ℕ) (v : Version) (n : ℕ) (gates : List ℕ) (g : ℕ) → CircuitText s v n gates g → parsed_circuit s ≡ circuit v n gates g
unfolding parsed_circuit end_circuit
circuit-parsed s v n gates g c =
    let r = statement-run-none v c.name [] (gate-nil v c.name) in
    ap parsed_words (sym (append-nil (words s))) ∙ after-gates v c.name n c.forms (words s) [] c.named c.few c.good c.spelt
    ∙ rw r (ap₂ (circuit v n) (append-nil (form_records c.forms) ∙ sym c.meant) (forms-phase-again v c.forms ∙ sym c.shifted))

-- so that it is the text of one circuit at most
pub circuit-once : (s : List ℕ) (v w : Version) (n m : ℕ) (gates others : List ℕ) (g h : ℕ) → CircuitText s v n gates g → CircuitText s w m others h → (v ≡ w) × (n ≡ m) × (gates ≡ others) × (g ≡ h)
circuit-once s v w n m gates others g h a b =
    let e : circuit v n gates g ≡ circuit w m others h = sym (circuit-parsed s v n gates g a) ∙ circuit-parsed s w m others h b in
    (cc e, cc e, cc e, cc e)
