-- Where the first statement that cannot continue a circuit stands, there the reader stops. Assumes nothing.
use Rattle.std.specs.Prelude.{Option, None, Some}
use mathlib.Core.Path.{◌≡◌, refl, sym, ap, ap₂, ◌∙◌}
use mathlib.Core.Logic.{◌⊎◌, inl, inr}
use mathlib.Core.Bool.{Bool, true, false}
use mathlib.Core.List.{List, [], ◌∷◌, ◌++◌, append-nil}
use Prim.Native.Nat.{ℕ, ◌≤◌}
use native.Mathlib.Omega.{arith}
use lib.ListN.{length, length-append}
use Rattle.sets.specs.Pick.{pick}
use Rattle.words.specs.Words.{Word, words, bodies}
use Rattle.versions.specs.declared.Version.{Version}
use Rattle.versions.specs.declared.Version.TheVariants.{Two, Three}
use Rattle.statements.specs.Statements.{read_version, read_include, read_name, read_register, read_gate, has_end, bad_angle}
use Rattle.statements.specs.Forms.{form_words, version_words, include_words, register_words, Unended, form_records, phase_of_forms}
use Rattle.statements.proofs.Words.{bodies-append}
use Rattle.statements.proofs.Heads.{version-read, include-read, register-read}
use Rattle.statements.proofs.OtherAngles.{ended-not, unended-no, bad-back, bad-forth}
use Rattle.qasm_reading.specs.Parsing.{angle, statement, early, unversioned, head_fault, end_circuit, registered, included, versioned, parsed_words, parsed_circuit}
use Rattle.words.specs.Bytes.{line_at}
use Rattle.qasm_reading.specs.Texts.{WithoutVersion, Seen, SeenAny, Early, version_line, both_lines, NextStatement, second, third, gate, Fault, fault_line, WrongAngle, WrongStatement, here, cut, short}
use Rattle.qasm_reading.proofs.Runs.{form-long, gate-read}
use Rattle.qasm_reading.proofs.Parsed.{after-version, after-include, after-seen}

-- words that are spelt by st stand in front of t
spelt-before : (ws t : List Word) {bs : List (List ℕ)} (front : List Word) → ws ≡ front ++ t → bodies front ≡ bs → bodies ws ≡ bs ++ bodies t
spelt-before ws t front e s = ap (λ l. bodies l) e ∙ bodies-append front t ∙ ap (λ l. l ++ bodies t) s

-- what is read as an option is none where it leads to nothing
none_of : {A : Type 0} (o : Option A) → ((t : A) → o ≡ Some t → ⊥) → o ≡ None
none_of None h = refl
none_of (Some t) h = absurd (h t refl)

-- ---- before the register

-- nothing that could stand behind bs stands in front of ws
abbrev pub Stuck : List (List ℕ) → List Word → Type 0
Stuck bs ws = (st rest : List (List ℕ)) → NextStatement bs st → bodies ws ≡ st ++ rest → ⊥

early-parsed : (front ws : List Word) → Early (bodies front) → Stuck (bodies front) ws → parsed_words (front ++ ws) ≡ head_fault ws
unfolding included registered
early-parsed front ws (version_line v e) stuck =
    let o = none_of (read_include v (Some ws)) (λ t q. let r = include-read v ws t q in stuck (include_words v) (bodies t) (second v e refl) (spelt-before ws t r.words r.same r.spelt)) in
    after-version v front ws e ∙ ap (λ o. included v o ws) o
early-parsed front ws (both_lines v e) stuck =
    let o = none_of (read_register v (Some ws)) (λ r q.
    let d = register-read v ws r q in
    stuck (register_words v (read_name v (Some ws)) r.value) (bodies r.rest) (third v (read_name v (Some ws)) r.value e d.named d.few refl)
    (spelt-before ws r.rest d.stood.words d.stood.same d.stood.spelt)) in
    after-include v front ws e ∙ ap (λ o. registered v (read_name v (Some ws)) o ws) o

-- ---- behind it

seen-parsed : (v : Version) (name : List ℕ) (front ws : List Word) (s : Seen v name (bodies front)) → Stuck (bodies front) ws
    → parsed_words (front ++ ws) ≡ end_circuit v name s.qubits (form_records s.forms) (phase_of_forms v s.forms) ws
seen-parsed v name front ws s stuck =
    after-seen v name front ws s (none_of (read_gate v name (Some ws)) (λ said q.
    let g = gate-read v name ws said q in
    stuck (form_words name g.form) (bodies said.rest) (gate v name g.form s g.good refl) (spelt-before ws said.rest g.words g.same g.spelt)))

-- ---- the same of a fault

module _ (s : List ℕ) (f : Fault s) where
  pub fault-early : Early (bodies f.before) → parsed_circuit s ≡ head_fault (f.word ∷ f.behind)
  unfolding parsed_circuit
  fault-early e = ap parsed_words f.split ∙ early-parsed f.before (f.word ∷ f.behind) e f.stuck

  pub fault-seen : (v : Version) (name : List ℕ) → Seen v name (bodies f.before) → parsed_circuit s ≡ pick (bad_angle v name (Some (f.word ∷ f.behind))) (angle f.word.left) (statement f.word.left)
  unfolding parsed_circuit end_circuit
  fault-seen v name n = ap parsed_words f.split ∙ seen-parsed v name f.before (f.word ∷ f.behind) n f.stuck

-- ---- a text that ends before the register

pub register-long : (v : Version) (name : List ℕ) (n : ℕ) → length (register_words v name n) ≡ 6
unfolding register_words
register-long Two name n = refl
register-long Three name n = refl

next-long : (bs st : List (List ℕ)) → NextStatement bs st → 1 ≤ length st
unfolding version_words include_words
next-long bs st (second v b e) = let l = ap length e in omega arith
next-long bs st (third v name n b h k e) = let l = ap length e in omega (arith, register-long v name n)
next-long bs st (gate v name f s h e) = let l = ap length e in omega (arith, form-long name f)

no_words : (bs : List (List ℕ)) → Stuck bs []
no_words bs st rest n e = let l = ap length e in omega (arith, next-long bs st n, length-append st rest)

short-parsed : (s : List ℕ) → Early (bodies (words s)) → parsed_circuit s ≡ early
unfolding parsed_circuit head_fault has_end
short-parsed s e = ap parsed_words (sym (append-nil (words s))) ∙ early-parsed (words s) [] e (no_words (bodies (words s)))

-- ---- THEOREM: what is wrong with a text is found

pub unversioned-parsed : (s : List ℕ) → WithoutVersion s → parsed_circuit s ≡ unversioned
unfolding parsed_circuit parsed_words versioned
unversioned-parsed s un = ap₂ versioned (missing Two) (missing Three)
  where
    missing : (v : Version) → read_version v (Some (words s)) ≡ None
    missing v = none_of (read_version v (Some (words s))) (λ t q. let r = version-read v (words s) t q in un v (bodies t) (spelt-before (words s) t r.words r.same r.spelt))

pub angle-parsed : (s : List ℕ) (k : ℕ) (w : WrongAngle s k) → (parsed_circuit s ≡ angle w.fault.word.left) × (k ≡ line_at s w.fault.word.left)
angle-parsed s k w =
    let f = w.fault in
    (fault-seen s f w.version w.name w.seen ∙ rw (bad-forth w.version w.name (f.word ∷ f.behind) w.only), w.place)

-- a statement that is refused with 13, and its place
abbrev pub Other : List ℕ → ℕ → Type 0
Other s k = ((l : ℕ) × (parsed_circuit s ≡ statement l) × (k ≡ line_at s l)) ⊎ ((parsed_circuit s ≡ early) × (k ≡ 0))

seen_other : (s : List ℕ) (k : ℕ) (f : Fault s) → SeenAny (bodies f.before) → ((j : ℕ) → WrongAngle s j → ⊥) → k ≡ fault_line s f → Other s k
seen_other s k f (v, name, n) other place = go (bad_angle v name (Some (f.word ∷ f.behind))) refl (fault-seen s f v name n)
  where
    go : (t : Bool) → bad_angle v name (Some (f.word ∷ f.behind)) ≡ t → parsed_circuit s ≡ pick t (angle f.word.left) (statement f.word.left) → Other s k
    go true e p = absurd (other (fault_line s f) (record { fault = f; version = v; name = name; seen = n; only = bad-back v name (f.word ∷ f.behind) e; place = refl }))
    go false e p = inl (f.word.left, p, place)

ended-other : (s : List ℕ) (k : ℕ) (f : Fault s) → Early (bodies f.before) → (Unended (bodies (f.word ∷ f.behind)) → ⊥) → k ≡ fault_line s f → Other s k
unfolding head_fault
ended-other s k f e ended place = go (has_end (f.word ∷ f.behind)) refl (fault-early s f e)
  where
    go : (t : Bool) → has_end (f.word ∷ f.behind) ≡ t → parsed_circuit s ≡ pick t (statement f.word.left) early → Other s k
    go true q p = inl (f.word.left, p, place)
    go false q p = absurd (ended (ended-not (f.word ∷ f.behind) q))

pub statement-parsed : (s : List ℕ) (k : ℕ) → WrongStatement s k → Other s k
unfolding head_fault
statement-parsed s k (here f (inl n) other place) = seen_other s k f n other place
statement-parsed s k (here f (inr ended) other place) = side f.begun
  where
    side : Early (bodies f.before) ⊎ SeenAny (bodies f.before) → Other s k
    side (inr n) = seen_other s k f n other place
    side (inl e) = ended-other s k f e ended place
statement-parsed s k (cut f e unended place) = inr (fault-early s f e ∙ rw (unended-no (f.word ∷ f.behind) unended), place)
statement-parsed s k (short e place) = inr (short-parsed s e, place)
