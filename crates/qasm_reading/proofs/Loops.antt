-- Loops over statements, whose gates are counted and filled in, and whose phases are put together. Assumes nothing.
use Rattle.std.specs.Prelude.{Option, None, Some, is_some, option_to_list}
use mathlib.Core.Path.{◌≡◌, refl, sym, ap, ◌∙◌}
use mathlib.Core.Bool.{Bool, true, false}
use mathlib.Core.List.{List, [], ◌∷◌, ◌++◌, append_assoc, append-nil}
use Prim.Native.Nat.{ℕ, suc, ◌+◌, ◌≤◌, ◌<◌}
use native.Mathlib.Numerals.{add-one}
use native.Mathlib.Omega.{arith}
use lib.Dec.{eqb}
use lib.ListN.{length, take, drop, set, length-append, length-set, take-append-drop}
use lib.Seq.{take-suc-set, drop-set-lt, drop-drop, length-take-le}
use Rattle.sets.specs.Pick.{pick}
use Rattle.lines.specs.Lent.{onto}
use Rattle.words.specs.Bytes.{blank, goes_on, slashes}
use Rattle.words.specs.Words.{Word, Mode, gap, note, run, lex, words}
use Rattle.words.proofs.Steps.{gap_is, note-is, run_is}
use Rattle.circuit.specs.Phase.{phases}
use Rattle.circuit.proofs.Phases.{phases-none, phases-over}
use Rattle.versions.specs.declared.Version.{Version}
use Rattle.statements.specs.Statements.{Said, read_gate}
use Rattle.statements.specs.Forms.{Form, cnot, turn, xgate, hadamard, common, form_record}
use Rattle.qasm_reading.specs.Parsing.{statement_run}
use Rattle.qasm_reading.proofs.Runs.{gate-read, gate-short, statement-run-none, statement-run-some, run_small}

-- ---- no more words than bytes

abbrev begun-words : Mode → ℕ
begun-words gap = 0
begun-words note = 0
begun-words (run f w) = 1

lex-length : (s : List ℕ) (m : Mode) → length (lex m s) ≤ begun-words m + length s
unfolding lex
lex-length [] gap = omega arith
lex-length [] note = omega arith
lex-length [] (run f w) = omega arith
lex-length (x ∷ s) gap = rw gap_is (go (blank x) (lex-length s gap) (lex-length s (run x (x ∷ []))))
  where
    go : (t : Bool) → length (lex gap s) ≤ 0 + length s → length (lex (run x (x ∷ [])) s) ≤ 1 + length s → length (lex (pick t gap (run x (x ∷ []))) s) ≤ 0 + suc (length s)
    go true a b = omega arith
    go false a b = omega arith
lex-length (x ∷ s) note = rw note-is (go (eqb x 10) (lex-length s gap) (lex-length s note))
  where
    go : (t : Bool) → length (lex gap s) ≤ 0 + length s → length (lex note s) ≤ 0 + length s → length (lex (pick t gap note) s) ≤ 0 + suc (length s)
    go true a b = omega arith
    go false a b = omega arith
lex-length (x ∷ s) (run f w) = rw run_is (go (goes_on f x) (slashes f x) (blank x) (lex-length s gap) (lex-length s note) (lex-length s (run x (x ∷ []))) (lex-length s (run f (w ++ (x ∷ [])))))
  where
    go : (t u v : Bool) → length (lex gap s) ≤ 0 + length s → length (lex note s) ≤ 0 + length s → length (lex (run x (x ∷ [])) s) ≤ 1 + length s → length (lex (run f (w ++ (x ∷ []))) s) ≤ 1 + length s
        → length (pick t [] (pick u [] (record { bytes = w; left = length w + length (x ∷ s) } ∷ [])) ++ lex (pick t (run f (w ++ (x ∷ []))) (pick u note (pick v gap (run x (x ∷ []))))) s) ≤ 1 + suc (length s)
    go true u v a b c d = omega arith
    go false true v a b c d = omega arith
    go false false true a b c d = omega arith
    go false false false a b c d = omega arith

pub words-length : (s : List ℕ) → length (words s) ≤ length s
words-length s = omega (arith, lex-length s gap)

-- ---- statements

-- a statement has one gate at most
record-few : (f : Form) → length (form_record f) ≤ 1
unfolding form_record
record-few (cnot a b) = omega arith
record-few (turn r m t o a) = omega arith
record-few (xgate a) = omega arith
record-few (hadamard a) = omega arith
record-few (common m t o) = omega arith

module _ (v : Version) (name : List ℕ) (from : List Word) where
  -- n gates have been counted, their phases come to g, and l is left
  pub record CountingGates (n g : ℕ) (l : List Word) : Type 0 where
    pub sum : n + length (statement_run v name l).records ≡ length (statement_run v name from).records
    pub phase : phases g (statement_run v name l).phase ≡ (statement_run v name from).phase
    pub same : (statement_run v name l).left ≡ (statement_run v name from).left
    pub room : n + length l ≤ length from
    pub small : g < 131072

  pub count-start : CountingGates 0 0 from
  count-start = record { sum = omega arith; phase = phases-none (statement_run v name from).phase (run_small v name from); same = refl; room = omega arith; small = omega arith }

  module _ (n g : ℕ) (l : List Word) (c : CountingGates n g l) where
    pub count_room : (q : Said) → read_gate v name (Some l) ≡ Some q → n + length q.records + length q.rest ≤ length from
    count_room q e =
        let r = gate-read v name l q e in
        omega (arith, gate-short v name l q e, record-few r.form, ap length r.value, c.room)

    pub count-step : (q : Said) → read_gate v name (Some l) ≡ Some q → {m h : ℕ} → m ≡ n + length q.records → h ≡ phases g q.phase → CountingGates m h q.rest
    unfolding phases
    count-step q e {m} {h} a b =
        let r = statement-run-some v name l q e in
        record {
          sum = omega (arith, ap (λ x. length x.records) r, length-append q.records (statement_run v name q.rest).records, c.sum);
          phase = ap (λ x. phases x (statement_run v name q.rest).phase) b ∙ phases-over g q.phase (statement_run v name q.rest).phase ∙ ap (phases g) (sym (ap (λ x. x.phase) r)) ∙ c.phase;
          same = sym (ap (λ x. x.left) r) ∙ c.same;
          room = omega (arith, count_room q e, a);
          small = omega (arith, b);
        }

    pub count-done : read_gate v name (Some l) ≡ None → (n ≡ length (statement_run v name from).records) × (g ≡ (statement_run v name from).phase) × (l ≡ (statement_run v name from).left)
    unfolding phases
    count-done e =
        let r = statement-run-none v name l e in
        (omega (arith, ap (λ x. length x.records) r, c.sum), omega (arith, ap (λ x. x.phase) r, c.phase, c.small), sym (ap (λ x. x.left) r) ∙ c.same)

-- a statement's records are one or none
pub one-record : (o : Option ℕ) → is_some o ≡ true → length (option_to_list o) ≡ 1
one-record None e = let z : ◌≡◌ {A = ℕ} 0 1 = cc e in absurd (omega arith)
one-record (Some x) e = refl

pub no-record : (o : Option ℕ) → is_some o ≡ false → length (option_to_list o) ≡ 0
no-record None e = refl
no-record (Some x) e = let z : ◌≡◌ {A = ℕ} 0 1 = cc e in absurd (omega arith)

pub fill-next : (gate : Bool) (n : ℕ) {k : ℕ} → pick gate (n + 1) 0 ≤ k → n ≤ k → n + pick gate 1 0 ≤ k
fill-next true n h l = h
fill-next false n h l = omega arith

-- n records stand at the front of out, and l is left
pub record FillingGates (v : Version) (name : List ℕ) (from : List Word) (old out : List ℕ) (n : ℕ) (l : List Word) : Type 0 where
  pub put : take n out ++ (statement_run v name l).records ≡ (statement_run v name from).records
  pub kept : drop n out ≡ drop n old
  pub size : length out ≡ length old
  pub reach : n ≤ length out

module _ (v : Version) (name : List ℕ) (from : List Word) (old : List ℕ) where
  pub fill_start : FillingGates v name from old old 0 from
  fill_start = record { put = refl; kept = refl; size = refl; reach = omega arith }

  module _ (out : List ℕ) (n : ℕ) (l : List Word) (c : FillingGates v name from old out n l) (g : Said) (e : read_gate v name (Some l) ≡ Some g) where
    -- a statement that is no gate
    pub fill-over : g.records ≡ [] → FillingGates v name from old out n g.rest
    fill-over q =
        let r : (statement_run v name l).records ≡ (statement_run v name g.rest).records = ap (λ x. x.records) (statement-run-some v name l g e) ∙ ap (λ y. y ++ (statement_run v name g.rest).records) q in
        record { put = ap (λ x. take n out ++ x) (sym r) ∙ c.put; kept = c.kept; size = c.size; reach = c.reach }

    -- one that is
    module _ (x : ℕ) (q : g.records ≡ x ∷ []) where
      led : (statement_run v name l).records ≡ x ∷ (statement_run v name g.rest).records
      led = ap (λ y. y.records) (statement-run-some v name l g e) ∙ ap (λ y. y ++ (statement_run v name g.rest).records) q

      pub fill-room : length (statement_run v name from).records ≤ length old → n < length out
      fill-room h =
          omega (arith, length-append (take n out) (statement_run v name l).records, length-take-le n out c.reach, ap length c.put, ap length led, c.size)

      pub fill_step : length (statement_run v name from).records ≤ length old → FillingGates v name from old (set out n x) (n + 1) g.rest
      fill_step h =
          let k : drop 1 (drop n out) ≡ drop 1 (drop n old) = ap (drop 1) c.kept in
          let i = fill-room h in
          record {
            put = rw (add-one, take-suc-set out n x, append_assoc) (ap (λ y. take n out ++ y) (sym led) ∙ c.put);
            kept = drop-set-lt (n + 1) out n x (omega arith) ∙ sym (drop-drop 1 n out) ∙ k ∙ drop-drop 1 n old;
            size = length-set out n x ∙ c.size;
            reach = simp length-set (omega arith);
          }

  module _ (out : List ℕ) (n : ℕ) (l : List Word) (c : FillingGates v name from old out n l) where
    pub fill_done : read_gate v name (Some l) ≡ None → out ≡ onto (statement_run v name from).records old
    fill_done e =
        let r : (statement_run v name l).records ≡ [] = ap (λ x. x.records) (statement-run-none v name l e) in
        let p : take n out ≡ (statement_run v name from).records = sym (append-nil (take n out)) ∙ ap (λ x. take n out ++ x) (sym r) ∙ c.put in
        let m : n ≡ length (statement_run v name from).records = sym (length-take-le n out c.reach) ∙ ap length p in
        sym (take-append-drop n out) ∙ ap (λ x. x ++ drop n out) p ∙ ap (λ x. (statement_run v name from).records ++ x) c.kept ∙ ap (λ k. (statement_run v name from).records ++ drop k old) m
