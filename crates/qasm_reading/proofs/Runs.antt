-- Runs of statements: the longest run is spelt by forms of its records and its common phase, and behind it no gate stands. Assumes nothing.
use Rattle.std.specs.Prelude.{Option, None, Some}
use mathlib.Core.Path.{◌≡◌, refl, sym, ap, ◌∙◌}
use mathlib.Core.List.{List, [], ◌∷◌, ◌++◌, append_assoc, append-nil}
use Prim.Native.Nat.{ℕ, zero, suc, ◌≤◌, ◌<◌}
use native.Mathlib.Omega.{arith}
use lib.ListN.{length, length-append}
use Rattle.sets.specs.Lists.{All}
use Rattle.words.specs.Words.{Word, bodies}
use Rattle.circuit.specs.Phase.{phases}
use Rattle.circuit.proofs.Phases.{phases-lt, phases-none, phases-over}
use Rattle.versions.specs.declared.Version.{Version}
use Rattle.statements.specs.Statements.{Said, read_gate}
use Rattle.statements.specs.Forms.{Form, cnot, turn, xgate, hadamard, common, GoodForm, form_words, forms_words, form_record, form_records, form_phase, phase_of_forms}
use Rattle.statements.proofs.Back.{gate-said-back}
use Rattle.statements.proofs.Words.{bodies-length, bodies-append, before, gate-on}
use Rattle.qasm_reading.specs.Parsing.{StatementRun, statement_run_on, statement_run_in, statement_run}

-- ---- a gate has words

pub form-long : (name : List ℕ) (f : Form) → 1 ≤ length (form_words name f)
unfolding form_words
form-long name (cnot a b) = omega arith
form-long name (turn r m t o a) = omega arith
form-long name (xgate a) = omega arith
form-long name (hadamard a) = omega arith
form-long name (common m t o) = omega arith

-- what was read, and the words it was read from
pub record GateRead (v : Version) (name : List ℕ) (ws : List Word) (said : Said) : Type 0 where
  pub form : Form
  pub good : GoodForm v form
  pub value : form_record form ≡ said.records
  pub phase : form_phase v form ≡ said.phase
  pub words : List Word
  pub same : ws ≡ words ++ said.rest
  pub spelt : bodies words ≡ form_words name form

pub gate-read : (v : Version) (name : List ℕ) (ws : List Word) (g : Said) → read_gate v name (Some ws) ≡ Some g → GateRead v name ws g
gate-read v name ws g e =
    let b = gate-said-back v name (Some ws) {bs = []} {t = g.rest} g e (record { words = []; same = refl; spelt = refl }) in
    record {
      form = b.form;
      good = b.good;
      value = b.value;
      phase = b.phase;
      words = b.leads.words;
      same = cc b.leads.same;
      spelt = b.leads.spelt ∙ append-nil (form_words name b.form);
    }

pub gate-short : (v : Version) (name : List ℕ) (ws : List Word) (g : Said) → read_gate v name (Some ws) ≡ Some g → length g.rest < length ws
gate-short v name ws g e =
    let r = gate-read v name ws g e in
    omega (arith, ap length r.same, length-append r.words g.rest, bodies-length r.words, ap length r.spelt, form-long name r.form)

-- ---- runs

in-none : (f : ℕ) (v : Version) (name : List ℕ) (ws : List Word) → read_gate v name (Some ws) ≡ None → statement_run_in (suc f) v name ws ≡ record { records = []; phase = 0; left = ws }
unfolding statement_run_in
in-none f v name ws e = rw e

in_some : (f : ℕ) (v : Version) (name : List ℕ) (ws : List Word) (g : Said) → read_gate v name (Some ws) ≡ Some g
    → statement_run_in (suc f) v name ws ≡ record { records = g.records ++ (statement_run_in f v name g.rest).records; phase = phases g.phase (statement_run_in f v name g.rest).phase; left = (statement_run_in f v name g.rest).left }
unfolding statement_run_in
in_some f v name ws g e = rw e

pub gate-nil : (v : Version) (name : List ℕ) → read_gate v name (Some []) ≡ None
gate-nil v name = go (read_gate v name (Some [])) refl
  where
    go : (o : Option Said) → read_gate v name (Some []) ≡ o → o ≡ None
    go None e = refl
    go (Some g) e = absurd (omega (arith, gate-short v name [] g e))

in-nil : (f : ℕ) (v : Version) (name : List ℕ) → statement_run_in f v name [] ≡ record { records = []; phase = 0; left = [] }
unfolding statement_run_in
in-nil zero v name = refl
in-nil (suc f) v name = in-none f v name [] (gate-nil v name)

statement-run-fuel : (f k : ℕ) (v : Version) (name : List ℕ) (ws : List Word) → length ws ≤ f → length ws ≤ k → statement_run_in f v name ws ≡ statement_run_in k v name ws
statement-run-fuel zero k v name [] a b = in-nil zero v name ∙ sym (in-nil k v name)
statement-run-fuel zero k v name (w ∷ ws) a b = absurd (omega arith)
statement-run-fuel (suc f) zero v name [] a b = in-nil (suc f) v name ∙ sym (in-nil zero v name)
statement-run-fuel (suc f) zero v name (w ∷ ws) a b = absurd (omega arith)
statement-run-fuel (suc f) (suc k) v name ws a b = go (read_gate v name (Some ws)) refl (statement-run-fuel f k v name)
  where
    go : (o : Option Said) → read_gate v name (Some ws) ≡ o → ((t : List Word) → length t ≤ f → length t ≤ k → statement_run_in f v name t ≡ statement_run_in k v name t) → statement_run_in (suc f) v name ws ≡ statement_run_in (suc k) v name ws
    go None e ih = in-none f v name ws e ∙ sym (in-none k v name ws e)
    go (Some g) e ih =
        let h : length g.rest < length ws = gate-short v name ws g e in
        in_some f v name ws g e ∙ rw (ih g.rest (omega arith) (omega arith)) (sym (in_some k v name ws g e))

pub statement-run-none : (v : Version) (name : List ℕ) (ws : List Word) → read_gate v name (Some ws) ≡ None → statement_run v name ws ≡ record { records = []; phase = 0; left = ws }
unfolding statement_run
statement-run-none v name [] e = in-nil 0 v name
statement-run-none v name (w ∷ ws) e = in-none (length ws) v name (w ∷ ws) e

pub statement-run-some : (v : Version) (name : List ℕ) (ws : List Word) (g : Said) → read_gate v name (Some ws) ≡ Some g
    → statement_run v name ws ≡ record { records = g.records ++ (statement_run v name g.rest).records; phase = phases g.phase (statement_run v name g.rest).phase; left = (statement_run v name g.rest).left }
unfolding statement_run
statement-run-some v name [] g e = absurd (omega (arith, gate-short v name [] g e))
statement-run-some v name (w ∷ ws) g e =
    let h : length g.rest < length (w ∷ ws) = gate-short v name (w ∷ ws) g e in
    in_some (length ws) v name (w ∷ ws) g e ∙ rw (statement-run-fuel (length ws) (length g.rest) v name g.rest (omega arith) (omega arith))

-- a run is spelt by forms of its records, and behind it no gate stands
pub record WholeStatements (v : Version) (name : List ℕ) (ws : List Word) (r : StatementRun) : Type 0 where
  pub forms : List Form
  pub good : All (GoodForm v) forms
  pub meant : form_records forms ≡ r.records
  pub shifted : phase_of_forms v forms ≡ r.phase
  pub words : List Word
  pub same : ws ≡ words ++ r.left
  pub spelt : bodies words ≡ forms_words name forms
  pub stops : read_gate v name (Some r.left) ≡ None

whole_in : (f : ℕ) (v : Version) (name : List ℕ) (ws : List Word) → length ws ≤ f → WholeStatements v name ws (statement_run_in f v name ws)
unfolding statement_run_in All form_records phase_of_forms forms_words
whole_in zero v name [] h = record { forms = []; good = tt; meant = refl; shifted = refl; words = []; same = refl; spelt = refl; stops = gate-nil v name }
whole_in zero v name (w ∷ ws) h = absurd (omega arith)
whole_in (suc f) v name ws h = go (read_gate v name (Some ws)) refl (whole_in f v name)
  where
    go : (o : Option Said) → read_gate v name (Some ws) ≡ o → ((t : List Word) → length t ≤ f → WholeStatements v name t (statement_run_in f v name t)) → WholeStatements v name ws (statement_run_in (suc f) v name ws)
    go None e ih = rw (in-none f v name ws e) (record { forms = []; good = tt; meant = refl; shifted = refl; words = []; same = refl; spelt = refl; stops = e })
    go (Some said) e ih =
        let g = gate-read v name ws said e in
        let w = ih said.rest (omega (arith, gate-short v name ws said e)) in
        rw (in_some f v name ws said e) (record {
          forms = g.form ∷ w.forms;
          good = (g.good, w.good);
          meant = rw (g.value, w.meant);
          shifted = rw (g.phase, w.shifted);
          words = g.words ++ w.words;
          same = g.same ∙ ap (λ l. g.words ++ l) w.same ∙ sym (append_assoc g.words w.words _);
          spelt = bodies-append g.words w.words ∙ rw (g.spelt, w.spelt);
          stops = w.stops;
        })

pub statement-run-whole : (v : Version) (name : List ℕ) (ws : List Word) → WholeStatements v name ws (statement_run v name ws)
unfolding statement_run
statement-run-whole v name ws = whole_in (length ws) v name ws (omega arith)

-- its common phase is within a turn
small-in : (f : ℕ) (v : Version) (name : List ℕ) (ws : List Word) → (statement_run_in f v name ws).phase < 131072
unfolding statement_run_in
small-in zero v name ws = omega arith
small-in (suc f) v name ws = go (read_gate v name (Some ws))
  where
    go : (o : Option Said) → (statement_run_on o (statement_run_in f v name) ws).phase < 131072
    go None = omega arith
    go (Some g) = phases-lt _ _

pub run_small : (v : Version) (name : List ℕ) (ws : List Word) → (statement_run v name ws).phase < 131072
unfolding statement_run
run_small v name ws = small-in (length ws) v name ws

-- words that are spelt by forms are read as these, and then what stands behind them
pub statement-run-on : (v : Version) (name : List ℕ) (fs : List Form) (ws t : List Word) → All (GoodForm v) fs → bodies ws ≡ forms_words name fs
    → statement_run v name (ws ++ t) ≡ record { records = form_records fs ++ (statement_run v name t).records; phase = phases (phase_of_forms v fs) (statement_run v name t).phase; left = (statement_run v name t).left }
unfolding All form_records phase_of_forms forms_words
statement-run-on v name [] [] t h e = rw (phases-none (statement_run v name t).phase (run_small v name t))
statement-run-on v name [] (w ∷ ws) t h e = let z : ◌≡◌ {A = ℕ} (suc (length (bodies ws))) 0 = ap length e in absurd (omega arith)
statement-run-on v name (f ∷ fs) ws t h e =
    let b = before (form_words name f) (forms_words name fs) ws e in
    let s : ws ++ t ≡ b.front ++ (b.back ++ t) = ap (λ l. l ++ t) b.same ∙ append_assoc b.front b.back t in
    let g = gate-on v name f b.front (b.back ++ t) h.0 b.front_spelt in
    ap (statement_run v name) s ∙ statement-run-some v name (b.front ++ (b.back ++ t)) _ g ∙ rw (statement-run-on v name fs b.back t h.1 b.back_spelt, append_assoc, phases-over)
