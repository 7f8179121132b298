-- Runs of lines, and the two laws of reading: what is written is read, and what is read was written so. Assumes nothing.
use Rattle.std.specs.Prelude.{Option, None, Some}
use mathlib.Core.Path.{◌≡◌, refl, sym, ap, ◌∙◌}
use mathlib.Core.List.{List, [], ◌∷◌, ◌++◌, append_assoc, append-nil}
use Prim.Native.Nat.{ℕ, zero, suc, ◌≤◌, ◌<◌}
use native.Mathlib.Omega.{arith}
use lib.ListN.{length}
use Rattle.spots.specs.Numbers.{Got}
use Rattle.reading.specs.Limits.{most_first}
use Rattle.lines.specs.Lines.{line_text, record_text, records_text, text_of}
use Rattle.reading.specs.Misfit.{FitsLine}
use Rattle.sets.specs.Lists.{All}
use Rattle.reading.specs.Parsing.{Run, read_one, run_in, run_of, read_head, job, end_of, body_of, parsed}
use Rattle.reading.specs.declared.sort.Sort.{Sort}
use Rattle.reading.specs.declared.sort.Sort.TheVariants.{Couplers, Gates}
use Rattle.reading.proofs.Lines.{one-back, one-short, one-forth, one-nil, gate-none, head-forth, head-back}

line-run-fuel : (f k : ℕ) (g : Sort) (s : List ℕ) → length s ≤ f → length s ≤ k → run_in f g s ≡ run_in k g s
unfolding run_in
line-run-fuel zero zero g s a b = refl
line-run-fuel zero (suc k) g [] a b = rw (run_in, one-nil g)
line-run-fuel zero (suc k) g (x ∷ s) a b = absurd (omega arith)
line-run-fuel (suc f) zero g [] a b = rw (run_in, one-nil g)
line-run-fuel (suc f) zero g (x ∷ s) a b = absurd (omega arith)
line-run-fuel (suc f) (suc k) g s a b = go (read_one g s) refl (line-run-fuel f k g)
  where
    go : (o : Option (Got ℕ)) → read_one g s ≡ o → ((t : List ℕ) → length t ≤ f → length t ≤ k → run_in f g t ≡ run_in k g t) → run_in (suc f) g s ≡ run_in (suc k) g s
    go None e ih = rw (run_in, e)
    go (Some r) e ih =
        let h : length r.rest < length s = one-short g s r e in
        rw (run_in, e, ih r.rest (omega arith) (omega arith))

pub line-run-none : (g : Sort) (s : List ℕ) → read_one g s ≡ None → run_of g s ≡ record { records = []; left = s }
unfolding run_of run_in
line-run-none g [] e = refl
line-run-none g (x ∷ s) e = rw (run_in, e)

pub line-run-some : (g : Sort) (s : List ℕ) (r : Got ℕ) → read_one g s ≡ Some r → run_of g s ≡ record { records = r.value ∷ (run_of g r.rest).records; left = (run_of g r.rest).left }
unfolding run_of run_in
line-run-some g [] r e = absurd (omega (arith, one-short g [] r e))
line-run-some g (x ∷ s) r e =
    let h : length r.rest < length (x ∷ s) = one-short g (x ∷ s) r e in
    rw (run_in, e, line-run-fuel (length s) (length r.rest) g r.rest (omega arith) (omega arith))

-- a run is written as it was read, and no line of its sort stands behind it
pub record WholeRun (g : Sort) (s : List ℕ) (r : Run) : Type 0 where
  pub same : s ≡ records_text r.records ++ r.left
  pub fit : All (FitsLine g) r.records
  pub stop : read_one g r.left ≡ None

run-back : (f : ℕ) (g : Sort) (s : List ℕ) → length s ≤ f → WholeRun g s (run_in f g s)
unfolding run_in records_text All
run-back zero g [] h = record { same = refl; fit = tt; stop = one-nil g }
run-back zero g (x ∷ s) h = absurd (omega arith)
run-back (suc f) g s h = go (read_one g s) refl (run-back f g)
  where
    go : (o : Option (Got ℕ)) → read_one g s ≡ o → ((t : List ℕ) → length t ≤ f → WholeRun g t (run_in f g t)) → WholeRun g s (run_in (suc f) g s)
    go None e ih = rw (run_in, e) (record { same = refl; fit = tt; stop = e })
    go (Some r) e ih =
        let b = one-back g s r e in
        let w = ih r.rest (omega (arith, one-short g s r e)) in
        rw (run_in, e) (record { same = b.0 ∙ ap (λ l. record_text r.value ++ l) w.same ∙ sym (append_assoc (record_text r.value) _ _); fit = (b.1, w.fit); stop = w.stop })

pub line-run-whole : (g : Sort) (s : List ℕ) → WholeRun g s (run_of g s)
unfolding run_of
line-run-whole g s = run-back (length s) g s (omega arith)

pub run-forth : (g : Sort) (rs t : List ℕ) → All (FitsLine g) rs → read_one g t ≡ None → run_of g (records_text rs ++ t) ≡ record { records = rs; left = t }
unfolding records_text All
run-forth g [] t h e = line-run-none g t e
run-forth g (x ∷ rs) t h e =
    let r : Got ℕ = record { value = x; rest = records_text rs ++ t } in
    rw append_assoc (line-run-some g (record_text x ++ (records_text rs ++ t)) r (one-forth g x (records_text rs ++ t) h.0) ∙ rw (run-forth g rs t h.1 e))

-- ---- the two laws

-- no coupler's line stands before gates
gates-none : (gs t : List ℕ) → All (FitsLine Gates) gs → (gs ≡ [] → read_one Couplers t ≡ None) → read_one Couplers (records_text gs ++ t) ≡ None
unfolding records_text All
gates-none [] t h e = e refl
gates-none (x ∷ gs) t h e = rw append_assoc (gate-none x (records_text gs ++ t) h.0)

-- behind a job's text stands t, where no line of a coupler or a gate stands
pub parsed-forth : (n : ℕ) (es gs t : List ℕ) → n ≤ most_first → All (FitsLine Couplers) es → All (FitsLine Gates) gs → (gs ≡ [] → read_one Couplers t ≡ None) → read_one Gates t ≡ None
    → parsed (text_of n es gs ++ t) ≡ end_of n es gs t
unfolding parsed body_of text_of
parsed-forth n es gs t h a b p q =
    let e : (line_text 113 (n ∷ []) ++ (records_text es ++ records_text gs)) ++ t ≡ line_text 113 (n ∷ []) ++ (records_text es ++ (records_text gs ++ t)) = simp append_assoc in
    rw (e, head-forth n (records_text es ++ (records_text gs ++ t)) h, run-forth Couplers es (records_text gs ++ t) a (gates-none gs t b p), run-forth Gates gs t b q)

pub text-parsed : (n : ℕ) (es gs : List ℕ) → n ≤ most_first → All (FitsLine Couplers) es → All (FitsLine Gates) gs → parsed (text_of n es gs) ≡ job n es gs
unfolding end_of
text-parsed n es gs h a b = ap parsed (sym (append-nil (text_of n es gs))) ∙ parsed-forth n es gs [] h a b (λ _. one-nil Couplers) (one-nil Gates)

-- the text is that of a job, and behind it stands what no line of a job begins
pub record TakenJob (s : List ℕ) (n : ℕ) (es gs t : List ℕ) : Type 0 where
  pub same : s ≡ text_of n es gs ++ t
  pub few : n ≤ most_first
  pub couplers : All (FitsLine Couplers) es
  pub gates : All (FitsLine Gates) gs
  pub stop : read_one Gates t ≡ None
  pub stop_coupler : gs ≡ [] → read_one Couplers t ≡ None

pub taken : (s : List ℕ) (r : Got ℕ) → read_head s ≡ Some r
    → TakenJob s r.value (run_of Couplers r.rest).records (run_of Gates (run_of Couplers r.rest).left).records (run_of Gates (run_of Couplers r.rest).left).left
unfolding text_of records_text
taken s r e =
    let h = head-back s r e in
    let c = line-run-whole Couplers r.rest in
    let es = (run_of Couplers r.rest).records in
    let g = line-run-whole Gates (run_of Couplers r.rest).left in
    let q = line_text 113 (r.value ∷ []) in
    record {
      same = h.0 ∙ ap (λ l. q ++ l) (c.same ∙ ap (λ l. records_text es ++ l) g.same) ∙ sym (append_assoc q _ _ ∙ ap (λ l. q ++ l) (append_assoc (records_text es) _ _));
      few = h.1;
      couplers = c.fit;
      gates = g.fit;
      stop = g.stop;
      stop_coupler = λ z. ap (read_one Couplers) (sym (g.same ∙ none_left z)) ∙ c.stop;
    }
  where
    none_left : (run_of Gates (run_of Couplers r.rest).left).records ≡ []
        → records_text (run_of Gates (run_of Couplers r.rest).left).records ++ (run_of Gates (run_of Couplers r.rest).left).left ≡ (run_of Gates (run_of Couplers r.rest).left).left
    none_left z = ap (λ l. records_text l ++ (run_of Gates (run_of Couplers r.rest).left).left) z
