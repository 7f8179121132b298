-- Parsing finds a job exactly in a job's text, and in any other the first line that cannot continue a job. Assumes nothing.
use Rattle.std.specs.Prelude.{Option, None, Some}
use mathlib.Core.Path.{◌≡◌, refl, sym, ap, ◌∙◌, subst}
use mathlib.Core.Bool.{Bool, true, false}
use mathlib.Core.List.{List, [], ◌∷◌, ◌++◌, append_assoc, append-nil}
use Prim.Native.Nat.{ℕ, zero, suc, ◌+◌, ◌≤◌, ◌<◌}
use native.Mathlib.Omega.{arith}
use lib.Dec.{ltb}
use lib.ListN.{length}
use borrow.Author.Tests.{ltb-true, ltb-false}
use Rattle.spots.specs.Numbers.{Got}
use Rattle.reading.specs.Limits.{most_first}
use Rattle.lines.specs.Lines.{line_text, records_text, text_of}
use Rattle.reading.specs.Misfit.{JobText, first_lines, Misfit, FitsLine}
use Rattle.sets.specs.Lists.{All}
use Rattle.reading.specs.Parsing.{read_head, Parsed, misfit, job, end_of, body_of, parsed}
use Rattle.spots.proofs.Numbers.{never-some}
use Rattle.reading.specs.declared.sort.Sort.TheVariants.{Couplers, Gates}
use Rattle.reading.proofs.Fronts.{front-job, job-fronts, back, front-back, front-none, front-more}
use Rattle.reading.proofs.Lines.{head-forth}
use Rattle.reading.proofs.Runs.{TakenJob, taken, parsed-forth, text-parsed}

pub two : {B : Type 0} {n k : ℕ} {es gs : List ℕ} → misfit k ≡ job n es gs → B
two e = let z : ◌≡◌ {A = ℕ} 0 1 = cc e in absurd (omega arith)

-- the records of a job that was found
pub record FoundJob (s : List ℕ) (n : ℕ) (es gs : List ℕ) : Type 0 where
  pub same : s ≡ text_of n es gs
  pub few : n ≤ most_first
  pub couplers : All (FitsLine Couplers) es
  pub gates : All (FitsLine Gates) gs

pub job-found : (s : List ℕ) (n : ℕ) (es gs : List ℕ) → parsed s ≡ job n es gs → FoundJob s n es gs
unfolding parsed body_of end_of
job-found s n es gs e = go (read_head s) refl e
  where
    end : (m : ℕ) (cs hs l : List ℕ) → TakenJob s m cs hs l → end_of m cs hs l ≡ job n es gs → FoundJob s n es gs
    end m cs hs [] k e =
        let p : m ≡ n = cc e in
        let q : cs ≡ es = cc e in
        let r : hs ≡ gs = cc e in
        subst (λ m. FoundJob s m es gs) p (subst (λ cs. FoundJob s m cs gs) q (subst (λ hs. FoundJob s m cs hs) r
        (record { same = k.same ∙ append-nil (text_of m cs hs); few = k.few; couplers = k.couplers; gates = k.gates })))
    end m cs hs (x ∷ l) k e = two e

    go : (o : Option (Got ℕ)) → read_head s ≡ o → body_of o ≡ job n es gs → FoundJob s n es gs
    go None d e = two e
    go (Some r) d e = end _ _ _ _ (taken s r d) e

pub job-parsed : (s : List ℕ) (j : JobText s) → parsed s ≡ job j.qubits j.couplers j.gates
job-parsed s j = ap parsed j.same ∙ text-parsed j.qubits j.couplers j.gates j.few j.couplers_fit j.gates_fit

-- a first line that is no `q` line
first-misfit : (s : List ℕ) → read_head s ≡ None → Misfit s 1
unfolding text_of
first-misfit s e = record {
  counted = omega arith;
  before = λ i (a : 1 ≤ i) (b : i < 1). absurd (omega arith);
  here = λ j.
      let q = line_text 113 (j.qubits ∷ []) in
      let r = records_text j.couplers ++ records_text j.gates in
      let w : s ≡ q ++ (r ++ back 1 s) = sym (front-back 1 s) ∙ ap (λ l. l ++ back 1 s) j.same ∙ append_assoc q r (back 1 s) in
      never-some (sym e ∙ ap read_head w ∙ head-forth j.qubits (r ++ back 1 s) j.few);
}

-- what is left behind the runs begins with a line of neither sort
later-misfit : (s : List ℕ) (n : ℕ) (es gs : List ℕ) (x : ℕ) (t : List ℕ) → TakenJob s n es gs (x ∷ t) → Misfit s (2 + length es + length gs)
unfolding end_of first_lines
later-misfit s n es gs x t k = record { counted = omega arith; before = before; here = here }
  where
    before : (j : ℕ) → 1 ≤ j → j < 2 + length es + length gs → JobText (first_lines j s)
    before zero a b = absurd (omega arith)
    before (suc j) a b = subst (λ l. JobText (first_lines (suc j) l)) (sym k.same) (front-job j n es gs (x ∷ t) k.few k.couplers k.gates (omega arith))

    here : JobText (first_lines (2 + length es + length gs) s) → ⊥
    here j =
        let w : first_lines (2 + length es + length gs) s ≡ text_of n es gs ++ first_lines 1 (x ∷ t) = ap (first_lines (2 + length es + length gs)) k.same ∙ front-more n es gs (x ∷ t) in
        let p : parsed (text_of n es gs ++ first_lines 1 (x ∷ t)) ≡ end_of n es gs (first_lines 1 (x ∷ t))
        = parsed-forth n es gs (first_lines 1 (x ∷ t)) k.few k.couplers k.gates (λ z. front-none Couplers 1 (x ∷ t) (k.stop_coupler z)) (front-none Gates 1 (x ∷ t) k.stop) in
        two (sym p ∙ ap parsed (sym w) ∙ job-parsed _ j)

pub misfit-first : (s : List ℕ) (k : ℕ) → parsed s ≡ misfit k → Misfit s k
unfolding parsed body_of end_of
misfit-first s k e = go (read_head s) refl e
  where
    end : (m : ℕ) (cs hs l : List ℕ) → TakenJob s m cs hs l → end_of m cs hs l ≡ misfit k → Misfit s k
    end m cs hs [] t e = two (sym e)
    end m cs hs (x ∷ l) t e = let z : 2 + length cs + length hs ≡ k = cc e in subst (Misfit s) z (later-misfit s m cs hs x l t)

    go : (o : Option (Got ℕ)) → read_head s ≡ o → body_of o ≡ misfit k → Misfit s k
    go None d e = let z : 1 ≡ k = cc e in subst (Misfit s) z (first-misfit s d)
    go (Some r) d e = end _ _ _ _ (taken s r d) e

-- ---- there is one such line at most, and none in a job's text

-- of what holds below each of two places and at neither
pub first-once : (P : ℕ → Type 0) (j k : ℕ) → (P j → ⊥) → (P k → ⊥) → (j < k → P j) → (k < j → P k) → j ≡ k
first-once P j k nj nk a b = go (ltb j k) (ltb k j) refl refl
  where
    go : (t u : Bool) → ltb j k ≡ t → ltb k j ≡ u → j ≡ k
    go true u p q = absurd (nj (a (ltb-true j k p)))
    go false true p q = absurd (nk (b (ltb-true k j q)))
    go false false p q = omega (arith, ltb-false j k p, ltb-false k j q)

misfit-once : (s : List ℕ) (j k : ℕ) → Misfit s j → Misfit s k → j ≡ k
misfit-once s j k a b = first-once (λ i. JobText (first_lines i s)) j k a.here b.here (b.before j a.counted) (a.before k b.counted)

job-none : (s : List ℕ) (k : ℕ) → JobText s → Misfit s k → ⊥
job-none s zero j m = omega (arith, m.counted)
job-none s (suc k) j m = m.here (job-fronts s k j)

pub misfit-parsed : (s : List ℕ) (k : ℕ) → Misfit s k → parsed s ≡ misfit k
misfit-parsed s k m = go (parsed s) refl
  where
    go : (p : Parsed) → parsed s ≡ p → p ≡ misfit k
    go (misfit j) e = ap misfit (misfit-once s j k (misfit-first s j e) m)
    go (job n es gs) e =
        let f = job-found s n es gs e in
        absurd (job-none s k (record { qubits = n; couplers = es; gates = gs; few = f.few; couplers_fit = f.couplers; gates_fit = f.gates; same = f.same }) m)
