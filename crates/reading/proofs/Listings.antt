-- Parsing finds couplers exactly in a couplers' text, and in any other the first line that cannot continue one. Assumes nothing.
use Rattle.std.specs.Prelude.{None}
use mathlib.Core.Path.{◌≡◌, refl, sym, ap, ◌∙◌, subst}
use mathlib.Core.List.{List, [], ◌∷◌, ◌++◌, append-nil}
use Prim.Native.Nat.{ℕ, ◌+◌, ◌-◌, ◌≤◌, ◌<◌}
use native.Mathlib.Omega.{arith}
use lib.ListN.{length, take}
use lib.Seq.{take_all}
use Rattle.lines.specs.Lines.{records_text}
use Rattle.reading.specs.Misfit.{first_lines, FitsLine}
use Rattle.sets.specs.Lists.{All}
use Rattle.reading.specs.Parsing.{run_of, read_one, Parsed, misfit, job}
use Rattle.reading.specs.Listing.{CouplersText, MisfitCoupler, end_couplers, parsed_couplers}
use Rattle.reading.specs.declared.sort.Sort.TheVariants.{Couplers}
use Rattle.reading.proofs.Lines.{one-nil}
use Rattle.reading.proofs.Runs.{line-run-whole, run-forth}
use Rattle.reading.proofs.Fronts.{front-zero, front-nil, records-front, fit-take, front-none}
use Rattle.reading.proofs.Misfits.{two, first-once}

-- ---- from the parsing to what the text is

-- couplers that were found: there are no qubits and no gates beside them
pub record FoundCouplers (s : List ℕ) (n : ℕ) (es gs : List ℕ) : Type 0 where
  pub same : s ≡ records_text es
  pub fit : All (FitsLine Couplers) es
  pub no_qubits : n ≡ 0
  pub no_gates : gs ≡ []

pub couplers-found : (s : List ℕ) (n : ℕ) (es gs : List ℕ) → parsed_couplers s ≡ job n es gs → FoundCouplers s n es gs
unfolding parsed_couplers end_couplers
couplers-found s n es gs e = let w = line-run-whole Couplers s in go (run_of Couplers s).records (run_of Couplers s).left w.same w.fit e
  where
    go : (cs l : List ℕ) → s ≡ records_text cs ++ l → All (FitsLine Couplers) cs → end_couplers cs l ≡ job n es gs → FoundCouplers s n es gs
    go cs [] w f e =
        let q : cs ≡ es = cc e in
        subst (λ cs. FoundCouplers s n cs gs) q (record { same = w ∙ append-nil (records_text cs); fit = f; no_qubits = cc e; no_gates = cc e })
    go cs (x ∷ l) w f e = two e

-- behind couplers stands t, where no line of a coupler stands
pub couplers-forth : (es t : List ℕ) → All (FitsLine Couplers) es → read_one Couplers t ≡ None → parsed_couplers (records_text es ++ t) ≡ end_couplers es t
unfolding parsed_couplers
couplers-forth es t f h = rw (run-forth Couplers es t f h)

pub couplers-parsed : (s : List ℕ) (c : CouplersText s) → parsed_couplers s ≡ job 0 c.couplers []
unfolding end_couplers
couplers-parsed s c =
    ap parsed_couplers (c.same ∙ sym (append-nil (records_text c.couplers))) ∙ couplers-forth c.couplers [] c.fit (one-nil Couplers)

-- ---- the first lines

front-couplers : (j : ℕ) (es t : List ℕ) → All (FitsLine Couplers) es → j ≤ length es → CouplersText (first_lines j (records_text es ++ t))
front-couplers j es t f l =
    let z : j - length es ≡ 0 = omega arith in
    record {
      couplers = take j es;
      fit = fit-take Couplers j es f;
      same = records-front j es t ∙ ap (λ k. records_text (take j es) ++ first_lines k t) z ∙ ap (λ l. records_text (take j es) ++ l) (front-zero t) ∙ append-nil _;
    }

couplers-fronts : (s : List ℕ) (k : ℕ) → CouplersText s → CouplersText (first_lines k s)
couplers-fronts s k c =
    let l = records_text (take k c.couplers) in
    record {
      couplers = take k c.couplers;
      fit = fit-take Couplers k c.couplers c.fit;
      same = ap (first_lines k) (c.same ∙ sym (append-nil (records_text c.couplers))) ∙ records-front k c.couplers [] ∙ ap (λ t. l ++ t) (front-nil _) ∙ append-nil l;
    }

-- couplers and one line more
front-further : (es t : List ℕ) → first_lines (1 + length es) (records_text es ++ t) ≡ records_text es ++ first_lines 1 t
front-further es t =
    let m = 1 + length es in
    let e : take m es ≡ es = take_all m es (omega arith) in
    let y : m - length es ≡ 1 = omega arith in
    records-front m es t ∙ rw (e, y)

-- ---- the line that is refused

-- what is left behind the couplers begins with a line of another sort
coupler-misfit : (s es : List ℕ) (x : ℕ) (t : List ℕ) → s ≡ records_text es ++ (x ∷ t) → All (FitsLine Couplers) es → read_one Couplers (x ∷ t) ≡ None → MisfitCoupler s (1 + length es)
unfolding end_couplers first_lines
coupler-misfit s es x t same fit stop = record { counted = omega arith; before = before; here = here }
  where
    before : (j : ℕ) → j < 1 + length es → CouplersText (first_lines j s)
    before j b = subst (λ l. CouplersText (first_lines j l)) (sym same) (front-couplers j es (x ∷ t) fit (omega arith))

    here : CouplersText (first_lines (1 + length es) s) → ⊥
    here c =
        let w : first_lines (1 + length es) s ≡ records_text es ++ first_lines 1 (x ∷ t) = ap (first_lines (1 + length es)) same ∙ front-further es (x ∷ t) in
        let p : parsed_couplers (records_text es ++ first_lines 1 (x ∷ t)) ≡ end_couplers es (first_lines 1 (x ∷ t)) = couplers-forth es (first_lines 1 (x ∷ t)) fit (front-none Couplers 1 (x ∷ t) stop) in
        two (sym p ∙ ap parsed_couplers (sym w) ∙ couplers-parsed _ c)

pub coupler-misfit-first : (s : List ℕ) (k : ℕ) → parsed_couplers s ≡ misfit k → MisfitCoupler s k
unfolding parsed_couplers end_couplers
coupler-misfit-first s k e = let w = line-run-whole Couplers s in go (run_of Couplers s).records (run_of Couplers s).left w.same w.fit w.stop e
  where
    go : (cs l : List ℕ) → s ≡ records_text cs ++ l → All (FitsLine Couplers) cs → read_one Couplers l ≡ None → end_couplers cs l ≡ misfit k → MisfitCoupler s k
    go cs [] w f h e = two (sym e)
    go cs (x ∷ l) w f h e = let z : 1 + length cs ≡ k = cc e in subst (MisfitCoupler s) z (coupler-misfit s cs x l w f h)

-- ---- there is one such line at most, and none in a couplers' text

pub coupler-misfit-parsed : (s : List ℕ) (k : ℕ) → MisfitCoupler s k → parsed_couplers s ≡ misfit k
coupler-misfit-parsed s k m = go (parsed_couplers s) refl
  where
    once : (j : ℕ) → MisfitCoupler s j → j ≡ k
    once j a = first-once (λ i. CouplersText (first_lines i s)) j k a.here m.here (m.before j) (a.before k)

    go : (p : Parsed) → parsed_couplers s ≡ p → p ≡ misfit k
    go (misfit j) e = ap misfit (once j (coupler-misfit-first s j e))
    go (job n es gs) e =
        let f = couplers-found s n es gs e in
        absurd (m.here (couplers-fronts s k (record { couplers = es; fit = f.fit; same = f.same })))
