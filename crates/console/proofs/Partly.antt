-- A part as the program prints it: the lines of a stretch, and behind them that of a Hadamard. Assumes nothing.
use mathlib.Core.Path.{◌≡◌, refl, sym, ap, ap₂, ◌∙◌, subst}
use mathlib.Core.Bool.{Bool, true, false}
use mathlib.Core.List.{List, [], ◌∷◌, ◌++◌}
use Prim.Native.Nat.{ℕ, zero, suc, ◌+◌, ◌≤◌, ◌<◌}
use native.Mathlib.Omega.{arith}
use native.Mathlib.Decide.{dec_lt}
use lib.ListN.{length, length-append}
use lib.Dec.{leb}
use lib.Seq.{sets, length-sets}
use borrow.Author.Tests.{le-leb, lt-leb}
use Rattle.sets.specs.Pick.{pick}
use Rattle.std.specs.Prelude.{Ok, Err}
use Rattle.verdicts.specs.declared.verdict.Refusal.{Refusal}
use Rattle.verdicts.specs.Verdicts.{number_of}
use Rattle.verdicts.proofs.Judged.{stopped}
use Rattle.tallies.specs.Tally.{largest}
use Rattle.laying.specs.declared.lay.Laid.{Laid}
use Rattle.judging.specs.Tests.{verdict_of}
use Rattle.laying.specs.Answers.{Answer, answered, output_of, phase_in}
use Rattle.laying.proofs.Said.{refused_says}
use Rattle.sets.specs.Lists.{All}
use Rattle.stretches.specs.Stretches.{stretch_at, rest_from}
use Rattle.stretches.specs.Asked.{Accepts}
use Rattle.stretches.specs.Laid.{stretch_records}
use Rattle.stretches.specs.Parts.{hadamard_at, part_at, laid_from}
use Rattle.stretches.proofs.Alone.{alone-counts}
use Rattle.sets.proofs.Lists.{all_head, all_tail}
use Rattle.stretches.proofs.Judging.{lent-step}
use Rattle.stretches.proofs.Parting.{parts_none, parts-step}
use Rattle.lines.specs.Lent.{fitted_end, fitted_at, lines_end, lines_at, Wrote, Fitted, FittedLines}
use Rattle.lines.proofs.Writes.{wrote_then, sets-onto}
use Rattle.lines.proofs.Joined.{joined-append}
use Rattle.lines.proofs.Recorded.{lines_fit}
use Rattle.console.specs.Printed.{Prints, refusal_of, unless}
use Rattle.console.specs.Parts.{part_text, next_part, share_part, parts_from}
use Rattle.console.specs.Forms.{FittedUnless, FittedPart}
use Rattle.console.proofs.Choosing.{unless-passed, unless-refused}

-- two lists of records written one behind the other, a line each, where there is room for both
module _ (room : ℕ) (line : ℕ → List ℕ) (text : List ℕ → List ℕ) (none : text [] ≡ []) (more : (x : ℕ) (xs : List ℕ) → text (x ∷ xs) ≡ line x ++ text xs)
    (R h L out out₁ out₂ : List ℕ) (at bytes : ℕ) (lent : length out ≡ room) (is : L ≡ R) (fit : length (text R) + length (text h) ≤ room)
    (a : at ≡ lines_end line L 0 (length out)) (b : out₁ ≡ lines_at line L 0 out) (c : bytes ≡ lines_end line h at (length out₁)) (d : out₂ ≡ lines_at line h at out₁) where
  first : Wrote out 0 (text R) out₁ at
  first =
      let f = lines_fit line text none more R 0 out (omega (arith, fit, lent)) in
      (a ∙ ap (λ (x : List ℕ). lines_end line x 0 (length out)) is ∙ f.0, b ∙ ap (λ (x : List ℕ). lines_at line x 0 out) is ∙ f.1)

  second : Wrote out₁ at (text h) out₂ bytes
  second =
      let f = lines_fit line text none more h at out₁ (omega (arith, fit, lent, first.0, ap length first.1, length-sets out 0 (text R))) in
      (c ∙ f.0, d ∙ f.1)

  pub both-printed : Prints room (text (R ++ h)) out bytes out₂
  both-printed =
      let w = wrote_then out 0 (text R) (text h) first second in
      let e : text (R ++ h) ≡ text R ++ text h = joined-append line text none more R h in
      let l : length (text (R ++ h)) ≤ length out = omega (arith, ap length e, length-append (text R) (text h), fit, lent) in
      record {
        lent = lent;
        bytes = omega (arith, w.0, ap length e);
        memory = w.1 ∙ ap (sets out 0) (sym e) ∙ sets-onto (text (R ++ h)) out l;
      }

-- ---- the same in a room of any size, where those are written that fit

module _ (line : ℕ → List ℕ) where
  fitted-same : (text : List ℕ) (at : ℕ) (old : List ℕ) → length (fitted_at text at old) ≡ length old
  fitted-same text at old = go (leb (at + length text) (length old))
    where
      go : (b : Bool) → length (pick b (sets old at text) old) ≡ length old
      go true = length-sets old at text
      go false = refl

  lines-same : (xs : List ℕ) (at : ℕ) (old : List ℕ) → length (lines_at line xs at old) ≡ length old
  lines-same [] at old = refl
  lines-same (x ∷ xs) at old = lines-same xs (fitted_end (line x) at (length old)) (fitted_at (line x) at old) ∙ fitted-same (line x) at old

  lines-both : (xs ys : List ℕ) (at : ℕ) (old : List ℕ) → FittedLines line (lines_at line xs at old) (lines_end line xs at (length old)) ys (lines_at line (xs ++ ys) at old) (lines_end line (xs ++ ys) at (length old))
  lines-both [] ys at old = (refl, refl)
  lines-both (x ∷ xs) ys at old =
      let m = fitted_at (line x) at old in
      let e = fitted_end (line x) at (length old) in
      let same : length m ≡ length old = fitted-same (line x) at old in
      let rest = lines-both xs ys e m in (
        sym (ap (lines_end line (xs ++ ys) e) same) ∙ rest.0 ∙ ap (λ (l : ℕ). lines_end line ys (lines_end line xs e l) (length (lines_at line xs e m))) same,
        rest.1 ∙ ap (λ (l : ℕ). lines_at line ys (lines_end line xs e l) (lines_at line xs e m)) same,
      )

module _ (line : ℕ → List ℕ) (R h L out out₁ out₂ : List ℕ) (at bytes : ℕ) (is : L ≡ R)
    (a : at ≡ lines_end line L 0 (length out)) (b : out₁ ≡ lines_at line L 0 out) (c : bytes ≡ lines_end line h at (length out₁)) (d : out₂ ≡ lines_at line h at out₁) where
  pub both-fitted : FittedLines line out 0 (R ++ h) out₂ bytes
  both-fitted =
      let w = lines-both line R h 0 out in
      let at' : at ≡ lines_end line R 0 (length out) = a ∙ ap (λ (x : List ℕ). lines_end line x 0 (length out)) is in
      let out' : out₁ ≡ lines_at line R 0 out = b ∙ ap (λ (x : List ℕ). lines_at line x 0 out) is in
      (c ∙ ap₂ (λ (i : ℕ) (x : List ℕ). lines_end line h i (length x)) at' out' ∙ sym w.0, d ∙ ap₂ (λ (i : ℕ) (x : List ℕ). lines_at line h i x) at' out' ∙ sym w.1)

-- a stretch that was laid into a memory, which was `old`
module _ (n : ℕ) (xs s old : List ℕ) (long : length old ≡ largest) (a : Answer) (e : a ≡ answered n xs s (length old)) where
  at-largest : answered n xs s largest ≡ a
  at-largest = sym (ap (answered n xs s) long) ∙ sym e

  module _ (laid : List ℕ) (m : laid ≡ output_of n xs s old) (r : Laid) (l : a ≡ Ok r) where
    pub laid-passed : number_of (verdict_of n xs s largest) ≡ 0
    laid-passed = sym (ap (λ (room : ℕ). number_of (verdict_of n xs s room)) long) ∙ (alone-counts n xs s old laid long a e m r l).passed

    pub passed-fitted : {line : ℕ → List ℕ} {us out out' : List ℕ} {k : ℕ} → FittedLines line out 0 us out' k → FittedUnless line (verdict_of n xs s largest) us out k out'
    passed-fitted f = record { passed = λ _. f; refused = λ ne. absurd (ne laid-passed) }

    pub laid-share : r.phase ≡ phase_in (answered n xs s largest)
    laid-share = sym (ap phase_in (at-largest ∙ l))

  module _ (v : Refusal) (l : a ≡ Err v) where
    pub refused-said : (text : List ℕ) → refusal_of (Err v) ≡ unless (verdict_of n xs s largest) text
    refused-said text =
        let r = refused_says n xs s largest v (at-largest ∙ l) in
        ap refusal_of (sym r) ∙ unless-refused (verdict_of n xs s largest) text (stopped refl r)

    pub refused-fitted : {line : ℕ → List ℕ} {us out out' : List ℕ} {k : ℕ} → Fitted out 0 (refusal_of (Err v)) out' k → FittedUnless line (verdict_of n xs s largest) us out k out'
    refused-fitted {out = out} {out' = out'} {k = k} f =
        let r = refused_says n xs s largest v (at-largest ∙ l) in
        record { passed = λ z. absurd (stopped refl r z); refused = λ _. subst (λ (t : List ℕ). Fitted out 0 t out' k) (ap refusal_of (sym r)) f }

    pub refused-share : 0 ≡ phase_in (answered n xs s largest)
    refused-share = sym (ap phase_in (at-largest ∙ l))

-- ---- the part that begins at k

module _ (text : List ℕ → List ℕ) (n : ℕ) (xs ys : List ℕ) (k : ℕ) where
  abbrev part_of : List ℕ → List ℕ → List ℕ
  part_of s h = unless (verdict_of n xs s largest) (text (stretch_records n xs s ++ h))

  pub past-text : length ys < k → [] ≡ part_text text n xs ys k
  unfolding part_text
  past-text l = sym (ap (λ (b : Bool). pick b (part_of (stretch_at n ys k) (hadamard_at n ys k)) []) (lt-leb k (length ys) l))

  pub part-text : k ≤ length ys → (s h : List ℕ) → s ≡ stretch_at n ys k → h ≡ hadamard_at n ys k → part_of s h ≡ part_text text n xs ys k
  unfolding part_text
  part-text l s h e d = ap₂ part_of e d ∙ sym (ap (λ (b : Bool). pick b (part_of (stretch_at n ys k) (hadamard_at n ys k)) []) (le-leb k (length ys) l))

module _ (line : ℕ → List ℕ) (n : ℕ) (xs ys : List ℕ) (k : ℕ) {out out' : List ℕ} {r : ℕ} where
  pub past-fitted : length ys < k → (r ≡ 0) × (out' ≡ out) → FittedPart line n xs ys k out r out'
  past-fitted l p = record { within = λ m. absurd (omega (arith, l, m)); past = λ _. p }

  pub part-fitted : k ≤ length ys → (s h : List ℕ) → s ≡ stretch_at n ys k → h ≡ hadamard_at n ys k → FittedUnless line (verdict_of n xs s largest) (stretch_records n xs s ++ h) out r out' → FittedPart line n xs ys k out r out'
  part-fitted l s h e d f =
      record {
        within = λ _. subst (λ (t : List ℕ). FittedUnless line (verdict_of n xs t largest) (stretch_records n xs t ++ hadamard_at n ys k) out r out') e (subst (λ (t : List ℕ). FittedUnless line (verdict_of n xs s largest) (stretch_records n xs s ++ t) out r out') d f);
        past = λ m. absurd (omega (arith, l, m));
      }

module _ (n : ℕ) (xs ys : List ℕ) (k : ℕ) where
  pub past_next : length ys < k → k ≡ next_part n ys k
  unfolding next_part
  past_next l = sym (ap (λ (b : Bool). pick b (k + length (stretch_at n ys k) + 1) k) (lt-leb k (length ys) l))

  pub past-share : length ys < k → 0 ≡ share_part n xs ys k
  unfolding share_part
  past-share l = sym (ap (λ (b : Bool). pick b (phase_in (answered n xs (stretch_at n ys k) largest)) 0) (lt-leb k (length ys) l))

  module _ (l : k ≤ length ys) (s h : List ℕ) (e : s ≡ stretch_at n ys k) (d : h ≡ hadamard_at n ys k) where
    pub part-next : k + length s + 1 ≡ next_part n ys k
    unfolding next_part
    part-next = ap (λ (t : List ℕ). k + length t + 1) e ∙ sym (ap (λ (b : Bool). pick b (k + length (stretch_at n ys k) + 1) k) (le-leb k (length ys) l))

    pub part-share : phase_in (answered n xs s largest) ≡ share_part n xs ys k
    unfolding share_part
    part-share =
        ap (λ (t : List ℕ). phase_in (answered n xs t largest)) e ∙ sym (ap (λ (b : Bool). pick b (phase_in (answered n xs (stretch_at n ys k) largest)) 0) (le-leb k (length ys) l))

-- the next part begins later, so that the program ends: m is the place of the next part, g the number of gates
pub next-later : (n : ℕ) (ys : List ℕ) (k g m : ℕ) → g ≡ length ys → k ≤ g → m ≡ next_part n ys k → k < m
unfolding next_part
next-later n ys k g m e l d = omega (arith, d ∙ ap (λ (b : Bool). pick b (k + length (stretch_at n ys k) + 1) k) (le-leb k (length ys) (omega (arith, e, l))))

-- nothing is printed
pub prints-none : {room : ℕ} (out out' : List ℕ) (r : ℕ) → length out ≡ room → (r ≡ 0) × (out' ≡ out) → Prints room [] out r out'
prints-none out out' r e p = record { lent = e; bytes = p.0; memory = p.1 }

-- ---- all parts

module _ (text : List ℕ → List ℕ) (n : ℕ) (xs ys : List ℕ) where
  -- above the number of gates nothing more is printed, however long the program goes on
  pub parts-past : (f k : ℕ) → length ys < k → parts_from text n xs ys f k ≡ []
  unfolding parts_from
  parts-past zero k l = refl
  parts-past (suc f) k l =
      ap₂ (λ (a b : List ℕ). a ++ b) (sym (past-text text n xs ys k l)) (ap (parts_from text n xs ys f) (sym (past_next n xs ys k l)) ∙ parts-past f k l)

  -- a part of a stretch that is accepted is the text of its records
  part-is : (k : ℕ) → k ≤ length ys → Accepts n xs (stretch_at n ys k) → part_text text n xs ys k ≡ text (part_at n xs ys k)
  unfolding part_at
  part-is k l a =
      sym (part-text text n xs ys k l (stretch_at n ys k) (hadamard_at n ys k) refl refl)
      ∙ sym (unless-passed (verdict_of n xs (stretch_at n ys k) largest) (text (stretch_records n xs (stretch_at n ys k) ++ hadamard_at n ys k)) a)

  -- all parts from k on, of which there are at most as many as gates and one
  module _ (none : text [] ≡ []) (joined : (us ws : List ℕ) → text (us ++ ws) ≡ text us ++ text ws) where
    pub parts_are : (f k : ℕ) → length ys + 1 ≤ f + k → All (Accepts n xs) (rest_from n ys k) → parts_from text n xs ys f k ≡ text (laid_from n xs ys k)
    unfolding parts_from
    parts_are zero k h a = sym (ap text (parts_none n xs ys k (omega (arith, h))) ∙ none)
    parts_are (suc f) k h a = go (parts_are f) (dec_lt (length ys) k)
      where
        go : ((i : ℕ) → length ys + 1 ≤ f + i → All (Accepts n xs) (rest_from n ys i) → parts_from text n xs ys f i ≡ text (laid_from n xs ys i)) → Dec (length ys < k)
            → part_text text n xs ys k ++ parts_from text n xs ys f (next_part n ys k) ≡ text (laid_from n xs ys k)
        go rest (yes l) = parts-past (suc f) k l ∙ sym (ap text (parts_none n xs ys k l) ∙ none)
        go rest (no m) =
            let l : k ≤ length ys = omega (arith, m) in
            let s : List ℕ = stretch_at n ys k in
            let i : ℕ = k + length s + 1 in
            let each : All (Accepts n xs) (s ∷ rest_from n ys i) = subst (All (Accepts n xs)) (lent-step n ys k s refl l) a in
            ap₂ (λ (x : List ℕ) (j : ℕ). x ++ parts_from text n xs ys f j) (part-is k l (all_head (Accepts n xs) s (rest_from n ys i) each)) (sym (part-next n xs ys k l s (hadamard_at n ys k) refl refl))
            ∙ ap (λ (x : List ℕ). text (part_at n xs ys k) ++ x) (rest i (omega (arith, h)) (all_tail (Accepts n xs) s (rest_from n ys i) each))
            ∙ sym (joined (part_at n xs ys k) (laid_from n xs ys i)) ∙ sym (ap text (parts-step n xs ys k l))
