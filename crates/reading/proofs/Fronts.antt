-- The first lines of a text: of a job's text they are a job's text again, and what stands behind them changes nothing. Assumes nothing.
use Rattle.std.specs.Prelude.{Option, None, Some}
use mathlib.Core.Path.{◌≡◌, refl, sym, ap, ◌∙◌, subst}
use mathlib.Core.Bool.{Bool, true, false}
use mathlib.Core.List.{List, [], ◌∷◌, ◌++◌, append_assoc, append-nil}
use Prim.Native.Nat.{ℕ, zero, suc, ◌+◌, ◌-◌, ◌/◌, ◌%◌, ◌≤◌, ◌<◌}
use native.Mathlib.Omega.{arith}
use lib.Dec.{eqb, ltb}
use lib.ListN.{length, take}
use lib.Seq.{take_all}
use borrow.Author.Tests.{ne_eqb, ltb-true, ltb-false}
use Rattle.sets.specs.Pick.{pick}
use Rattle.gates.specs.Layout.{kind_in, a_in, b_in}
use Rattle.lines.specs.Lines.{digits, fields_text, line_text, letter, fields_in, record_text, records_text, text_of}
use Rattle.reading.specs.Misfit.{JobText, first_lines, NoLf, FitsLine}
use Rattle.sets.specs.Lists.{All}
use Rattle.spots.specs.Numbers.{Got}
use Rattle.reading.specs.Parsing.{read_one, read_head}
use Rattle.sets.proofs.Lists.{all_append}
use Rattle.spots.proofs.Numbers.{never-some}
use Rattle.lines.proofs.Digits.{digits-small, digits-big}
use Rattle.reading.specs.declared.sort.Sort.{Sort}
use Rattle.reading.specs.declared.sort.Sort.TheVariants.{Couplers, Gates}
use Rattle.reading.proofs.Lines.{one-back, one-forth, head-back}

-- ---- a line has one LF, its last byte

digits-plain : (f v : ℕ) → v < f → NoLf (digits v)
unfolding All
digits-plain zero v h = absurd (omega arith)
digits-plain (suc f) v h = go (ltb v 10) refl (digits-plain f (v / 10))
  where
    go : (t : Bool) → ltb v 10 ≡ t → (v / 10 < f → NoLf (digits (v / 10))) → NoLf (digits v)
    go true e ih = rw (digits-small v (ltb-true v 10 e)) ((λ (z : 48 + v ≡ 10). omega arith), tt)
    go false e ih =
        let l : 10 ≤ v = ltb-false v 10 e in
        rw (digits-big v l) (all_append _ (digits (v / 10)) ((48 + v % 10) ∷ []) (ih (omega arith)) ((λ (z : 48 + v % 10 ≡ 10). omega arith), tt))

fields-plain : (vs : List ℕ) → NoLf (fields_text vs)
unfolding fields_text All
fields-plain [] = tt
fields-plain (v ∷ vs) =
    all_append _ (9 ∷ digits v) (fields_text vs) ((λ (z : 9 ≡ 10). omega arith), digits-plain (suc v) v (omega arith)) (fields-plain vs)

front-plain : (k : ℕ) (xs t : List ℕ) → NoLf xs → first_lines (suc k) (xs ++ (10 ∷ t)) ≡ xs ++ (10 ∷ first_lines k t)
unfolding first_lines All
front-plain k [] t p = refl
front-plain k (x ∷ xs) t p = rw (ne_eqb x 10 p.0) (ap (λ l. x ∷ l) (front-plain k xs t p.1))

line-front : (k l : ℕ) (vs t : List ℕ) → (l ≡ 10 → ⊥) → first_lines (suc k) (line_text l vs ++ t) ≡ line_text l vs ++ first_lines k t
unfolding line_text All
line-front k l vs t h =
    ap (λ s. first_lines (suc k) (l ∷ s)) (append_assoc (fields_text vs) (10 ∷ []) t) ∙ front-plain k (l ∷ fields_text vs) t (h, fields-plain vs)
    ∙ sym (ap (λ s. l ∷ s) (append_assoc (fields_text vs) (10 ∷ []) (first_lines k t)))

-- what holds a whole line has an LF
line-ends : (l : ℕ) (vs t : List ℕ) → NoLf (line_text l vs ++ t) → ⊥
unfolding line_text All
line-ends l vs t h = go (l ∷ fields_text vs) (subst NoLf (ap (λ s. l ∷ s) (append_assoc (fields_text vs) (10 ∷ []) t)) h)
  where
    go : (xs : List ℕ) → NoLf (xs ++ (10 ∷ t)) → ⊥
    go [] h = h.0 refl
    go (x ∷ xs) h = go xs h.1

letter-plain : (k : ℕ) → letter k ≡ 10 → ⊥
unfolding letter
letter-plain zero e = let z : ◌≡◌ {A = ℕ} 101 10 = e in omega arith
letter-plain (suc zero) e = let z : ◌≡◌ {A = ℕ} 99 10 = e in omega arith
letter-plain (suc (suc zero)) e = let z : ◌≡◌ {A = ℕ} 114 10 = e in omega arith
letter-plain (suc (suc (suc zero))) e = let z : ◌≡◌ {A = ℕ} 110 10 = e in omega arith
letter-plain (suc (suc (suc (suc k)))) e = let z : ◌≡◌ {A = ℕ} 104 10 = e in omega arith

record-front : (k x : ℕ) (t : List ℕ) → first_lines (suc k) (record_text x ++ t) ≡ record_text x ++ first_lines k t
unfolding record_text
record-front k x t = line-front k (letter (kind_in x)) (take (fields_in (kind_in x)) (a_in x ∷ b_in x ∷ [])) t (letter-plain (kind_in x))

pub front-zero : (t : List ℕ) → first_lines 0 t ≡ []
unfolding first_lines
front-zero t = refl

pub records-front : (j : ℕ) (xs t : List ℕ) → first_lines j (records_text xs ++ t) ≡ records_text (take j xs) ++ first_lines (j - length xs) t
unfolding records_text
records-front zero xs t =
    let z : 0 - length xs ≡ 0 = omega arith in
    front-zero (records_text xs ++ t) ∙ sym (ap (λ k. first_lines k t) z ∙ front-zero t)
records-front (suc j) [] t = let z : suc j - 0 ≡ suc j = omega arith in rw z
records-front (suc j) (x ∷ xs) t =
    let z : suc j - suc (length xs) ≡ j - length xs = omega arith in
    rw (z, append_assoc) (record-front j x (records_text xs ++ t) ∙ ap (λ l. record_text x ++ l) (records-front j xs t) ∙ sym (append_assoc (record_text x) (records_text (take j xs)) _))

pub text-front : (j n : ℕ) (es gs t : List ℕ)
    → first_lines (suc j) (text_of n es gs ++ t) ≡ text_of n (take j es) (take (j - length es) gs) ++ first_lines (j - length es - length gs) t
unfolding text_of
text-front j n es gs t =
    let q = line_text 113 (n ∷ []) in
    ap (first_lines (suc j)) (append_assoc q (records_text es ++ records_text gs) t ∙ ap (λ l. q ++ l) (append_assoc (records_text es) (records_text gs) t))
    ∙ line-front j 113 (n ∷ []) (records_text es ++ (records_text gs ++ t)) (λ (z : 113 ≡ 10). omega arith)
    ∙ ap (λ l. q ++ l) (records-front j es (records_text gs ++ t) ∙ ap (λ l. records_text (take j es) ++ l) (records-front (j - length es) gs t))
    ∙ sym (append_assoc q _ _ ∙ ap (λ l. q ++ l) (append_assoc (records_text (take j es)) _ _))

-- ---- the first lines of a job's text

pub fit-take : (g : Sort) (k : ℕ) (xs : List ℕ) → All (FitsLine g) xs → All (FitsLine g) (take k xs)
unfolding All
fit-take g zero xs h = tt
fit-take g (suc k) [] h = tt
fit-take g (suc k) (x ∷ xs) h = (h.0, fit-take g k xs h.1)

pub front-job : (j n : ℕ) (es gs t : List ℕ) → n ≤ 255 → All (FitsLine Couplers) es → All (FitsLine Gates) gs → j ≤ length es + length gs → JobText (first_lines (suc j) (text_of n es gs ++ t))
front-job j n es gs t h a b l =
    let z : j - length es - length gs ≡ 0 = omega arith in
    record {
      qubits = n;
      couplers = take j es;
      gates = take (j - length es) gs;
      few = h;
      couplers_fit = fit-take Couplers j es a;
      gates_fit = fit-take Gates (j - length es) gs b;
      same = text-front j n es gs t ∙ ap (λ k. text_of n (take j es) (take (j - length es) gs) ++ first_lines k t) z
          ∙ ap (λ l. text_of n (take j es) (take (j - length es) gs) ++ l) (front-zero t) ∙ append-nil _;
    }

pub front-nil : (k : ℕ) → first_lines k [] ≡ []
unfolding first_lines
front-nil zero = refl
front-nil (suc k) = refl

pub job-fronts : (s : List ℕ) (k : ℕ) → JobText s → JobText (first_lines (suc k) s)
job-fronts s k j =
    let n = j.qubits in
    let es = j.couplers in
    let gs = j.gates in
    let l = text_of n (take k es) (take (k - length es) gs) in
    record {
      qubits = n;
      couplers = take k es;
      gates = take (k - length es) gs;
      few = j.few;
      couplers_fit = fit-take Couplers k es j.couplers_fit;
      gates_fit = fit-take Gates (k - length es) gs j.gates_fit;
      same = ap (first_lines (suc k)) (j.same ∙ sym (append-nil (text_of n es gs))) ∙ text-front k n es gs [] ∙ ap (λ t. l ++ t) (front-nil _) ∙ append-nil l;
    }

-- a job's text and one line more
pub front-more : (n : ℕ) (es gs t : List ℕ) → first_lines (2 + length es + length gs) (text_of n es gs ++ t) ≡ text_of n es gs ++ first_lines 1 t
front-more n es gs t =
    let m = 1 + length es + length gs in
    let z : 2 + length es + length gs ≡ suc m = omega arith in
    let e : take m es ≡ es = take_all m es (omega arith) in
    let g : take (m - length es) gs ≡ gs = take_all (m - length es) gs (omega arith) in
    let y : m - length es - length gs ≡ 1 = omega arith in
    rw (z, text-front m n es gs t, e, g, y)

-- ---- what stands behind the first lines

abbrev pub back : ℕ → List ℕ → List ℕ
back zero s = s
back (suc k) [] = []
back (suc k) (x ∷ s) = pick (eqb x 10) (back k s) (back (suc k) s)

pub front-back : (k : ℕ) (s : List ℕ) → first_lines k s ++ back k s ≡ s
unfolding first_lines
front-back zero s = refl
front-back (suc k) [] = refl
front-back (suc k) (x ∷ s) = ap (λ l. x ∷ l) (go (eqb x 10) (front-back k s) (front-back (suc k) s))
  where
    go : (t : Bool) → first_lines k s ++ back k s ≡ s → first_lines (suc k) s ++ back (suc k) s ≡ s
        → pick t (first_lines k s) (first_lines (suc k) s) ++ pick t (back k s) (back (suc k) s) ≡ s
    go true a b = a
    go false a b = b

-- a line that stands at the front of the first lines stands at the front of the text
pub front-none : (g : Sort) (k : ℕ) (s : List ℕ) → read_one g s ≡ None → read_one g (first_lines k s) ≡ None
front-none g k s h = go (read_one g (first_lines k s)) refl
  where
    go : (o : Option (Got ℕ)) → read_one g (first_lines k s) ≡ o → o ≡ None
    go None e = refl
    go (Some r) e =
        let b = one-back g (first_lines k s) r e in
        let w : s ≡ record_text r.value ++ (r.rest ++ back k s) = sym (front-back k s) ∙ ap (λ l. l ++ back k s) b.0 ∙ append_assoc (record_text r.value) r.rest (back k s) in
        never-some (sym h ∙ ap (read_one g) w ∙ one-forth g r.value (r.rest ++ back k s) b.1)

-- a line without LF is none of a job's
pub unended-none : (g : Sort) (t : List ℕ) → NoLf t → read_one g t ≡ None
unfolding record_text
unended-none g t h = go (read_one g t) refl
  where
    go : (o : Option (Got ℕ)) → read_one g t ≡ o → o ≡ None
    go None e = refl
    go (Some r) e = absurd (line-ends _ _ r.rest (subst NoLf (one-back g t r e).0 h))

pub unended-head : (t : List ℕ) → NoLf t → read_head t ≡ None
unended-head t h = go (read_head t) refl
  where
    go : (o : Option (Got ℕ)) → read_head t ≡ o → o ≡ None
    go None e = refl
    go (Some r) e = absurd (line-ends 113 (r.value ∷ []) r.rest (subst NoLf (head-back t r e).0 h))
