-- Lines: what is written is read, and what is read was written so. Assumes nothing.
use Rattle.std.specs.Prelude.{Option, None, Some}
use mathlib.Core.Path.{◌≡◌, refl, sym, ap, ◌∙◌, subst}
use mathlib.Core.Logic.{inl, inr}
use mathlib.Core.List.{List, [], ◌∷◌, ◌++◌, append_assoc}
use Prim.Native.Nat.{ℕ, ◌≤◌, ◌<◌}
use native.Mathlib.Omega.{arith}
use lib.ListN.{length, length-append}
use borrow.Author.Tests.{ne_eqb}
use Rattle.gates.specs.Layout.{packed, kind_in, a_in, b_in}
use Rattle.gates.proofs.Records.{kind-packed, a-packed, b-packed, packed-back}
use Rattle.reading.specs.Limits.{most_first, most_second}
use Rattle.lines.specs.Lines.{digits, fields_text, line_text, letter, record_text}
use Rattle.reading.specs.Misfit.{FitsLine}
use Rattle.std.proofs.lemmas.Option.{same_Some}
use Rattle.spots.specs.Numbers.{Got, skipped, digit_of, read_number}
use Rattle.reading.specs.Parsing.{read_line, read_short, read_other, read_one, read_head}
use Rattle.spots.proofs.Numbers.{steps, either-read, found-parts, number-le, skip-back, number-back, skip-forth, number-forth}
use Rattle.lines.proofs.Layouts.{a_lt, b_lt}
use Rattle.lines.proofs.Writes.{record-two, record-one}
use Rattle.reading.specs.declared.sort.Sort.{Sort}
use Rattle.reading.specs.declared.sort.Sort.TheVariants.{Couplers, Gates}

-- ---- lines of two numbers, and of one

line-more : (l a b : ℕ) (t : List ℕ) → line_text l (a ∷ b ∷ []) ++ t ≡ l ∷ 9 ∷ (digits a ++ (9 ∷ (digits b ++ (10 ∷ t))))
unfolding line_text fields_text
line-more l a b t = simp append_assoc

short-more : (l a : ℕ) (t : List ℕ) → line_text l (a ∷ []) ++ t ≡ l ∷ 9 ∷ (digits a ++ (10 ∷ t))
unfolding line_text fields_text
short-more l a t = simp append_assoc

-- ---- the line of a record of two numbers

module _ (k a b : ℕ) (ha : a < 256) (hb : b < 65536) (hk : k < 3) where
  packed_more : (t : List ℕ) → record_text (packed k a b) ++ t ≡ letter k ∷ 9 ∷ (digits a ++ (9 ∷ (digits b ++ (10 ∷ t))))
  packed_more t =
      ap (λ l. l ++ t) (record-two (packed k a b) (omega (arith, kind-packed k a b ha hb)))
      ∙ rw (kind-packed k a b ha hb, a-packed k a b ha hb, b-packed k a b ha hb) (line-more (letter k) a b t)

  line-forth : (t : List ℕ) → read_line k (record_text (packed k a b) ++ t) ≡ Some (record { value = packed k a b; rest = t })
  unfolding read_line digit_of
  line-forth t =
      let a≤ : a ≤ 255 = omega arith in
      let b≤ : b ≤ 65535 = omega arith in
      rw (packed_more t, skip-forth, skip-forth, number-forth most_first a (9 ∷ (digits b ++ (10 ∷ t))) a≤ refl, skip-forth, number-forth most_second b (10 ∷ t) b≤ refl, skip-forth)

kind-forth : (k x : ℕ) (t : List ℕ) → k < 3 → kind_in x ≡ k → read_line k (record_text x ++ t) ≡ Some (record { value = x; rest = t })
kind-forth k x t hk h =
    subst (λ y. read_line k (record_text y ++ t) ≡ Some (record { value = y; rest = t })) (cc (packed-back x, h)) (line-forth k (a_in x) (b_in x) (a_lt x) (b_lt x) hk t)

record Back (k : ℕ) (s : List ℕ) (g : Got ℕ) : Type 0 where
  same : s ≡ record_text g.value ++ g.rest
  kind : kind_in g.value ≡ k

line-back : (k : ℕ) → k < 3 → (s : List ℕ) (g : Got ℕ) → read_line k s ≡ Some g → Back k s g
unfolding read_line
line-back k hk s g e =
    let o = skipped 9 (skipped (letter k) (Some s)) in
    let x = steps (read_number most_first o) _ g e in
    let A = x.first in
    let y = steps (read_number most_second (skipped 9 (Some A.rest))) _ g x.behind in
    let B = y.first in
    let f = found-parts (packed k A.value B.value) (skipped 10 (Some B.rest)) g y.behind in
    let b1 : B.rest ≡ 10 ∷ g.rest = same_Some _ _ (skip-back 10 (Some B.rest) g.rest f.1) in
    let b2 : skipped 9 (Some A.rest) ≡ Some (digits B.value ++ (10 ∷ g.rest)) = number-back most_second (skipped 9 (Some A.rest)) B y.read ∙ ap (λ l. Some (digits B.value ++ l)) b1 in
    let a1 : A.rest ≡ 9 ∷ (digits B.value ++ (10 ∷ g.rest)) = same_Some _ _ (skip-back 9 (Some A.rest) _ b2) in
    let a2 : o ≡ Some (digits A.value ++ (9 ∷ (digits B.value ++ (10 ∷ g.rest)))) = number-back most_first o A x.read ∙ ap (λ l. Some (digits A.value ++ l)) a1 in
    let d : s ≡ letter k ∷ 9 ∷ (digits A.value ++ (9 ∷ (digits B.value ++ (10 ∷ g.rest)))) = same_Some _ _ (skip-back (letter k) (Some s) _ (skip-back 9 (skipped (letter k) (Some s)) _ a2)) in
    let ha : A.value < 256 = omega (arith, number-le most_first o A x.read) in
    let hb : B.value < 65536 = omega (arith, number-le most_second (skipped 9 (Some A.rest)) B y.read) in
    record { same = d ∙ sym (packed_more k A.value B.value ha hb hk g.rest) ∙ ap (λ n. record_text n ++ g.rest) f.0; kind = ap kind_in (sym f.0) ∙ kind-packed k A.value B.value ha hb }

-- ---- the line of a record of one number

module _ (k a : ℕ) (ha : a < 256) (hk : 3 ≤ k) where
  abbrev none-b : 0 < 65536
  none-b = omega arith

  alone-more : (t : List ℕ) → record_text (packed k a 0) ++ t ≡ letter k ∷ 9 ∷ (digits a ++ (10 ∷ t))
  alone-more t =
      ap (λ l. l ++ t) (record-one (packed k a 0) (omega (arith, kind-packed k a 0 ha none-b)))
      ∙ rw (kind-packed k a 0 ha none-b, a-packed k a 0 ha none-b) (short-more (letter k) a t)

  short-forth : (t : List ℕ) → read_short k (record_text (packed k a 0) ++ t) ≡ Some (record { value = packed k a 0; rest = t })
  unfolding read_short digit_of
  short-forth t =
      let a≤ : a ≤ 255 = omega arith in
      rw (alone-more t, skip-forth, skip-forth, number-forth most_first a (10 ∷ t) a≤ refl, skip-forth)

alone-forth : (k x : ℕ) (t : List ℕ) → 3 ≤ k → kind_in x ≡ k → b_in x ≡ 0 → read_short k (record_text x ++ t) ≡ Some (record { value = x; rest = t })
alone-forth k x t hk h z =
    subst (λ y. read_short k (record_text y ++ t) ≡ Some (record { value = y; rest = t })) (cc (packed-back x, h, z)) (short-forth k (a_in x) (a_lt x) hk t)

record Alone (k : ℕ) (s : List ℕ) (g : Got ℕ) : Type 0 where
  same : s ≡ record_text g.value ++ g.rest
  kind : kind_in g.value ≡ k
  zero_b : b_in g.value ≡ 0

-- where a number and LF were read behind a letter and a tab
short-read : (l : ℕ) (s : List ℕ) (n : Got ℕ) (t : List ℕ) → read_number most_first (skipped 9 (skipped l (Some s))) ≡ Some n → skipped 10 (Some n.rest) ≡ Some t → (s ≡ l ∷ 9 ∷ (digits n.value ++ (10 ∷ t))) × (n.value ≤ most_first)
short-read l s n t e f =
    let o = skipped 9 (skipped l (Some s)) in
    let a1 : n.rest ≡ 10 ∷ t = same_Some _ _ (skip-back 10 (Some n.rest) t f) in
    let a2 : o ≡ Some (digits n.value ++ (10 ∷ t)) = number-back most_first o n e ∙ ap (λ m. Some (digits n.value ++ m)) a1 in
    (same_Some _ _ (skip-back l (Some s) _ (skip-back 9 (skipped l (Some s)) _ a2)), number-le most_first o n e)

short_back : (k : ℕ) → 3 ≤ k → (s : List ℕ) (g : Got ℕ) → read_short k s ≡ Some g → Alone k s g
unfolding read_short
short_back k hk s g e =
    let x = steps (read_number most_first (skipped 9 (skipped (letter k) (Some s)))) _ g e in
    let A = x.first in
    let f = found-parts (packed k A.value 0) (skipped 10 (Some A.rest)) g x.behind in
    let d = short-read (letter k) s A g.rest x.read f.1 in
    let ha : A.value < 256 = omega (arith, d.1) in
    let hb : 0 < 65536 = omega arith in
    record {
      same = d.0 ∙ sym (alone-more k A.value ha hk g.rest) ∙ ap (λ n. record_text n ++ g.rest) f.0;
      kind = ap kind_in (sym f.0) ∙ kind-packed k A.value 0 ha hb;
      zero_b = ap b_in (sym f.0) ∙ b-packed k A.value 0 ha hb;
    }

-- ---- the line of a coupler, or of a gate

other-back : (s : List ℕ) (g : Got ℕ) → read_other s ≡ Some g → (s ≡ record_text g.value ++ g.rest) × FitsLine Gates g.value
unfolding read_other
other-back s =
    either-read (λ g. (s ≡ record_text g.value ++ g.rest) × FitsLine Gates g.value) (read_line 2 s) _ (λ g e. let b = line-back 2 (omega arith) s g e in (b.same, inr (inl b.kind)))
    (either-read (λ g. (s ≡ record_text g.value ++ g.rest) × FitsLine Gates g.value) (read_short 3 s) (read_short 4 s)
    (λ g e. let b = short_back 3 (omega arith) s g e in (b.same, inr (inr (inl (b.kind, b.zero_b)))))
    (λ g e. let b = short_back 4 (omega arith) s g e in (b.same, inr (inr (inr (b.kind, b.zero_b))))))

pub one-back : (g : Sort) (s : List ℕ) (r : Got ℕ) → read_one g s ≡ Some r → (s ≡ record_text r.value ++ r.rest) × FitsLine g r.value
unfolding read_one
one-back Couplers s r e = let b = line-back 0 (omega arith) s r e in (b.same, b.kind)
one-back Gates s r e =
    either-read (λ r. (s ≡ record_text r.value ++ r.rest) × FitsLine Gates r.value) (read_line 1 s) (read_other s) (λ g e. let b = line-back 1 (omega arith) s g e in (b.same, inl b.kind)) (other-back s) r e

pub one-short : (g : Sort) (s : List ℕ) (r : Got ℕ) → read_one g s ≡ Some r → length r.rest < length s
unfolding record_text line_text
one-short g s r e = omega (arith, simp length-append at (ap length (one-back g s r e).0))

-- a line of another letter is not read, neither with two numbers nor with one
letter-other : (j k x : ℕ) (t : List ℕ) → kind_in x ≡ j → (letter j ≡ letter k → ⊥) → (read_line k (record_text x ++ t) ≡ None) × (read_short k (record_text x ++ t) ≡ None)
unfolding read_line read_short record_text line_text skipped read_number
letter-other j k x t h n = let e = ne_eqb (letter (kind_in x)) (letter k) (λ e. n (sym (ap letter h) ∙ e)) in (rw e, rw e)

pub one-forth : (g : Sort) (x : ℕ) (t : List ℕ) → FitsLine g x → read_one g (record_text x ++ t) ≡ Some (record { value = x; rest = t })
unfolding read_one read_other letter
one-forth Couplers x t h = kind-forth 0 x t (omega arith) h
one-forth Gates x t (inl h) = let l : read_line 1 (record_text x ++ t) ≡ Some (record { value = x; rest = t }) = kind-forth 1 x t (omega arith) h in rw l
one-forth Gates x t (inr (inl h)) =
    let o : read_line 1 (record_text x ++ t) ≡ None = (letter-other 2 1 x t h (λ e. let q : ◌≡◌ {A = ℕ} 114 99 = e in omega arith)).0 in
    let l : read_line 2 (record_text x ++ t) ≡ Some (record { value = x; rest = t }) = kind-forth 2 x t (omega arith) h in
    rw (o, l)
one-forth Gates x t (inr (inr (inl (h, z)))) =
    let o : read_line 1 (record_text x ++ t) ≡ None = (letter-other 3 1 x t h (λ e. let q : ◌≡◌ {A = ℕ} 110 99 = e in omega arith)).0 in
    let p : read_line 2 (record_text x ++ t) ≡ None = (letter-other 3 2 x t h (λ e. let q : ◌≡◌ {A = ℕ} 110 114 = e in omega arith)).0 in
    let l : read_short 3 (record_text x ++ t) ≡ Some (record { value = x; rest = t }) = alone-forth 3 x t (omega arith) h z in
    rw (o, p, l)
one-forth Gates x t (inr (inr (inr (h, z)))) =
    let o : read_line 1 (record_text x ++ t) ≡ None = (letter-other 4 1 x t h (λ e. let q : ◌≡◌ {A = ℕ} 104 99 = e in omega arith)).0 in
    let p : read_line 2 (record_text x ++ t) ≡ None = (letter-other 4 2 x t h (λ e. let q : ◌≡◌ {A = ℕ} 104 114 = e in omega arith)).0 in
    let r : read_short 3 (record_text x ++ t) ≡ None = (letter-other 4 3 x t h (λ e. let q : ◌≡◌ {A = ℕ} 104 110 = e in omega arith)).1 in
    rw (o, p, r) (alone-forth 4 x t (omega arith) h z)

-- a gate's line is no coupler's
pub gate-none : (x : ℕ) (t : List ℕ) → FitsLine Gates x → read_one Couplers (record_text x ++ t) ≡ None
unfolding read_one letter
gate-none x t (inl h) = (letter-other 1 0 x t h (λ e. let q : ◌≡◌ {A = ℕ} 99 101 = e in omega arith)).0
gate-none x t (inr (inl h)) = (letter-other 2 0 x t h (λ e. let q : ◌≡◌ {A = ℕ} 114 101 = e in omega arith)).0
gate-none x t (inr (inr (inl (h, z)))) = (letter-other 3 0 x t h (λ e. let q : ◌≡◌ {A = ℕ} 110 101 = e in omega arith)).0
gate-none x t (inr (inr (inr (h, z)))) = (letter-other 4 0 x t h (λ e. let q : ◌≡◌ {A = ℕ} 104 101 = e in omega arith)).0

pub one-nil : (g : Sort) → read_one g [] ≡ None
one-nil g = go (read_one g []) refl
  where
    go : (o : Option (Got ℕ)) → read_one g [] ≡ o → o ≡ None
    go None e = refl
    go (Some r) e = absurd (omega (arith, one-short g [] r e))

-- ---- the first line

pub head-forth : (n : ℕ) (t : List ℕ) → n ≤ most_first → read_head (line_text 113 (n ∷ []) ++ t) ≡ Some (record { value = n; rest = t })
unfolding read_head digit_of
head-forth n t h = rw (short-more 113 n t, skip-forth, skip-forth, number-forth most_first n (10 ∷ t) h refl, skip-forth)

pub head-back : (s : List ℕ) (r : Got ℕ) → read_head s ≡ Some r → (s ≡ line_text 113 (r.value ∷ []) ++ r.rest) × (r.value ≤ most_first)
unfolding read_head
head-back s r e =
    let x = steps (read_number most_first (skipped 9 (skipped 113 (Some s)))) _ r e in
    let f = found-parts x.first.value (skipped 10 (Some x.first.rest)) r x.behind in
    let d = short-read 113 s x.first r.rest x.read f.1 in
    (d.0 ∙ sym (short-more 113 x.first.value r.rest) ∙ ap (λ n. line_text 113 (n ∷ []) ++ r.rest) f.0, omega (arith, d.1, f.0))
