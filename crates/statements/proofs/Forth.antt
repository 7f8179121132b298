-- Every form is read as what it says. Assumes nothing.
use Rattle.std.specs.Prelude.{None, Some}
use mathlib.Core.Path.{◌≡◌, refl, sym, ap, ◌∙◌}
use mathlib.Core.Bool.{Bool, true, false}
use mathlib.Core.List.{List, [], ◌∷◌, ◌++◌, append_assoc}
use Prim.Native.Nat.{ℕ, zero, suc, ◌≤◌, ◌<◌}
use native.Mathlib.Omega.{arith}
use lib.ListN.{length, get_or}
use native.Mathlib.Nat.{pow-le-pow_right}
use Rattle.gates.specs.Layout.{packed}
use Rattle.angles.specs.declared.Scale.{Scale}
use Rattle.angles.specs.declared.Scale.TheVariants.{Units, Halves}
use Rattle.angles.specs.Units.{most_times, is_over, angle_in, units_of}
use Rattle.angles.proofs.Powers.{over-power}
use Rattle.lines.specs.Lines.{digits}
use Rattle.lines.proofs.Digits.{digits-small}
use Rattle.spots.specs.Numbers.{digit_of}
use Rattle.words.specs.Bytes.{same}
use Rattle.words.specs.Words.{Word, bodies}
use Rattle.words.specs.Taking.{taken, numbered}
use Rattle.versions.specs.declared.Version.{Version}
use Rattle.versions.specs.declared.Version.TheVariants.{Two, Three}
use Rattle.statements.specs.Spelling.{mark, cx, u1, rz, gphase}
use Rattle.statements.specs.Statements.{read_many, read_times, read_divided, read_divisor, read_multiple, read_angle, read_qubit, read_cnot, read_tail, read_opening, read_turn, read_common, read_newer, read_rotation, read_single, read_plain, read_gate}
use Rattle.statements.specs.Forms.{Times, nought, once, many, Divisor, plain, over, Rotor, as_u1, as_rz, as_p, Form, cnot, turn, xgate, hadamard, common, Newer, Carried, GoodTimes, GoodDivisor, GoodForm, times_words, divisor_words, minus_words, qubit_words, rotor_word, form_words, times_in, divisor_in, form_record, form_phase}
use Rattle.statements.proofs.Taken.{digits-other, taken-forth, number_word}

-- words that are spelt so, at any places
abbrev pub tag : (ℕ → ℕ) → List (List ℕ) → List Word
tag f [] = []
tag f (b ∷ bs) = record { bytes = b; left = f 0 } ∷ tag (λ i. f (suc i)) bs

pub tag-bodies : (ws : List Word) → ws ≡ tag (λ i. get_or (mathlib.Core.List.map (λ w. w.left) ws) i 0) (bodies ws)
tag-bodies [] = refl
tag-bodies (w ∷ ws) = ap (λ l. w ∷ l) (tag-bodies ws)

abbrev pub later : ℕ → (ℕ → ℕ) → ℕ → ℕ
later zero f = f
later (suc k) f = later k (λ i. f (suc i))

pub cnot-forth : (name : List ℕ) (a b : ℕ) (f : ℕ → ℕ) (bs : List (List ℕ)) → a ≤ 255 → b ≤ 255
    → read_cnot name (Some (tag f (form_words name (cnot a b) ++ bs))) ≡ Some (record { value = packed 1 a b; rest = tag (later 11 f) bs })
unfolding read_cnot form_words read_qubit qubit_words
cnot-forth name a b f bs h k =
    rw (taken-forth, taken-forth, taken-forth, number_word _ _ 255 a h, taken-forth, taken-forth, taken-forth, taken-forth, number_word _ _ 255 b k, taken-forth, taken-forth)

pub tail-forth : (name : List ℕ) (a : ℕ) (f : ℕ → ℕ) (bs : List (List ℕ)) → a ≤ 255
    → read_tail name (Some (tag f (mark 41 ∷ (qubit_words name a ++ (mark 59 ∷ bs))))) ≡ Some (record { value = a; rest = tag (later 6 f) bs })
unfolding read_tail read_qubit qubit_words
tail-forth name a f bs h = rw (taken-forth, taken-forth, taken-forth, number_word _ _ 255 a h, taken-forth, taken-forth)

zero_word : (most l : ℕ) (ws : List Word) → numbered most (Some (record { bytes = mark 48; left = l } ∷ ws)) ≡ Some (record { value = 0; rest = ws })
zero_word most l ws = ap (λ b. numbered most (Some (record { bytes = b; left = l } ∷ ws))) (sym (digits-small 0 (omega arith))) ∙ number_word l ws most 0 (omega arith)

-- k, where no `*` follows a `0`
times-forth : (c : Scale) (t : Times) (f : ℕ → ℕ) (b : List ℕ) (bs : List (List ℕ)) → GoodTimes c t → same b (mark 42) ≡ false
    → read_times c (Some (tag f (times_words t ++ (b ∷ bs)))) ≡ Some (record { value = times_in t; rest = tag (later (length (times_words t)) f) (b ∷ bs) })
unfolding read_times times_words times_in read_many taken same GoodTimes digit_of
times-forth c nought f b bs h k = rw (zero_word, k)
times-forth c once f b bs h k = refl
times-forth c (many m) f b bs h k = rw (digits-other m 112 (105 ∷ []) refl, number_word _ _ (most_times c) m h)

over-most : (c : Scale) (d : ℕ) → is_over c d ≡ true → d ≤ most_times c
over-most Units d h =
    let p = over-power Units d h in
    let two : 0 < 2 = omega arith in
    omega (arith, p.same, pow-le-pow_right two p.most)
over-most Halves d h =
    let p = over-power Halves d h in
    let two : 0 < 2 = omega arith in
    omega (arith, p.same, pow-le-pow_right two p.most)

divisor-none : (c : Scale) (f : ℕ → ℕ) (bs : List (List ℕ)) → read_divisor c (Some (tag f (mark 41 ∷ bs))) ≡ Some (record { value = 1; rest = tag f (mark 41 ∷ bs) })
unfolding read_divisor read_divided taken same is_over numbered
divisor-none c f bs = refl

over-some : (c : Scale) (d : ℕ) (f : ℕ → ℕ) (bs : List (List ℕ)) → is_over c d ≡ true → read_divisor c (Some (tag f (mark 47 ∷ digits d ∷ bs))) ≡ Some (record { value = d; rest = tag (later 2 f) bs })
unfolding read_divisor read_divided
over-some c d f bs h = rw (taken-forth, number_word _ _ (most_times c) d (over-most c d h), h)

-- over 1 before `)`
over-forth : (c : Scale) (o : Divisor) (f : ℕ → ℕ) (bs : List (List ℕ)) → GoodDivisor c o
    → read_divisor c (Some (tag f (divisor_words o ++ (mark 41 ∷ bs)))) ≡ Some (record { value = divisor_in o; rest = tag (later (length (divisor_words o)) f) (mark 41 ∷ bs) })
unfolding read_divisor divisor_words divisor_in GoodDivisor
over-forth c plain f bs h = divisor-none c f bs
over-forth c (over d) f bs h = over-some c d f (mark 41 ∷ bs) h

abbrev pub behind_angle : Times → Divisor → (ℕ → ℕ) → ℕ → ℕ
behind_angle t o f = later (length (divisor_words o)) (later (length (times_words t)) f)

multiple-forth : (c : Scale) (m : Bool) (t : Times) (o : Divisor) (f : ℕ → ℕ) (bs : List (List ℕ)) → GoodTimes c t → GoodDivisor c o
    → read_multiple c m (Some (tag f (times_words t ++ (divisor_words o ++ (mark 41 ∷ bs))))) ≡ Some (record { value = angle_in c m (times_in t) (divisor_in o); rest = tag (behind_angle t o f) (mark 41 ∷ bs) })
unfolding read_multiple divisor_words same
multiple-forth c m t plain f bs h k = rw (times-forth c t f (mark 41) bs h refl, over-forth c plain (later (length (times_words t)) f) bs k)
multiple-forth c m t (over d) f bs h k = rw (times-forth c t f (mark 47) (digits d ∷ mark 41 ∷ bs) h refl, over-forth c (over d) (later (length (times_words t)) f) bs k)

no_minus : (t : Times) (f : ℕ → ℕ) (bs : List (List ℕ)) → taken (mark 45) (Some (tag f (times_words t ++ bs))) ≡ None
unfolding taken same times_words digit_of
no_minus nought f bs = refl
no_minus once f bs = refl
no_minus (many k) f bs = rw (digits-other k 45 [] refl)

angle-forth : (c : Scale) (m : Bool) (t : Times) (o : Divisor) (f : ℕ → ℕ) (bs : List (List ℕ)) → GoodTimes c t → GoodDivisor c o
    → read_angle c (Some (tag f (minus_words m ++ (times_words t ++ (divisor_words o ++ (mark 41 ∷ bs))))))
    ≡ Some (record { value = angle_in c m (times_in t) (divisor_in o); rest = tag (behind_angle t o (later (length (minus_words m)) f)) (mark 41 ∷ bs) })
unfolding read_angle minus_words
angle-forth c true t o f bs h k = rw (taken-forth, multiple-forth c true t o (λ i. f (suc i)) bs h k)
angle-forth c false t o f bs h k = rw (no_minus t f (divisor_words o ++ (mark 41 ∷ bs)), multiple-forth c false t o f bs h k)

abbrev pub after_form : Form → (ℕ → ℕ) → ℕ → ℕ
after_form (cnot a b) f = later 11 f
after_form (xgate a) f = later 6 f
after_form (hadamard a) f = later 6 f
after_form (turn r m t o a) f = later 6 (behind_angle t o (later (length (minus_words m)) (later 2 f)))
after_form (common m t o) f = later 2 (behind_angle t o (later (length (minus_words m)) (later 2 f)))

append-tail : (m : Bool) (t : Times) (o : Divisor) (a b : List (List ℕ)) → (minus_words m ++ (times_words t ++ (divisor_words o ++ a))) ++ b ≡ minus_words m ++ (times_words t ++ (divisor_words o ++ (a ++ b)))
append-tail m t o a b = simp append_assoc

turn-forth : (v : Version) (name : List ℕ) (r : Rotor) (m : Bool) (t : Times) (o : Divisor) (a : ℕ) (f : ℕ → ℕ) (bs : List (List ℕ)) → GoodForm v (turn r m t o a)
    → read_turn (rotor_word r) name (Some (tag f (form_words name (turn r m t o a) ++ bs))) ≡ Some (record { qubit = a; angle = angle_in Units m (times_in t) (divisor_in o); rest = tag (after_form (turn r m t o a) f) bs })
unfolding read_turn read_opening form_words GoodForm qubit_words
turn-forth v name r m t o a f bs h =
    let e : (minus_words m ++ (times_words t ++ (divisor_words o ++ (mark 41 ∷ (qubit_words name a ++ (mark 59 ∷ [])))))) ++ bs ≡ minus_words m ++ (times_words t ++ (divisor_words o ++ (mark 41 ∷ (qubit_words name a ++ (mark 59 ∷ bs)))))
    = append-tail m t o (mark 41 ∷ (qubit_words name a ++ (mark 59 ∷ []))) bs in
    rw (e, taken-forth, taken-forth, angle-forth Units m t o (later 2 f) (qubit_words name a ++ (mark 59 ∷ bs)) h.1 h.2, tail-forth name a (behind_angle t o (later (length (minus_words m)) (later 2 f))) bs h.3)

common-forth : (v : Version) (name : List ℕ) (m : Bool) (t : Times) (o : Divisor) (f : ℕ → ℕ) (bs : List (List ℕ)) → GoodForm v (common m t o)
    → read_common (Some (tag f (form_words name (common m t o) ++ bs))) ≡ Some (record { records = []; phase = angle_in Halves m (times_in t) (divisor_in o); rest = tag (after_form (common m t o) f) bs })
unfolding read_common read_opening form_words GoodForm
common-forth v name m t o f bs h =
    let e : (minus_words m ++ (times_words t ++ (divisor_words o ++ (mark 41 ∷ mark 59 ∷ [])))) ++ bs ≡ minus_words m ++ (times_words t ++ (divisor_words o ++ (mark 41 ∷ mark 59 ∷ bs)))
    = append-tail m t o (mark 41 ∷ mark 59 ∷ []) bs in
    rw (e, taken-forth, taken-forth, angle-forth Halves m t o (later 2 f) (mark 59 ∷ bs) h.1 h.2, taken-forth, taken-forth)

single-forth : (name : List ℕ) (byte kind a : ℕ) (f : ℕ → ℕ) (bs : List (List ℕ)) → a ≤ 255
    → read_single byte kind name (Some (tag f (mark byte ∷ (qubit_words name a ++ (mark 59 ∷ bs))))) ≡ Some (record { value = packed kind a 0; rest = tag (later 6 f) bs })
unfolding read_single read_qubit qubit_words
single-forth name byte kind a f bs h = rw (taken-forth, taken-forth, taken-forth, number_word _ _ 255 a h, taken-forth, taken-forth)

-- where another word stands in front, neither a CNOT, nor a gate of that byte, nor a rotation is read
module _ (name : List ℕ) (b : List ℕ) (ws : List Word) (l : ℕ) where
  no-cnot : same b cx ≡ false → read_cnot name (Some (record { bytes = b; left = l } ∷ ws)) ≡ None
  unfolding read_cnot taken read_qubit numbered
  no-cnot e = rw e

  no-single : (byte kind : ℕ) → same b (mark byte) ≡ false → read_single byte kind name (Some (record { bytes = b; left = l } ∷ ws)) ≡ None
  unfolding read_single taken read_qubit numbered
  no-single byte kind e = rw e

  no_plain : same b cx ≡ false → same b (mark 120) ≡ false → same b (mark 104) ≡ false → read_plain name (Some (record { bytes = b; left = l } ∷ ws)) ≡ None
  unfolding read_plain
  no_plain c x h = rw (no-cnot c, no-single 120 3 x, no-single 104 4 h)

  no-turn : (word : List ℕ) → same b word ≡ false → read_turn word name (Some (record { bytes = b; left = l } ∷ ws)) ≡ None
  unfolding read_turn read_opening taken read_tail read_qubit numbered read_angle read_multiple read_divisor read_times read_many read_divided is_over
  no-turn word e = rw e

module _ (name : List ℕ) (f : ℕ → ℕ) (bs : List (List ℕ)) where
  -- where a form of a CNOT, an X or a Hadamard stands, it is read
  cnot-plain : (a b : ℕ) → a ≤ 255 → b ≤ 255 → read_plain name (Some (tag f (form_words name (cnot a b) ++ bs))) ≡ Some (record { value = packed 1 a b; rest = tag (later 11 f) bs })
  unfolding read_plain
  cnot-plain a b h k = rw (cnot-forth name a b f bs h k)

  x-plain : (a : ℕ) → a ≤ 255 → read_plain name (Some (tag f (form_words name (xgate a) ++ bs))) ≡ Some (record { value = packed 3 a 0; rest = tag (later 6 f) bs })
  unfolding read_plain form_words qubit_words same
  x-plain a h = rw (no-cnot name (mark 120) _ (f 0) refl, single-forth name 120 3 a f bs h)

  h-plain : (a : ℕ) → a ≤ 255 → read_plain name (Some (tag f (form_words name (hadamard a) ++ bs))) ≡ Some (record { value = packed 4 a 0; rest = tag (later 6 f) bs })
  unfolding read_plain form_words qubit_words same
  h-plain a h = rw (no-cnot name (mark 104) _ (f 0) refl, no-single name (mark 104) _ (f 0) 120 3 refl, single-forth name 104 4 a f bs h)

  -- where a rotation or a common phase stands, none of these is
  turn-not-plain : (r : Rotor) (m : Bool) (t : Times) (o : Divisor) (a : ℕ) → read_plain name (Some (tag f (form_words name (turn r m t o a) ++ bs))) ≡ None
  unfolding form_words same
  turn-not-plain as_u1 m t o a = no_plain name u1 _ (f 0) refl refl refl
  turn-not-plain as_rz m t o a = no_plain name rz _ (f 0) refl refl refl
  turn-not-plain as_p m t o a = no_plain name (mark 112) _ (f 0) refl refl refl

  common-not-plain : (m : Bool) (t : Times) (o : Divisor) → read_plain name (Some (tag f (form_words name (common m t o) ++ bs))) ≡ None
  unfolding form_words same
  common-not-plain m t o = no_plain name gphase _ (f 0) refl refl refl

  rz-first : (m : Bool) (t : Times) (o : Divisor) (a : ℕ) → read_turn u1 name (Some (tag f (form_words name (turn as_rz m t o a) ++ bs))) ≡ None
  unfolding form_words same
  rz-first m t o a = no-turn name rz _ (f 0) u1 refl

  p-first : (m : Bool) (t : Times) (o : Divisor) (a : ℕ)
      → (read_turn u1 name (Some (tag f (form_words name (turn as_p m t o a) ++ bs))) ≡ None) × (read_turn rz name (Some (tag f (form_words name (turn as_p m t o a) ++ bs))) ≡ None)
  unfolding form_words same
  p-first m t o a = (no-turn name (mark 112) _ (f 0) u1 refl, no-turn name (mark 112) _ (f 0) rz refl)

  common-first : (m : Bool) (t : Times) (o : Divisor)
      → (read_turn u1 name (Some (tag f (form_words name (common m t o) ++ bs))) ≡ None)
      × (read_turn rz name (Some (tag f (form_words name (common m t o) ++ bs))) ≡ None)
      × (read_turn (mark 112) name (Some (tag f (form_words name (common m t o) ++ bs))) ≡ None)
  unfolding form_words same
  common-first m t o = (no-turn name gphase _ (f 0) u1 refl, no-turn name gphase _ (f 0) rz refl, no-turn name gphase _ (f 0) (mark 112) refl)

pub gate-forth : (v : Version) (name : List ℕ) (g : Form) (f : ℕ → ℕ) (bs : List (List ℕ)) → GoodForm v g
    → read_gate v name (Some (tag f (form_words name g ++ bs))) ≡ Some (record { records = form_record g; phase = form_phase v g; rest = tag (after_form g f) bs })
unfolding read_gate read_rotation read_newer GoodForm Carried Newer form_record form_phase units_of
gate-forth v name (cnot a b) f bs h = rw (cnot-plain name f bs a b h.0 h.1)
gate-forth v name (turn as_u1 m t o a) f bs h = rw (turn-not-plain name f bs as_u1 m t o a, turn-forth v name as_u1 m t o a f bs h)
gate-forth v name (turn as_rz m t o a) f bs h = rw (turn-not-plain name f bs as_rz m t o a, rz-first name f bs m t o a, turn-forth v name as_rz m t o a f bs h)
gate-forth Two name (turn as_p m t o a) f bs h = absurd h.0
gate-forth Three name (turn as_p m t o a) f bs h = rw (turn-not-plain name f bs as_p m t o a, (p-first name f bs m t o a).0, (p-first name f bs m t o a).1, turn-forth Three name as_p m t o a f bs h)
gate-forth v name (xgate a) f bs h = rw (x-plain name f bs a h)
gate-forth v name (hadamard a) f bs h = rw (h-plain name f bs a h)
gate-forth Two name (common m t o) f bs h = absurd h.0
gate-forth Three name (common m t o) f bs h =
    let n = common-first name f bs m t o in
    rw (common-not-plain name f bs m t o, n.0, n.1, n.2, common-forth Three name m t o f bs h)
