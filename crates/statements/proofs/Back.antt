-- What is read as a statement behind the register is one of the forms. Assumes nothing.
use Rattle.std.specs.Prelude.{Option, None, Some}
use mathlib.Core.Path.{◌≡◌, refl, ap, ap₂, ◌∙◌, subst}
use mathlib.Core.Bool.{Bool, true, false}
use mathlib.Core.List.{List, [], ◌∷◌, ◌++◌, append_assoc}
use Prim.Native.Nat.{ℕ, ◌%◌, ◌≤◌}
use Rattle.sets.specs.Pick.{pick}
use Rattle.gates.specs.Layout.{packed}
use Rattle.angles.specs.declared.Scale.{Scale}
use Rattle.angles.specs.declared.Scale.TheVariants.{Units, Halves}
use Rattle.angles.specs.Units.{most_times, is_over, angle_in, units_of}
use Rattle.words.specs.Words.{Word}
use Rattle.spots.specs.Numbers.{Got, found}
use Rattle.spots.proofs.Numbers.{never-some, steps, either-read, found-parts}
use Rattle.std.specs.Prelude.{option_map, is_some}
use Rattle.std.proofs.lemmas.Option.{same_Some}
use Rattle.lines.specs.Lines.{digits}
use native.Mathlib.Omega.{arith}
use Rattle.words.specs.Taking.{taken, numbered}
use Rattle.versions.specs.declared.Version.{Version}
use Rattle.versions.specs.declared.Version.TheVariants.{Two, Three}
use Rattle.statements.specs.Spelling.{mark, pi, cx, u1, rz, gphase}
use Rattle.statements.specs.Statements.{Said, TurnSaid, drawn, rotated, read_many, read_times, read_divided, read_divisor, read_multiple, read_angle, read_qubit, read_cnot, read_tail, read_opening, read_turn, read_common, read_newer, read_rotation, read_single, read_plain, read_gate}
use Rattle.statements.specs.Forms.{Times, nought, once, many, Divisor, plain, over, Rotor, as_u1, as_rz, as_p, Form, cnot, turn, xgate, hadamard, common, Newer, Carried, GoodTimes, GoodDivisor, GoodForm, times_words, divisor_words, minus_words, qubit_words, rotor_word, form_words, times_in, divisor_in, form_record, half_taken, form_phase}
use Rattle.statements.proofs.Taken.{Leads, leads-at, taken_back, number-back-word, number-most}

record TimesBack (c : Scale) (o : Option (List Word)) (v : ℕ) (bs : List (List ℕ)) (t : List Word) : Type 0 where
  times : Times
  good : GoodTimes c times
  value : times_in times ≡ v
  leads : Leads o (times_words times ++ bs) t

times-back : (c : Scale) (o : Option (List Word)) {bs : List (List ℕ)} {t : List Word} (g : Got Word) → read_times c o ≡ Some g → Leads (Some g.rest) bs t → TimesBack c o g.value bs t
unfolding read_times times_words times_in GoodTimes read_many
times-back c o {bs} {t} = either-read P (found 1 (taken pi o)) _ one (either-read P (read_many c o) (found 0 (taken (mark 48) o)) several zero)
  where
    P : Got Word → Type 0
    P g = Leads (Some g.rest) bs t → TimesBack c o g.value bs t

    one : (g : Got Word) → found 1 (taken pi o) ≡ Some g → P g
    one g e h = let f = found-parts 1 (taken pi o) g e in record { times = once; good = tt; value = f.0; leads = taken_back pi o (leads-at f.1 h) }

    several : (g : Got Word) → read_many c o ≡ Some g → P g
    several g e h =
        let s = steps (numbered (most_times c) o) _ g e in
        let f = found-parts s.first.value (taken pi (taken (mark 42) (Some s.first.rest))) g s.behind in
        record {
          times = many s.first.value;
          good = number-most (most_times c) o s.first s.read;
          value = f.0;
          leads = number-back-word (most_times c) o s.first s.read (taken_back (mark 42) _ (taken_back pi _ (leads-at f.1 h)));
        }

    zero : (g : Got Word) → found 0 (taken (mark 48) o) ≡ Some g → P g
    zero g e h = let f = found-parts 0 (taken (mark 48) o) g e in record { times = nought; good = tt; value = f.0; leads = taken_back (mark 48) o (leads-at f.1 h) }

record OverBack (c : Scale) (o : Option (List Word)) (v : ℕ) (bs : List (List ℕ)) (t : List Word) : Type 0 where
  by : Divisor
  good : GoodDivisor c by
  value : divisor_in by ≡ v
  leads : Leads o (divisor_words by ++ bs) t

over-back : (c : Scale) (o : Option (List Word)) {bs : List (List ℕ)} {t : List Word} (g : Got Word) → read_divisor c o ≡ Some g → Leads (Some g.rest) bs t → OverBack c o g.value bs t
unfolding read_divisor divisor_words divisor_in GoodDivisor read_divided
over-back c o {bs} {t} = either-read P (read_divided c o) (found 1 o) there none-there
  where
    P : Got Word → Type 0
    P g = Leads (Some g.rest) bs t → OverBack c o g.value bs t

    part : (d g : Got Word) (u : Bool) → is_over c d.value ≡ u → numbered (most_times c) (taken (mark 47) o) ≡ Some d → pick u (Some d) None ≡ Some g → P g
    part d g true p e q h =
        let r : d ≡ g = same_Some _ _ q in
        record {
          by = over d.value;
          good = p;
          value = ap (λ (x : Got Word). x.value) r;
          leads = taken_back (mark 47) o (number-back-word (most_times c) (taken (mark 47) o) d e (leads-at (ap (λ (x : Got Word). Some x.rest) r) h));
        }
    part d g false p e q h = never-some q

    there : (g : Got Word) → read_divided c o ≡ Some g → P g
    there g e = let s = steps (numbered (most_times c) (taken (mark 47) o)) _ g e in part s.first g (is_over c s.first.value) refl s.read s.behind

    none-there : (g : Got Word) → found 1 o ≡ Some g → P g
    none-there g e h = let f = found-parts 1 o g e in record { by = plain; good = tt; value = f.0; leads = leads-at f.1 h }

record AngleBack (c : Scale) (o : Option (List Word)) (v : ℕ) (bs : List (List ℕ)) (t : List Word) : Type 0 where
  minus : Bool
  times : Times
  by : Divisor
  times_good : GoodTimes c times
  by_good : GoodDivisor c by
  value : angle_in c minus (times_in times) (divisor_in by) ≡ v
  leads : Leads o (minus_words minus ++ (times_words times ++ (divisor_words by ++ bs))) t

angle-back : (c : Scale) (o : Option (List Word)) {bs : List (List ℕ)} {t : List Word} (g : Got Word) → read_angle c o ≡ Some g → Leads (Some g.rest) bs t → AngleBack c o g.value bs t
unfolding read_angle minus_words read_multiple
angle-back c o {bs} {t} g e h = go (is_some (taken (mark 45) o)) e
  where
    go : (u : Bool) → pick u (read_multiple c true (taken (mark 45) o)) (read_multiple c false o) ≡ Some g → AngleBack c o g.value bs t
    go false e =
        let s = steps (read_times c o) _ g e in
        let r = steps (read_divisor c (Some s.first.rest)) _ g s.behind in
        let f = found-parts (angle_in c false s.first.value r.first.value) (Some r.first.rest) g r.behind in
        let d = over-back c (Some s.first.rest) r.first r.read (leads-at f.1 h) in
        let k = times-back c o s.first s.read d.leads in
        record { minus = false; times = k.times; by = d.by; times_good = k.good; by_good = d.good; value = rw (k.value, d.value) f.0; leads = k.leads }
    go true e =
        let o' = taken (mark 45) o in
        let s = steps (read_times c o') _ g e in
        let r = steps (read_divisor c (Some s.first.rest)) _ g s.behind in
        let f = found-parts (angle_in c true s.first.value r.first.value) (Some r.first.rest) g r.behind in
        let d = over-back c (Some s.first.rest) r.first r.read (leads-at f.1 h) in
        let k = times-back c o' s.first s.read d.leads in
        record { minus = true; times = k.times; by = d.by; times_good = k.good; by_good = d.good; value = rw (k.value, d.value) f.0; leads = taken_back (mark 45) o k.leads }

pub qubit-back : (name : List ℕ) (o : Option (List Word)) (g : Got Word) {bs : List (List ℕ)} {t : List Word} → read_qubit name o ≡ Some g → Leads (Some g.rest) bs t → Leads o (qubit_words name g.value ++ bs) t
unfolding read_qubit qubit_words
qubit-back name o g {bs} {t} e h =
    let s = steps (numbered 255 (taken (mark 91) (taken name o))) _ g e in
    let f = found-parts s.first.value (taken (mark 93) (Some s.first.rest)) g s.behind in
    subst (λ v. Leads o (name ∷ mark 91 ∷ digits v ∷ mark 93 ∷ bs) t) f.0 (taken_back name o (taken_back (mark 91) _ (number-back-word 255 _ s.first s.read (taken_back (mark 93) _ (leads-at f.1 h)))))

pub qubit-most : (name : List ℕ) (o : Option (List Word)) (g : Got Word) → read_qubit name o ≡ Some g → g.value ≤ 255
unfolding read_qubit
qubit-most name o g e =
    let s = steps (numbered 255 (taken (mark 91) (taken name o))) _ g e in
    let f = found-parts s.first.value (taken (mark 93) (Some s.first.rest)) g s.behind in
    omega (arith, number-most 255 _ s.first s.read, f.0)

pub turn-le : (o : Option (List Word)) (name word : List ℕ) (t : TurnSaid) → read_turn word name o ≡ Some t → t.qubit ≤ 255
unfolding read_turn read_tail
turn-le o name word t e =
    let k = steps (read_angle Units (read_opening word o)) _ t e in
    let l = steps (read_tail name (Some k.first.rest)) _ t k.behind in
    let m = steps (read_qubit name (taken (mark 41) (Some k.first.rest))) _ l.first l.read in
    let f = found-parts m.first.value (taken (mark 59) (Some m.first.rest)) l.first m.behind in
    omega (arith, qubit-most name _ m.first m.read, f.0, ap (λ (x : TurnSaid). x.qubit) (same_Some _ _ l.behind))

-- what was read has a form, which stood there
pub record GateBack (v : Version) (name : List ℕ) (o : Option (List Word)) (s : Said) (bs : List (List ℕ)) (t : List Word) : Type 0 where
  pub form : Form
  pub good : GoodForm v form
  pub value : form_record form ≡ s.records
  pub phase : form_phase v form ≡ s.phase
  pub leads : Leads o (form_words name form ++ bs) t

-- what a rotation adds to the common phase
abbrev pub rotor_phase : Version → Rotor → ℕ → ℕ
rotor_phase v as_u1 angle = 0
rotor_phase v as_rz angle = half_taken v angle
rotor_phase v as_p angle = 0

pub rotor-phase : (v : Version) (r : Rotor) (m : Bool) (t : Times) (o : Divisor) (a : ℕ) → form_phase v (turn r m t o a) ≡ rotor_phase v r (angle_in Units m (times_in t) (divisor_in o))
unfolding form_phase
rotor-phase v as_u1 m t o a = refl
rotor-phase v as_rz m t o a = refl
rotor-phase v as_p m t o a = refl

module _ (v : Version) (name : List ℕ) (o : Option (List Word)) {bs : List (List ℕ)} {t : List Word} where
  cnot-back : (g : Got Word) → read_cnot name o ≡ Some g → Leads (Some g.rest) bs t → GateBack v name o (drawn g) bs t
  unfolding read_cnot GoodForm form_record form_phase form_words qubit_words
  cnot-back g e h =
      let p = taken cx o in
      let a = steps (read_qubit name p) _ g e in
      let q = taken (mark 44) (Some a.first.rest) in
      let b = steps (read_qubit name q) _ g a.behind in
      let f = found-parts (packed 1 a.first.value b.first.value) (taken (mark 59) (Some b.first.rest)) g b.behind in
      record {
        form = cnot a.first.value b.first.value;
        good = (qubit-most name p a.first a.read, qubit-most name q b.first b.read);
        value = ap (λ n. n ∷ []) f.0;
        phase = refl;
        leads = taken_back cx o (qubit-back name p a.first a.read (taken_back (mark 44) _ (qubit-back name q b.first b.read (taken_back (mark 59) _ (leads-at f.1 h)))));
      }

  x-back : (g : Got Word) → read_single 120 3 name o ≡ Some g → Leads (Some g.rest) bs t → GateBack v name o (drawn g) bs t
  unfolding read_single GoodForm form_record form_phase form_words qubit_words
  x-back g e h =
      let p = taken (mark 120) o in
      let a = steps (read_qubit name p) _ g e in
      let f = found-parts (packed 3 a.first.value 0) (taken (mark 59) (Some a.first.rest)) g a.behind in
      record {
        form = xgate a.first.value;
        good = qubit-most name p a.first a.read;
        value = ap (λ n. n ∷ []) f.0;
        phase = refl;
        leads = taken_back (mark 120) o (qubit-back name p a.first a.read (taken_back (mark 59) _ (leads-at f.1 h)));
      }

  hadamard-back : (g : Got Word) → read_single 104 4 name o ≡ Some g → Leads (Some g.rest) bs t → GateBack v name o (drawn g) bs t
  unfolding read_single GoodForm form_record form_phase form_words qubit_words
  hadamard-back g e h =
      let p = taken (mark 104) o in
      let a = steps (read_qubit name p) _ g e in
      let f = found-parts (packed 4 a.first.value 0) (taken (mark 59) (Some a.first.rest)) g a.behind in
      record {
        form = hadamard a.first.value;
        good = qubit-most name p a.first a.read;
        value = ap (λ n. n ∷ []) f.0;
        phase = refl;
        leads = taken_back (mark 104) o (qubit-back name p a.first a.read (taken_back (mark 59) _ (leads-at f.1 h)));
      }

  turn-back : (r : Rotor) → Carried v r → (u : TurnSaid) → read_turn (rotor_word r) name o ≡ Some u → Leads (Some u.rest) bs t → GateBack v name o (rotated (rotor_phase v r u.angle) u) bs t
  unfolding read_turn read_opening read_tail GoodForm form_record units_of form_words qubit_words
  turn-back r c u e h =
      let p = taken (mark 40) (taken (rotor_word r) o) in
      let k = steps (read_angle Units p) _ u e in
      let q = taken (mark 41) (Some k.first.rest) in
      let l = steps (read_tail name (Some k.first.rest)) _ u k.behind in
      let m = steps (read_qubit name q) _ l.first l.read in
      let f = found-parts m.first.value (taken (mark 59) (Some m.first.rest)) l.first m.behind in
      let w : record { qubit = l.first.value; angle = k.first.value; rest = l.first.rest } ≡ u = same_Some _ _ l.behind in
      let i = angle-back Units p k.first k.read (taken_back (mark 41) _ (qubit-back name q m.first m.read (taken_back (mark 59) _ (leads-at (f.1 ∙ ap (λ (x : TurnSaid). Some x.rest) w) h)))) in
      let a = m.first.value in
      let j : minus_words i.minus ++ (times_words i.times ++ (divisor_words i.by ++ (mark 41 ∷ (qubit_words name a ++ (mark 59 ∷ bs)))))
      ≡ (minus_words i.minus ++ (times_words i.times ++ (divisor_words i.by ++ (mark 41 ∷ (qubit_words name a ++ (mark 59 ∷ [])))))) ++ bs = simp append_assoc in
      let x : angle_in Units i.minus (times_in i.times) (divisor_in i.by) ≡ u.angle = i.value ∙ ap (λ (y : TurnSaid). y.angle) w in
      let y : a ≡ u.qubit = f.0 ∙ ap (λ (y : TurnSaid). y.qubit) w in
      record {
        form = turn r i.minus i.times i.by a;
        good = (c, i.times_good, i.by_good, qubit-most name q m.first m.read);
        value = ap₂ (λ a n. packed 2 a (n % 65536) ∷ []) y x;
        phase = rotor-phase v r i.minus i.times i.by a ∙ ap (rotor_phase v r) x;
        leads = taken_back (rotor_word r) o (taken_back (mark 40) _ (subst (λ l. Leads p l t) j i.leads));
      }

  common-back : Newer v → (s : Said) → read_common o ≡ Some s → Leads (Some s.rest) bs t → GateBack v name o s bs t
  unfolding read_common read_opening GoodForm form_record form_phase form_words
  common-back n s e h =
      let p = taken (mark 40) (taken gphase o) in
      let k = steps (read_angle Halves p) _ s e in
      let l = steps (taken (mark 59) (taken (mark 41) (Some k.first.rest))) _ s k.behind in
      let w : record { records = []; phase = k.first.value; rest = l.first } ≡ s = same_Some _ _ l.behind in
      let i = angle-back Halves p k.first k.read (taken_back (mark 41) _ (taken_back (mark 59) _ (leads-at (l.read ∙ ap (λ (x : Said). Some x.rest) w) h))) in
      let j : minus_words i.minus ++ (times_words i.times ++ (divisor_words i.by ++ (mark 41 ∷ mark 59 ∷ bs)))
      ≡ (minus_words i.minus ++ (times_words i.times ++ (divisor_words i.by ++ (mark 41 ∷ mark 59 ∷ [])))) ++ bs = simp append_assoc in
      record {
        form = common i.minus i.times i.by;
        good = (n, i.times_good, i.by_good);
        value = ap (λ (x : Said). x.records) w;
        phase = i.value ∙ ap (λ (x : Said). x.phase) w;
        leads = taken_back gphase o (taken_back (mark 40) _ (subst (λ l. Leads p l t) j i.leads));
      }

-- what f makes of what was read
mapped-back : {A B : Type 0} (P : B → Type 0) (f : A → B) (o : Option A) → ((a : A) → o ≡ Some a → P (f a)) → (b : B) → option_map f o ≡ Some b → P b
mapped-back P f None h b e = never-some e
mapped-back P f (Some a) h b e = subst P (same_Some _ _ e) (h a refl)

module _ (name : List ℕ) (o : Option (List Word)) (bs : List (List ℕ)) (t : List Word) where
  -- what was said, where it was read, has a form
  abbrev Holds : Version → Said → Type 0
  Holds v s = Leads (Some s.rest) bs t → GateBack v name o s bs t

  plain_back : (v : Version) (g : Got Word) → read_plain name o ≡ Some g → Holds v (drawn g)
  unfolding read_plain
  plain_back v =
      either-read (λ (g : Got Word). Holds v (drawn g)) (read_cnot name o) _ (cnot-back v name o)
      (either-read (λ (g : Got Word). Holds v (drawn g)) (read_single 120 3 name o) (read_single 104 4 name o) (x-back v name o) (hadamard-back v name o))

  newer-back : (v : Version) (s : Said) → read_newer v name o ≡ Some s → Holds v s
  unfolding read_newer Carried Newer
  newer-back Two = λ s e. never-some e
  newer-back Three = either-read (Holds Three) (option_map (rotated 0) (read_turn (mark 112) name o)) (read_common o) (mapped-back (Holds Three) (rotated 0) (read_turn (mark 112) name o) (turn-back Three name o as_p tt)) (common-back Three name o tt)

  rotation-back : (v : Version) (s : Said) → read_rotation v name o ≡ Some s → Holds v s
  unfolding read_rotation Carried
  rotation-back v =
      either-read (Holds v) (option_map (rotated 0) (read_turn u1 name o)) _ (mapped-back (Holds v) (rotated 0) (read_turn u1 name o) (turn-back v name o as_u1 tt))
      (either-read (Holds v) (option_map (λ t. rotated (half_taken v t.angle) t) (read_turn rz name o)) (read_newer v name o)
      (mapped-back (Holds v) (λ (t : TurnSaid). rotated (half_taken v t.angle) t) (read_turn rz name o) (turn-back v name o as_rz tt)) (newer-back v))

pub gate-said-back : (v : Version) (name : List ℕ) (o : Option (List Word)) {bs : List (List ℕ)} {t : List Word} (s : Said) → read_gate v name o ≡ Some s → Leads (Some s.rest) bs t → GateBack v name o s bs t
unfolding read_gate
gate-said-back v name o {bs} {t} =
    either-read (Holds name o bs t v) (option_map drawn (read_plain name o)) (read_rotation v name o) (mapped-back (Holds name o bs t v) drawn (read_plain name o) (plain_back name o bs t v)) (rotation-back name o bs t v)
