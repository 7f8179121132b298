-- The words of what we write. Assumes nothing.
use mathlib.Core.Path.{◌≡◌, refl, sym, ap, ◌∙◌}
use mathlib.Core.Logic.{◌⊎◌, inl, inr}
use mathlib.Core.Bool.{Bool, true, false}
use mathlib.Core.List.{List, [], ◌∷◌, ◌++◌, append_assoc, append-nil}
use Prim.Native.Nat.{ℕ, zero, suc, ◌+◌, ◌/◌, ◌%◌, ◌≤◌, ◌<◌}
use native.Mathlib.Omega.{arith}
use lib.Dec.{eqb, ltb}
use lib.ListN.{length}
use borrow.Author.Tests.{eqb-true, eqb-false, ne_eqb, ltb-true, ltb-false, le-leb, lt-leb}
use Rattle.sets.specs.Pick.{both, either}
use Rattle.sets.specs.Lists.{All}
use Rattle.sets.proofs.Lists.{all_append}
use Rattle.gates.specs.Layout.{packed, kind_in, a_in, b_in}
use Rattle.gates.proofs.Records.{packed-back}
use Rattle.verdicts.specs.Rows.{BadDrawn, PassesDrawn}
use Rattle.circuit.specs.Phase.{phases}
use Rattle.lines.specs.Lines.{digits_in, digits}
use Rattle.lines.proofs.Digits.{digits-small, digits-big}
use Rattle.lines.proofs.Layouts.{b_lt}
use Rattle.angles.specs.declared.Scale.TheVariants.{Halves}
use Rattle.angles.specs.Units.{is_over}
use Rattle.angles.proofs.Laws.{count-written, units-written}
use Rattle.words.specs.Bytes.{blank, small, in_name, in_word, goes_on, slashes, AllOn}
use Rattle.words.specs.Words.{note, run, after, ended, lex, words, bodies}
use Rattle.words.specs.Taking.{is_name, all_in_name}
use Rattle.words.proofs.Steps.{Stops, note-is, run-stop}
use Rattle.words.proofs.Forth.{word-forth}
use Rattle.versions.specs.declared.Version.{Version}
use Rattle.versions.specs.declared.Version.TheVariants.{Two, Three}
use Rattle.statements.specs.Spelling.{openqasm, numeral, include, library, qreg, qubit, gphase, mark}
use Rattle.statements.specs.Forms.{Rotor, as_u1, as_p, Form, cnot, turn, xgate, hadamard, common, many, over, Newer, Carried, GoodForm, GoodTimes, GoodDivisor, times_words, divisor_words, minus_words, qubit_words, rotor_word, form_words, forms_words, version_words, include_words, register_words, head_words, times_in, divisor_in, form_record, form_records, form_phase, phase_of_forms}
use Rattle.qasm_reading.specs.Texts.{CircuitText}
use Rattle.qasm_lines.specs.Spelling.{gate_text, gates_text, head_text, phase_text, circuit_text}
use Rattle.qasm_lines.proofs.Spelt.{turn_front, head_front, phase_front, phase-text-none, gate-cnot, gate-turn, gate-x, gate-hadamard, head-spelt, phase-spelt}
use Rattle.qasm_text.specs.Writings.{read_phase}
use Rattle.qasm_text.proofs.Sizes.{first-within, second-within}

-- ---- numbers

digit-word : (d : ℕ) → d < 10 → in_word (48 + d) ≡ true
unfolding in_word in_name small
digit-word d h = rw (lt-leb 97 (48 + d) (omega arith), lt-leb 65 (48 + d) (omega arith), le-leb 48 (48 + d) (omega arith), le-leb (48 + d) 57 (omega arith))

digit-blank : (d : ℕ) → blank (48 + d) ≡ false
unfolding blank
digit-blank d =
    rw (ne_eqb (48 + d) 32 (λ (e : 48 + d ≡ 32). omega arith), ne_eqb (48 + d) 9 (λ (e : 48 + d ≡ 9). omega arith), ne_eqb (48 + d) 13 (λ (e : 48 + d ≡ 13). omega arith), ne_eqb (48 + d) 10 (λ (e : 48 + d ≡ 10). omega arith))

on-digit : (f d : ℕ) → in_word f ≡ true → d < 10 → goes_on f (48 + d) ≡ true
unfolding goes_on
on-digit f d h k = rw (h, digit-word d k)

-- the digits of a number: the first one, and the others, which go on
record Number (b : List ℕ) : Type 0 where
  first : ℕ
  others : List ℕ
  low : first < 10
  on : AllOn (48 + first) others
  same : b ≡ (48 + first) ∷ others

number_in : (f v : ℕ) → v < f → Number (digits v)
unfolding All
number_in zero v h = absurd (omega arith)
number_in (suc f) v h = go (ltb v 10) refl (number_in f (v / 10))
  where
    go : (t : Bool) → ltb v 10 ≡ t → (v / 10 < f → Number (digits (v / 10))) → Number (digits v)
    go true e ih = let l = ltb-true v 10 e in record { first = v; others = []; low = l; on = tt; same = digits-small v l }
    go false e ih =
        let l : 10 ≤ v = ltb-false v 10 e in
        let d = ih (omega arith) in
        record {
          first = d.first;
          others = d.others ++ ((48 + v % 10) ∷ []);
          low = d.low;
          on = all_append _ d.others ((48 + v % 10) ∷ []) d.on (on-digit (48 + d.first) (v % 10) (digit-word d.first d.low) (omega arith), tt);
          same = digits-big v l ∙ ap (λ b. b ++ ((48 + v % 10) ∷ [])) d.same;
        }

number : (v : ℕ) → Number (digits v)
number v = number_in (suc v) v (omega arith)

stops-digit : (d y : ℕ) (t : List ℕ) → in_word y ≡ false → Stops (48 + d) (y ∷ t)
unfolding goes_on slashes
stops-digit d y t h = record {
  stop = λ _. rw (h, ne_eqb (48 + d) 34 (λ (e : 48 + d ≡ 34). omega arith)) (go (either (in_word (48 + d)) false));
  clear = λ _. rw (ne_eqb (48 + d) 47 (λ (e : 48 + d ≡ 47). omega arith));
}
  where
    go : (t : Bool) → either (both t false) false ≡ false
    go true = refl
    go false = refl

-- a number, where no byte of a word stands behind it
digits-word : (v y : ℕ) (t : List ℕ) → in_word y ≡ false → bodies (words (digits v ++ (y ∷ t))) ≡ digits v ∷ bodies (words (y ∷ t))
digits-word v y t h =
    let n = number v in
    rw n.same (word-forth (48 + n.first) n.others (y ∷ t) (digit-blank n.first) n.on (stops-digit n.first y t h))

-- a mark before a number: `[` or `(`
mark-digits : (x v : ℕ) (t : List ℕ) → in_word x ≡ false → eqb x 34 ≡ false → eqb x 47 ≡ false → bodies (lex (run x (mark x)) (digits v ++ t)) ≡ mark x ∷ bodies (words (digits v ++ t))
unfolding goes_on slashes
mark-digits x v t a b c =
    let n = number v in
    rw n.same (ap (λ l. bodies l) (run-stop x (mark x) (((48 + n.first) ∷ n.others) ++ t) (record { stop = λ _. rw (a, b); clear = λ _. rw c })))

-- a comment goes on over what goes on a word, as a number's digits
on-lf : (f : ℕ) → goes_on f 10 ≡ false
unfolding goes_on in_word in_name small
on-lf f = go (either (in_word f) (eqb f 34)) (eqb f 34)
  where
    go : (a b : Bool) → either (both a false) (both b false) ≡ false
    go true true = refl
    go true false = refl
    go false true = refl
    go false false = refl

note-all : (f : ℕ) (xs t : List ℕ) → AllOn f xs → lex note (xs ++ t) ≡ lex note t
unfolding All
note-all f [] t h = refl
note-all f (x ∷ xs) t h = note-is x (xs ++ t) ∙ rw (ne_eqb x 10 no-lf) (note-all f xs t h.1)
  where
    no-lf : x ≡ 10 → ⊥
    no-lf e =
        let q : true ≡ false = sym h.0 ∙ ap (goes_on f) e ∙ on-lf f in
        let z : ◌≡◌ {A = ℕ} 0 1 = cc q in absurd (omega arith)

note-digits : (v : ℕ) (t : List ℕ) → lex note (digits v ++ t) ≡ lex note t
note-digits v t =
    let n = number v in
    rw n.same (note-is (48 + n.first) (n.others ++ t) ∙ rw (ne_eqb (48 + n.first) 10 (λ (e : 48 + n.first ≡ 10). omega arith)) (note-all (48 + n.first) n.others t n.on))

-- ---- the bytes between numbers

-- how we write a rotation
abbrev rotor_of : Version → Rotor
rotor_of Two = as_u1
rotor_of Three = as_p

-- what stands before the `[` of the register
abbrev register_front : Version → List (List ℕ)
register_front Two = qreg ∷ mark 113 ∷ []
register_front Three = qubit ∷ []

module _ (r : List ℕ) where
  head-front : (v : Version)
      → bodies (words (head_front v ++ r)) ≡ openqasm ∷ numeral v ∷ mark 59 ∷ include ∷ library v ∷ mark 59 ∷ (register_front v ++ bodies (lex (run 91 (mark 91)) r))
  unfolding lex after ended blank goes_on in_word in_name small slashes
  head-front Two = refl
  head-front Three = refl

  cnot-front : bodies (words (99 ∷ 120 ∷ 32 ∷ 113 ∷ 91 ∷ r)) ≡ (99 ∷ 120 ∷ []) ∷ mark 113 ∷ bodies (lex (run 91 (mark 91)) r)
  unfolding lex after ended blank goes_on in_word in_name small slashes
  cnot-front = refl

  cnot-middle : bodies (words (93 ∷ 44 ∷ 113 ∷ 91 ∷ r)) ≡ mark 93 ∷ mark 44 ∷ mark 113 ∷ bodies (lex (run 91 (mark 91)) r)
  unfolding lex after ended blank goes_on in_word in_name small slashes
  cnot-middle = refl

  turn-front : (v : Version) → bodies (words (turn_front v ++ r)) ≡ rotor_word (rotor_of v) ∷ bodies (lex (run 40 (mark 40)) r)
  unfolding lex after ended blank goes_on in_word in_name small slashes
  turn-front Two = refl
  turn-front Three = refl

  turn-middle : bodies (words (42 ∷ 112 ∷ 105 ∷ 47 ∷ 51 ∷ 50 ∷ 55 ∷ 54 ∷ 56 ∷ 41 ∷ 32 ∷ 113 ∷ 91 ∷ r))
      ≡ mark 42 ∷ (112 ∷ 105 ∷ []) ∷ mark 47 ∷ digits 32768 ∷ mark 41 ∷ mark 113 ∷ bodies (lex (run 91 (mark 91)) r)
  unfolding lex after ended blank goes_on in_word in_name small slashes digits digits_in
  turn-middle = refl

  x-front : bodies (words (120 ∷ 32 ∷ 113 ∷ 91 ∷ r)) ≡ mark 120 ∷ mark 113 ∷ bodies (lex (run 91 (mark 91)) r)
  unfolding lex after ended blank goes_on in_word in_name small slashes
  x-front = refl

  hadamard-front : bodies (words (104 ∷ 32 ∷ 113 ∷ 91 ∷ r)) ≡ mark 104 ∷ mark 113 ∷ bodies (lex (run 91 (mark 91)) r)
  unfolding lex after ended blank goes_on in_word in_name small slashes
  hadamard-front = refl

  ending : bodies (words (93 ∷ 59 ∷ 10 ∷ r)) ≡ mark 93 ∷ mark 59 ∷ bodies (words r)
  unfolding lex after ended blank goes_on in_word in_name small slashes
  ending = refl

  -- `] q;`
  name-ending : bodies (words (93 ∷ 32 ∷ 113 ∷ 59 ∷ 10 ∷ r)) ≡ mark 93 ∷ mark 113 ∷ mark 59 ∷ bodies (words r)
  unfolding lex after ended blank goes_on in_word in_name small slashes
  name-ending = refl

  -- a comment opens
  comment-front : words (phase_front Two ++ r) ≡ lex note r
  unfolding lex after ended blank goes_on in_word in_name small slashes
  comment-front = refl

  phase-front : bodies (words (phase_front Three ++ r)) ≡ gphase ∷ bodies (lex (run 40 (mark 40)) r)
  unfolding lex after ended blank goes_on in_word in_name small slashes
  phase-front = refl

comment-ending : lex note (42 ∷ 112 ∷ 105 ∷ 47 ∷ 54 ∷ 53 ∷ 53 ∷ 51 ∷ 54 ∷ 10 ∷ []) ≡ []
unfolding lex after
comment-ending = refl

phase-ending : bodies (words (42 ∷ 112 ∷ 105 ∷ 47 ∷ 54 ∷ 53 ∷ 53 ∷ 51 ∷ 54 ∷ 41 ∷ 59 ∷ 10 ∷ [])) ≡ mark 42 ∷ (112 ∷ 105 ∷ []) ∷ mark 47 ∷ digits 65536 ∷ mark 41 ∷ mark 59 ∷ []
unfolding lex after ended blank goes_on in_word in_name small slashes digits digits_in
phase-ending = refl

bracket-digits : (v y : ℕ) (t : List ℕ) → in_word y ≡ false → bodies (lex (run 91 (mark 91)) (digits v ++ (y ∷ t))) ≡ mark 91 ∷ digits v ∷ bodies (words (y ∷ t))
unfolding in_word in_name small
bracket-digits v y t h = mark-digits 91 v (y ∷ t) refl refl refl ∙ ap (λ l. mark 91 ∷ l) (digits-word v y t h)

-- ---- a statement, and what stands behind it

module _ (v : Version) (x : ℕ) (t : List ℕ) where
  cnot-words : kind_in x ≡ 1 → bodies (words (gate_text v x ++ t)) ≡ form_words (mark 113) (cnot (a_in x) (b_in x)) ++ bodies (words t)
  unfolding form_words qubit_words in_word in_name small
  cnot-words k =
      rw (gate-cnot v x k, append_assoc (digits (a_in x)), append_assoc (digits (b_in x))) (cnot-front _ ∙ rw (bracket-digits (a_in x) 93 _ refl, cnot-middle, bracket-digits (b_in x) 93 _ refl, ending))

  turn-words : kind_in x ≡ 2 → bodies (words (gate_text v x ++ t)) ≡ form_words (mark 113) (turn (rotor_of v) false (many (b_in x)) (over 32768) (a_in x)) ++ bodies (words t)
  unfolding form_words minus_words times_words divisor_words qubit_words in_word in_name small
  turn-words k =
      rw (gate-turn v x k, append_assoc (turn_front v), append_assoc (digits (b_in x)), append_assoc (digits (a_in x)))
      (turn-front _ v ∙ rw (mark-digits 40 (b_in x) _ refl refl refl, digits-word (b_in x) 42 _ refl, turn-middle, bracket-digits (a_in x) 93 _ refl, ending))

  x-words : kind_in x ≡ 3 → bodies (words (gate_text v x ++ t)) ≡ form_words (mark 113) (xgate (a_in x)) ++ bodies (words t)
  unfolding form_words qubit_words in_word in_name small
  x-words k = rw (gate-x v x k, append_assoc (digits (a_in x))) (x-front _ ∙ rw (bracket-digits (a_in x) 93 _ refl, ending))

  hadamard-words : kind_in x ≡ 4 → bodies (words (gate_text v x ++ t)) ≡ form_words (mark 113) (hadamard (a_in x)) ++ bodies (words t)
  unfolding form_words qubit_words in_word in_name small
  hadamard-words k = rw (gate-hadamard v x k, append_assoc (digits (a_in x))) (hadamard-front _ ∙ rw (bracket-digits (a_in x) 93 _ refl, ending))

head-words : (v : Version) (n : ℕ) (t : List ℕ) → bodies (words (head_text v n ++ t)) ≡ head_words v (mark 113) n ++ bodies (words t)
unfolding head_words version_words include_words register_words in_word in_name small
head-words Two n t = rw (head-spelt Two n, append_assoc (digits n)) (head-front _ Two ∙ rw (bracket-digits n 93 _ refl, ending))
head-words Three n t = rw (head-spelt Three n, append_assoc (digits n)) (head-front _ Three ∙ rw (bracket-digits n 93 _ refl, name-ending))

-- ---- the common phase, last

module _ (g : ℕ) (h : g % 131072 ≡ 0 → ⊥) where
  -- a comment is no word
  comment-words : bodies (words (phase_text Two g)) ≡ []
  comment-words = rw (phase-spelt Two g h) (ap (λ l. bodies l) (comment-front _ ∙ note-digits (g % 131072) _ ∙ comment-ending))

  phase-words : bodies (words (phase_text Three g)) ≡ form_words (mark 113) (common false (many (g % 131072)) (over 65536))
  unfolding form_words minus_words times_words divisor_words in_word in_name small
  phase-words = rw (phase-spelt Three g h) (phase-front _ ∙ rw (mark-digits 40 (g % 131072) _ refl refl refl, digits-word (g % 131072) 42 _ refl, phase-ending))

-- ---- the text of a circuit

-- the form in which we write a record
record Spelt (v : Version) (x : ℕ) : Type 0 where
  form : Form
  good : GoodForm v form
  meant : form_record form ≡ x ∷ []
  still : form_phase v form ≡ 0
  spelt : (t : List ℕ) → bodies (words (gate_text v x ++ t)) ≡ form_words (mark 113) form ++ bodies (words t)

-- a record is that of its kind and its two numbers
again : (x k b : ℕ) → kind_in x ≡ k → b_in x ≡ b → packed k (a_in x) b ∷ [] ≡ x ∷ []
again x k b e f = rw (← e, ← f) (ap (λ y. y ∷ []) (packed-back x))

-- a rotation as we write it
carried : (v : Version) → Carried v (rotor_of v)
unfolding Carried Newer
carried Two = tt
carried Three = tt

turn-still : (v : Version) (k d a : ℕ) → form_phase v (turn (rotor_of v) false (many k) (over d) a) ≡ 0
unfolding form_phase
turn-still Two k d a = refl
turn-still Three k d a = refl

module _ (v : Version) (n x : ℕ) (few : n ≤ 255) (fine : BadDrawn n x → ⊥) where
  low : a_in x ≤ 255
  low = omega (arith, first-within n x fine)

  -- an X and a Hadamard have no angle
  no-angle : (kind_in x ≡ 3) ⊎ (kind_in x ≡ 4) → b_in x ≡ 0
  no-angle k = go (eqb (b_in x) 0) refl
    where
      go : (t : Bool) → eqb (b_in x) 0 ≡ t → b_in x ≡ 0
      go true e = eqb-true (b_in x) 0 e
      go false e = absurd (fine (inr (inr (inr (k, eqb-false (b_in x) 0 e)))))

  spelt-cnot : kind_in x ≡ 1 → Spelt v x
  unfolding GoodForm form_record form_phase
  spelt-cnot k = record {
    form = cnot (a_in x) (b_in x);
    good = (low, omega (arith, second-within n x fine k));
    meant = again x 1 (b_in x) k refl;
    still = refl;
    spelt = λ t. cnot-words v x t k;
  }

  spelt-turn : kind_in x ≡ 2 → Spelt v x
  unfolding GoodForm GoodTimes GoodDivisor form_record times_in divisor_in is_over
  spelt-turn k = record {
    form = turn (rotor_of v) false (many (b_in x)) (over 32768) (a_in x);
    good = (carried v, omega (arith, b_lt x), refl, low);
    meant = ap (λ u. packed 2 (a_in x) u ∷ []) (units-written (b_in x) (b_lt x)) ∙ again x 2 (b_in x) k refl;
    still = turn-still v (b_in x) 32768 (a_in x);
    spelt = λ t. turn-words v x t k;
  }

  spelt-x : kind_in x ≡ 3 → Spelt v x
  unfolding GoodForm form_record form_phase
  spelt-x k = record { form = xgate (a_in x); good = low; meant = again x 3 0 k (no-angle (inl k)); still = refl; spelt = λ t. x-words v x t k }

  spelt-hadamard : kind_in x ≡ 4 → Spelt v x
  unfolding GoodForm form_record form_phase
  spelt-hadamard k = record { form = hadamard (a_in x); good = low; meant = again x 4 0 k (no-angle (inr k)); still = refl; spelt = λ t. hadamard-words v x t k }

  spelt-record : Spelt v x
  spelt-record = go (eqb (kind_in x) 1) (eqb (kind_in x) 2) (eqb (kind_in x) 3) (eqb (kind_in x) 4) refl refl refl refl
    where
      go : (a b c d : Bool) → eqb (kind_in x) 1 ≡ a → eqb (kind_in x) 2 ≡ b → eqb (kind_in x) 3 ≡ c → eqb (kind_in x) 4 ≡ d → Spelt v x
      go true b c d p q r s = spelt-cnot (eqb-true (kind_in x) 1 p)
      go false true c d p q r s = spelt-turn (eqb-true (kind_in x) 2 q)
      go false false true d p q r s = spelt-x (eqb-true (kind_in x) 3 r)
      go false false false true p q r s = spelt-hadamard (eqb-true (kind_in x) 4 s)
      go false false false false p q r s = absurd (fine (inl (eqb-false (kind_in x) 1 p, eqb-false (kind_in x) 2 q, eqb-false (kind_in x) 3 r, eqb-false (kind_in x) 4 s)))

-- the forms in which we write records and a common phase
record AllSpelt (v : Version) (xs : List ℕ) (g : ℕ) : Type 0 where
  forms : List Form
  good : All (GoodForm v) forms
  meant : form_records forms ≡ xs
  shifted : phase_of_forms v forms ≡ read_phase v g
  spelt : bodies (words (gates_text v xs ++ phase_text v g)) ≡ forms_words (mark 113) forms

-- none of them, where the common phase has no word
none-spelt : (v : Version) (g : ℕ) → read_phase v g ≡ 0 → bodies (words (phase_text v g)) ≡ [] → AllSpelt v [] g
unfolding gates_text forms_words All form_records phase_of_forms
none-spelt v g e s = record { forms = []; good = tt; meant = refl; shifted = sym e; spelt = s }

phase-no-words : (v : Version) (g : ℕ) → g % 131072 ≡ 0 → bodies (words (phase_text v g)) ≡ []
unfolding lex
phase-no-words v g e = rw (phase-text-none v g e)

-- the common phase alone
last-spelt : (v : Version) (g : ℕ) → AllSpelt v [] g
unfolding read_phase gates_text forms_words GoodForm GoodTimes GoodDivisor Newer All form_record form_records form_phase times_in divisor_in phase_of_forms phases is_over
last-spelt Two g = go (eqb (g % 131072) 0) refl
  where
    go : (t : Bool) → eqb (g % 131072) 0 ≡ t → AllSpelt Two [] g
    go true e = none-spelt Two g refl (phase-no-words Two g (eqb-true (g % 131072) 0 e))
    go false e = none-spelt Two g refl (comment-words g (eqb-false (g % 131072) 0 e))
last-spelt Three g = go (eqb (g % 131072) 0) refl
  where
    go : (t : Bool) → eqb (g % 131072) 0 ≡ t → AllSpelt Three [] g
    go true e = none-spelt Three g (eqb-true (g % 131072) 0 e) (phase-no-words Three g (eqb-true (g % 131072) 0 e))
    go false e = record {
      forms = common false (many (g % 131072)) (over 65536) ∷ [];
      good = ((tt, omega arith, refl), tt);
      meant = refl;
      shifted = omega (arith, count-written Halves (g % 131072) (omega arith));
      spelt = phase-words g (eqb-false (g % 131072) 0 e) ∙ sym (append-nil _);
    }

read-lt : (v : Version) (g : ℕ) → read_phase v g < 131072
unfolding read_phase
read-lt Two g = omega arith
read-lt Three g = omega arith

all-spelt : (v : Version) (n : ℕ) (xs : List ℕ) (g : ℕ) → n ≤ 255 → PassesDrawn n xs → AllSpelt v xs g
unfolding gates_text forms_words All form_records phase_of_forms phases
all-spelt v n [] g few fine = last-spelt v g
all-spelt v n (x ∷ xs) g few fine =
    let a = spelt-record v n x few (fine 0 (omega arith)) in
    let b = all-spelt v n xs g few (λ k (l : k < length xs). fine (suc k) (omega arith)) in
    record {
      forms = a.form ∷ b.forms;
      good = (a.good, b.good);
      meant = ap (λ l. l ++ form_records b.forms) a.meant ∙ ap (λ l. x ∷ l) b.meant;
      shifted = omega (arith, a.still, b.shifted, read-lt v g);
      spelt = ap (λ l. bodies (words l)) (append_assoc (gate_text v x) (gates_text v xs) (phase_text v g)) ∙ a.spelt (gates_text v xs ++ phase_text v g) ∙ ap (λ l. form_words (mark 113) a.form ++ l) b.spelt;
    }

-- THEOREM: what we write for n, gates and a common phase is their text
pub text-circuit : (v : Version) (n : ℕ) (gates : List ℕ) (g : ℕ) → n ≤ 255 → PassesDrawn n gates → CircuitText (circuit_text v n gates g) v n gates (read_phase v g)
unfolding circuit_text is_name all_in_name small in_name
text-circuit v n gates g few fine =
    let a = all-spelt v n gates g few fine in
    record {
      name = mark 113;
      forms = a.forms;
      named = refl;
      few = few;
      good = a.good;
      meant = sym a.meant;
      shifted = sym a.shifted;
      spelt = head-words v n (gates_text v gates ++ phase_text v g) ∙ ap (λ l. head_words v (mark 113) n ++ l) a.spelt;
    }
