-- The first three statements: where their words stand they are read, and what was read stood there. Assumes nothing.
use Rattle.std.specs.Prelude.{Option, None, Some}
use mathlib.Core.Path.{◌≡◌, refl, sym, ap, ◌∙◌, subst}
use mathlib.Core.Bool.{true, false}
use mathlib.Core.List.{List, [], ◌∷◌, ◌++◌}
use Prim.Native.Nat.{ℕ, ◌≤◌}
use Rattle.words.specs.Bytes.{same}
use Rattle.words.specs.Words.{Word, bodies}
use Rattle.spots.specs.Numbers.{Got, left_behind}
use Rattle.spots.proofs.Numbers.{steps, found-parts}
use native.Mathlib.Omega.{arith}
use Rattle.words.specs.Taking.{taken, numbered, named, front_word, is_name}
use Rattle.versions.specs.declared.Version.{Version}
use Rattle.versions.specs.declared.Version.TheVariants.{Two, Three}
use Rattle.lines.specs.Lines.{digits}
use Rattle.statements.specs.Spelling.{openqasm, numeral, include, library, qreg, qubit, mark}
use Rattle.statements.specs.Statements.{read_version, read_include, read_size, read_name, read_register}
use Rattle.statements.specs.Forms.{version_words, include_words, register_words}
use Rattle.statements.proofs.Taken.{Leads, leads-at, taken_back, number-back-word, number-most, named_back, taken-forth, number_word, named-forth}
use Rattle.statements.proofs.Forth.{tag, later}
use Rattle.statements.proofs.Words.{bodies-length, places_of, tagged, tag-length, same-behind}

-- ---- what was read stood there

-- words that are spelt so stand before t
pub record StandBefore (ws : List Word) (bs : List (List ℕ)) (t : List Word) : Type 0 where
  pub words : List Word
  pub same : ws ≡ words ++ t
  pub spelt : bodies words ≡ bs

stood : {ws t : List Word} {bs : List (List ℕ)} → Leads (Some ws) bs t → StandBefore ws bs t
stood l = record { words = l.words; same = cc l.same; spelt = l.spelt }

done : {o : Option (List Word)} {t : List Word} → o ≡ Some t → Leads o [] t
done e = record { words = []; same = e; spelt = refl }

pub version-read : (v : Version) (ws t : List Word) → read_version v (Some ws) ≡ Some t → StandBefore ws (version_words v) t
unfolding read_version version_words
version-read v ws t e = stood (taken_back openqasm (Some ws) (taken_back (numeral v) _ (taken_back (mark 59) _ (done e))))

pub include-read : (v : Version) (ws t : List Word) → read_include v (Some ws) ≡ Some t → StandBefore ws (include_words v) t
unfolding read_include include_words
include-read v ws t e = stood (taken_back include (Some ws) (taken_back (library v) _ (taken_back (mark 59) _ (done e))))

size_back : (o : Option (List Word)) (g : Got Word) {bs : List (List ℕ)} {t : List Word} → read_size o ≡ Some g → Leads (Some g.rest) bs t → Leads o (mark 91 ∷ digits g.value ∷ mark 93 ∷ bs) t × (g.value ≤ 255)
unfolding read_size
size_back o g {bs} {t} e h =
    let s = steps (numbered 255 (taken (mark 91) o)) _ g e in
    let f = found-parts s.first.value (taken (mark 93) (Some s.first.rest)) g s.behind in (
      subst (λ v. Leads o (mark 91 ∷ digits v ∷ mark 93 ∷ bs) t) f.0 (taken_back (mark 91) o (number-back-word 255 _ s.first s.read (taken_back (mark 93) _ (leads-at f.1 h)))),
      omega (arith, number-most 255 _ s.first s.read, f.0),
    )

pub record Declares (v : Version) (ws : List Word) (g : Got Word) : Type 0 where
  pub stood : StandBefore ws (register_words v (read_name v (Some ws)) g.value) g.rest
  pub named : is_name (read_name v (Some ws)) ≡ true
  pub few : g.value ≤ 255

pub register-read : (v : Version) (ws : List Word) (g : Got Word) → read_register v (Some ws) ≡ Some g → Declares v ws g
unfolding read_register read_name register_words
register-read Two ws g e =
    let n = named (taken qreg (Some ws)) in
    let s = steps (read_size n) _ g e in
    let f = found-parts s.first.value (taken (mark 59) (Some s.first.rest)) g s.behind in
    let d = size_back n s.first s.read (taken_back (mark 59) _ (done f.1)) in
    let a = named_back (taken qreg (Some ws)) d.0 in
    record {
      stood = subst (λ v. StandBefore ws (qreg ∷ front_word (taken qreg (Some ws)) ∷ mark 91 ∷ digits v ∷ mark 93 ∷ mark 59 ∷ []) g.rest) f.0 (stood (taken_back qreg (Some ws) a.0));
      named = a.1;
      few = omega (arith, d.1, f.0);
    }
register-read Three ws g e =
    let n = taken qubit (Some ws) in
    let s = steps (read_size n) _ g e in
    let f = found-parts s.first.value (taken (mark 59) (named (Some s.first.rest))) g s.behind in
    let a = named_back (Some s.first.rest) (taken_back (mark 59) _ (done f.1)) in
    let d = size_back n s.first s.read a.0 in
    let w : front_word (Some s.first.rest) ≡ front_word (left_behind (read_size n)) = ap (λ x. front_word (left_behind x)) (sym s.read) in
    record {
      stood = subst (λ v. StandBefore ws (qubit ∷ mark 91 ∷ digits v ∷ mark 93 ∷ front_word (left_behind (read_size n)) ∷ mark 59 ∷ []) g.rest) f.0
          (subst (λ b. StandBefore ws (qubit ∷ mark 91 ∷ digits s.first.value ∷ mark 93 ∷ b ∷ mark 59 ∷ []) g.rest) w (stood (taken_back qubit (Some ws) d.0)));
      named = ap is_name (sym w) ∙ a.1;
      few = omega (arith, d.1, f.0);
    }

-- ---- what stands there is read

register-tag : (v : Version) (name : List ℕ) (n : ℕ) (f : ℕ → ℕ) (bs : List (List ℕ)) → is_name name ≡ true → n ≤ 255
    → read_register v (Some (tag f (register_words v name n ++ bs))) ≡ Some (record { value = n; rest = tag (later 6 f) bs })
unfolding read_register register_words read_size
register-tag Two name n f bs h k = rw (taken-forth, named-forth _ _ name h, taken-forth, number_word _ _ 255 n k, taken-forth, taken-forth)
register-tag Three name n f bs h k = rw (taken-forth, taken-forth, number_word _ _ 255 n k, taken-forth, named-forth _ _ name h, taken-forth)

name-tag : (v : Version) (name : List ℕ) (n : ℕ) (f : ℕ → ℕ) (bs : List (List ℕ)) → n ≤ 255 → read_name v (Some (tag f (register_words v name n ++ bs))) ≡ name
unfolding read_name register_words read_size front_word
name-tag Two name n f bs k = rw taken-forth
name-tag Three name n f bs k = rw (taken-forth, taken-forth, number_word _ _ 255 n k, taken-forth)

-- another version's first statement
version-other : (v u : Version) (f : ℕ → ℕ) (bs : List (List ℕ)) → same (numeral v) (numeral u) ≡ false → read_version u (Some (tag f (version_words v ++ bs))) ≡ None
unfolding read_version version_words taken
version-other v u f bs e = rw (taken-forth, e)

module _ (ws t : List Word) where
  abbrev places : ℕ → ℕ
  places = places_of (ws ++ t)

  -- t is all that can be left
  left : (k : ℕ) (bs : List (List ℕ)) → StandBefore (ws ++ t) bs (tag (later k places) (bodies t)) → t ≡ tag (later k places) (bodies t)
  left k bs s = same-behind ws s.words t (tag (later k places) (bodies t)) s.same (sym (tag-length (later k places) (bodies t) ∙ bodies-length t))

  module _ (v : Version) where
    pub version-on : bodies ws ≡ version_words v → read_version v (Some (ws ++ t)) ≡ Some t
    unfolding read_version version_words
    version-on e =
        let g : read_version v (Some (ws ++ t)) ≡ Some (tag (later 3 places) (bodies t)) = ap (λ l. read_version v (Some l)) (tagged ws t (version_words v) e) ∙ rw (taken-forth, taken-forth, taken-forth) in
        g ∙ ap Some (sym (left 3 (version_words v) (version-read v (ws ++ t) _ g)))

    pub include-on : bodies ws ≡ include_words v → read_include v (Some (ws ++ t)) ≡ Some t
    unfolding read_include include_words
    include-on e =
        let g : read_include v (Some (ws ++ t)) ≡ Some (tag (later 3 places) (bodies t)) = ap (λ l. read_include v (Some l)) (tagged ws t (include_words v) e) ∙ rw (taken-forth, taken-forth, taken-forth) in
        g ∙ ap Some (sym (left 3 (include_words v) (include-read v (ws ++ t) _ g)))

    module _ (name : List ℕ) (n : ℕ) (h : is_name name ≡ true) (k : n ≤ 255) (e : bodies ws ≡ register_words v name n) where
      pub name-on : read_name v (Some (ws ++ t)) ≡ name
      name-on = ap (λ l. read_name v (Some l)) (tagged ws t (register_words v name n) e) ∙ name-tag v name n places (bodies t) k

      pub register-on : read_register v (Some (ws ++ t)) ≡ Some (record { value = n; rest = t })
      register-on =
          let r : Got Word = record { value = n; rest = tag (later 6 places) (bodies t) } in
          let g : read_register v (Some (ws ++ t)) ≡ Some r = ap (λ l. read_register v (Some l)) (tagged ws t (register_words v name n) e) ∙ register-tag v name n places (bodies t) h k in
          g ∙ ap (λ x. Some (record { value = n; rest = x })) (sym (left 6 _ (register-read v (ws ++ t) r g).stood))

-- ---- the two versions apart

heads-apart : (v u : Version) → same (numeral v) (numeral u) ≡ false → (ws t : List Word) → read_version v (Some ws) ≡ Some t → read_version u (Some ws) ≡ None
heads-apart v u d ws t e =
    let s = version-read v ws t e in
    ap (λ l. read_version u (Some l)) (s.same ∙ tagged s.words t (version_words v) s.spelt) ∙ version-other v u (places_of (s.words ++ t)) (bodies t) d

-- a text whose first statement is that of 2.0 is not one of 3.0
pub version-apart : (ws t : List Word) → read_version Two (Some ws) ≡ Some t → read_version Three (Some ws) ≡ None
unfolding same
version-apart = heads-apart Two Three refl

-- nor the other way round
pub version-apart-back : (ws t : List Word) → read_version Three (Some ws) ≡ Some t → read_version Two (Some ws) ≡ None
unfolding same
version-apart-back = heads-apart Three Two refl
