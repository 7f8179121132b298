-- Whether a statement ends, and whether only its angle is wrong: what the tests say, said of the words. Assumes nothing.
use Rattle.std.specs.Prelude.{Option, None, Some}
use mathlib.Core.Path.{◌≡◌, refl, sym, ap, ◌∙◌}
use mathlib.Core.Bool.{Bool, true, false}
use mathlib.Core.List.{List, [], ◌∷◌, ◌++◌, append_assoc}
use Prim.Native.Nat.{ℕ, suc, ◌≤◌}
use native.Mathlib.Omega.{arith}
use lib.ListN.{length}
use Rattle.sets.specs.Lists.{All}
use Rattle.sets.specs.Pick.{pick, either}
use Rattle.words.specs.Bytes.{same}
use Rattle.words.specs.Words.{Word, bodies}
use Rattle.spots.specs.Numbers.{left_behind}
use Rattle.spots.proofs.Numbers.{steps, found-parts, left-parts}
use Rattle.std.specs.Prelude.{is_some}
use Rattle.words.specs.Taking.{taken}
use Rattle.versions.specs.declared.Version.{Version}
use Rattle.versions.specs.declared.Version.TheVariants.{Two, Three}
use Rattle.statements.specs.Spelling.{mark, u1, rz, gphase}
use Rattle.statements.specs.Statements.{read_qubit, read_tail, read_opening, has_end, read_follow, ends_in, ends_at, bad_newer, bad_angle}
use Rattle.statements.specs.declared.gate.Closing.{Closing}
use Rattle.statements.specs.declared.gate.Closing.TheVariants.{OnQubit, Alone}
use Rattle.statements.specs.Forms.{Rotor, as_u1, as_rz, as_p, Newer, Carried, qubit_words, rotor_word, Unended, Frame, gate, alone, OnlyAngle}
use Rattle.statements.proofs.Taken.{Leads, same_self, same-is, taken_back, taken-forth}
use Rattle.statements.proofs.Forth.{tag, tag-bodies, tail-forth}
use Rattle.statements.proofs.Back.{qubit-back, qubit-most}
use Rattle.statements.proofs.Words.{bodies-append, places_of, before}

no_true : {B : Type 0} → false ≡ true → B
no_true e = let z : ◌≡◌ {A = ℕ} 0 1 = cc e in absurd (omega arith)

same_not : (b c : List ℕ) → (b ≡ c → ⊥) → same b c ≡ false
same_not b c n = go (same b c) refl
  where
    go : (t : Bool) → same b c ≡ t → t ≡ false
    go true e = absurd (n (same-is b c e))
    go false e = refl

either_first : (t u : Bool) → t ≡ true → either t u ≡ true
either_first true u e = refl
either_first false u e = no_true e

either_second : (t u : Bool) → u ≡ true → either t u ≡ true
either_second true u e = refl
either_second false u e = e

-- ---- whether it ends

pub ended-not : (ws : List Word) → has_end ws ≡ false → Unended (bodies ws)
unfolding has_end All
ended-not [] e = tt
ended-not (w ∷ ws) e = go (same w.bytes (mark 59)) refl e (ended-not ws)
  where
    go : (t : Bool) → same w.bytes (mark 59) ≡ t → either t (has_end ws) ≡ false → (has_end ws ≡ false → Unended (bodies ws)) → (w.bytes ≡ mark 59 → ⊥) × Unended (bodies ws)
    go true p e ih = no_true (sym e)
    go false p e ih = ((λ q. no_true (sym p ∙ ap (λ b. same b (mark 59)) q ∙ same_self (mark 59))), ih e)

pub unended-no : (ws : List Word) → Unended (bodies ws) → has_end ws ≡ false
unfolding has_end All
unended-no [] u = refl
unended-no (w ∷ ws) u = rw (same_not w.bytes (mark 59) u.0) (unended-no ws u.1)

-- ---- whether only the angle is wrong

-- what can follow an angle, and whether it does so alone
data ClosesAngle (name : List ℕ) (closing : List (List ℕ)) : Closing → Type 0 where
  on_qubit : (a : ℕ) → a ≤ 255 → closing ≡ mark 41 ∷ (qubit_words name a ++ (mark 59 ∷ [])) → ClosesAngle name closing OnQubit
  without : closing ≡ mark 41 ∷ mark 59 ∷ [] → ClosesAngle name closing Alone

-- behind `(`: anything, and what can follow an angle
record Follows (by : Closing) (name : List ℕ) (bs : List (List ℕ)) : Type 0 where
  angle : List (List ℕ)
  unended : Unended angle
  closing : List (List ℕ)
  closes : ClosesAngle name closing by
  rest : List (List ℕ)
  spelt : bs ≡ angle ++ (closing ++ rest)

-- words that stand in front of t, as bytes
leads-spelt : (ws t : List Word) (bs : List (List ℕ)) → Leads (Some ws) bs t → bodies ws ≡ bs ++ bodies t
leads-spelt ws t bs l =
    let w : ws ≡ l.words ++ t = cc l.same in
    ap (λ x. bodies x) w ∙ bodies-append l.words t ∙ ap (λ x. x ++ bodies t) l.spelt

follow-there : (by : Closing) (name : List ℕ) (ws t : List Word) → read_follow by name (Some ws) ≡ Some t → Follows by name (bodies ws)
unfolding read_follow read_tail All
follow-there Alone name ws t q =
    let l = taken_back (mark 41) (Some ws) (taken_back (mark 59) _ (record { words = []; same = q; spelt = refl })) in
    record { angle = []; unended = tt; closing = mark 41 ∷ mark 59 ∷ []; closes = without refl; rest = bodies t; spelt = leads-spelt ws t _ l }
follow-there OnQubit name ws t q =
    let g = left-parts (read_tail name (Some ws)) t q in
    let p = taken (mark 41) (Some ws) in
    let a = steps (read_qubit name p) _ g.first g.read in
    let f = found-parts a.first.value (taken (mark 59) (Some a.first.rest)) g.first a.behind in
    let l = taken_back (mark 41) (Some ws) (qubit-back name p a.first a.read (taken_back (mark 59) _ (record { words = []; same = f.1 ∙ g.behind; spelt = refl }))) in
    record {
      angle = [];
      unended = tt;
      closing = mark 41 ∷ (qubit_words name a.first.value ++ (mark 59 ∷ []));
      closes = on_qubit a.first.value (qubit-most name p a.first a.read) refl;
      rest = bodies t;
      spelt = leads-spelt ws t _ l;
    }

ends-back : (by : Closing) (name : List ℕ) (ws : List Word) → ends_in by name ws ≡ true → Follows by name (bodies ws)
unfolding ends_in All
ends-back by name [] e = no_true e
ends-back by name (w ∷ ws) e = go (same w.bytes (mark 59)) (read_follow by name (Some (w ∷ ws))) refl refl e (ends-back by name ws)
  where
    go : (t : Bool) (o : Option (List Word)) → same w.bytes (mark 59) ≡ t → read_follow by name (Some (w ∷ ws)) ≡ o → pick t false (either (is_some o) (ends_in by name ws)) ≡ true
        → (ends_in by name ws ≡ true → Follows by name (bodies ws)) → Follows by name (bodies (w ∷ ws))
    go true o p q e ih = no_true e
    go false (Some t) p q e ih = follow-there by name (w ∷ ws) t q
    go false None p q e ih =
        let f = ih e in
        record {
          angle = w.bytes ∷ f.angle;
          unended = ((λ h. no_true (sym p ∙ ap (λ b. same b (mark 59)) h ∙ same_self (mark 59))), f.unended);
          closing = f.closing;
          closes = f.closes;
          rest = f.rest;
          spelt = ap (λ l. w.bytes ∷ l) f.spelt;
        }

bad-at : (v : Version) (by : Closing) (name word : List ℕ) (ws : List Word) → ((closing : List (List ℕ)) → ClosesAngle name closing by → Frame v name (word ∷ mark 40 ∷ []) closing)
    → ends_at by name (read_opening word (Some ws)) ≡ true → OnlyAngle v name (bodies ws)
unfolding ends_at read_opening
bad-at v by name word ws frame e = go (read_opening word (Some ws)) refl e
  where
    go : (o : Option (List Word)) → read_opening word (Some ws) ≡ o → ends_at by name o ≡ true → OnlyAngle v name (bodies ws)
    go None q e = no_true e
    go (Some t) q e =
        let f = ends-back by name t e in
        let l = taken_back word (Some ws) (taken_back (mark 40) _ (record { words = []; same = q; spelt = refl })) in
        record {
          opening = word ∷ mark 40 ∷ [];
          angle = f.angle;
          closing = f.closing;
          frame = frame f.closing f.closes;
          unended = f.unended;
          rest = f.rest;
          spelt = leads-spelt ws t _ l ∙ ap (λ x. word ∷ mark 40 ∷ x) f.spelt;
        }

gate-frame : (v : Version) (name : List ℕ) (r : Rotor) → Carried v r → (closing : List (List ℕ)) → ClosesAngle name closing OnQubit → Frame v name (rotor_word r ∷ mark 40 ∷ []) closing
gate-frame v name r c closing (on_qubit a h e) = gate r a c h refl e

alone-frame : (v : Version) (name : List ℕ) → Newer v → (closing : List (List ℕ)) → ClosesAngle name closing Alone → Frame v name (gphase ∷ mark 40 ∷ []) closing
alone-frame v name n closing (without e) = alone n refl e

newer-bad : (v : Version) (name : List ℕ) (ws : List Word) → bad_newer v name (Some ws) ≡ true → OnlyAngle v name (bodies ws)
unfolding bad_newer Carried Newer
newer-bad Two name ws e = no_true e
newer-bad Three name ws e = go (ends_at OnQubit name (read_opening (mark 112) (Some ws))) refl e
  where
    go : (t : Bool) → ends_at OnQubit name (read_opening (mark 112) (Some ws)) ≡ t → either t (ends_at Alone name (read_opening gphase (Some ws))) ≡ true → OnlyAngle Three name (bodies ws)
    go true p e = bad-at Three OnQubit name (mark 112) ws (gate-frame Three name as_p tt) p
    go false p e = bad-at Three Alone name gphase ws (alone-frame Three name tt) e

pub bad-back : (v : Version) (name : List ℕ) (ws : List Word) → bad_angle v name (Some ws) ≡ true → OnlyAngle v name (bodies ws)
unfolding bad_angle Carried
bad-back v name ws e = go (ends_at OnQubit name (read_opening u1 (Some ws))) (ends_at OnQubit name (read_opening rz (Some ws))) refl refl e
  where
    go : (t u : Bool) → ends_at OnQubit name (read_opening u1 (Some ws)) ≡ t → ends_at OnQubit name (read_opening rz (Some ws)) ≡ u → either t (either u (bad_newer v name (Some ws))) ≡ true → OnlyAngle v name (bodies ws)
    go true u p q e = bad-at v OnQubit name u1 ws (gate-frame v name as_u1 tt) p
    go false true p q e = bad-at v OnQubit name rz ws (gate-frame v name as_rz tt) q
    go false false p q e = newer-bad v name ws e

no-mark : mark 41 ≡ mark 59 → ⊥
no-mark e = let z : ◌≡◌ {A = ℕ} 41 59 = cc e in omega arith

-- what follows begins with `)`
closes-first : (by : Closing) (name : List ℕ) (closing rest : List (List ℕ)) (b : List ℕ) (bs : List (List ℕ)) → ClosesAngle name closing by → b ∷ bs ≡ closing ++ rest → b ≡ mark 41
closes-first OnQubit name closing rest b bs (on_qubit a h q) e = let z : b ∷ bs ≡ (mark 41 ∷ (qubit_words name a ++ (mark 59 ∷ []))) ++ rest = e ∙ ap (λ l. l ++ rest) q in cc z
closes-first Alone name closing rest b bs (without q) e = let z : b ∷ bs ≡ (mark 41 ∷ mark 59 ∷ []) ++ rest = e ∙ ap (λ l. l ++ rest) q in cc z

closes-there : (by : Closing) (name : List ℕ) (closing rest : List (List ℕ)) (f : ℕ → ℕ) → ClosesAngle name closing by → is_some (read_follow by name (Some (tag f (closing ++ rest)))) ≡ true
unfolding read_follow
closes-there OnQubit name closing rest f (on_qubit a h q) =
    let z : closing ++ rest ≡ mark 41 ∷ (qubit_words name a ++ (mark 59 ∷ rest)) = ap (λ l. l ++ rest) q ∙ ap (λ l. mark 41 ∷ l) (append_assoc (qubit_words name a) (mark 59 ∷ []) rest) in
    ap (λ l. is_some (left_behind (read_tail name (Some (tag f l))))) z ∙ ap (λ g. is_some (left_behind g)) (tail-forth name a f rest h)
closes-there Alone name closing rest f (without q) = ap (λ l. is_some (taken (mark 59) (taken (mark 41) (Some (tag f (l ++ rest)))))) q ∙ rw (taken-forth, taken-forth)

ends-here : (by : Closing) (name : List ℕ) (ws : List Word) (closing rest : List (List ℕ)) → ClosesAngle name closing by → bodies ws ≡ closing ++ rest → ends_in by name ws ≡ true
unfolding ends_in
ends-here OnQubit name [] closing rest (on_qubit a h q) e = let z : ◌≡◌ {A = ℕ} 0 (suc (length ((qubit_words name a ++ (mark 59 ∷ [])) ++ rest))) = ap length (e ∙ ap (λ l. l ++ rest) q) in absurd (omega arith)
ends-here Alone name [] closing rest (without q) e = let z : ◌≡◌ {A = ℕ} 0 (suc (length (mark 59 ∷ rest))) = ap length (e ∙ ap (λ l. l ++ rest) q) in absurd (omega arith)
ends-here by name (w ∷ ws) closing rest c e =
    let f = places_of (w ∷ ws) in
    let q : w ∷ ws ≡ tag f (closing ++ rest) = tag-bodies (w ∷ ws) ∙ ap (λ l. tag f l) e in
    let t : is_some (read_follow by name (Some (w ∷ ws))) ≡ true = ap (λ l. is_some (read_follow by name (Some l))) q ∙ closes-there by name closing rest f c in
    rw (t, same_not w.bytes (mark 59) (λ k. no-mark (sym (closes-first by name closing rest w.bytes (bodies ws) c e) ∙ k)))

ends-forth : (by : Closing) (name : List ℕ) (angle : List (List ℕ)) (ws : List Word) (closing rest : List (List ℕ)) → Unended angle → ClosesAngle name closing by
    → bodies ws ≡ angle ++ (closing ++ rest) → ends_in by name ws ≡ true
unfolding ends_in All
ends-forth by name [] ws closing rest u c e = ends-here by name ws closing rest c e
ends-forth by name (b ∷ bs) [] closing rest u c e = let z : ◌≡◌ {A = ℕ} 0 (suc (length (bs ++ (closing ++ rest)))) = ap length e in absurd (omega arith)
ends-forth by name (b ∷ bs) (w ∷ ws) closing rest u c e =
    let p : w.bytes ≡ b = cc e in
    let q : bodies ws ≡ bs ++ (closing ++ rest) = cc e in
    rw (same_not w.bytes (mark 59) (λ k. u.0 (sym p ∙ k))) (either_second (is_some (read_follow by name (Some (w ∷ ws)))) (ends_in by name ws) (ends-forth by name bs ws closing rest u.1 c q))

opening_on : (word : List ℕ) (ws t : List Word) → bodies ws ≡ word ∷ mark 40 ∷ [] → read_opening word (Some (ws ++ t)) ≡ Some t
unfolding read_opening taken
opening_on word [] t e = let z : ◌≡◌ {A = ℕ} 0 2 = ap length e in absurd (omega arith)
opening_on word (a ∷ []) t e = let z : ◌≡◌ {A = ℕ} 1 2 = ap length e in absurd (omega arith)
opening_on word (a ∷ b ∷ []) t e =
    let p : a.bytes ≡ word = cc e in
    let q : b.bytes ≡ mark 40 = cc e in
    rw (p, same_self word, q, same_self (mark 40))
opening_on word (a ∷ b ∷ c ∷ ws) t e = let z : ◌≡◌ {A = ℕ} (suc (suc (suc (length (bodies ws))))) 2 = ap length e in absurd (omega arith)

bad-here : (by : Closing) (name word : List ℕ) (ws : List Word) (angle closing rest : List (List ℕ)) → Unended angle → ClosesAngle name closing by → bodies ws ≡ (word ∷ mark 40 ∷ []) ++ (angle ++ (closing ++ rest))
    → ends_at by name (read_opening word (Some ws)) ≡ true
unfolding ends_at
bad-here by name word ws angle closing rest u c e =
    let b = before (word ∷ mark 40 ∷ []) (angle ++ (closing ++ rest)) ws e in
    let g : read_opening word (Some (b.front ++ b.back)) ≡ Some b.back = opening_on word b.front b.back b.front_spelt in
    ap (λ l. ends_at by name (read_opening word (Some l))) b.same ∙ ap (ends_at by name) g ∙ ends-forth by name angle b.back closing rest u c b.back_spelt

-- what each of the tests says makes the whole test say so
module _ (v : Version) (name : List ℕ) (ws : List Word) where
  abbrev bad-u1 : Bool
  bad-u1 = ends_at OnQubit name (read_opening u1 (Some ws))

  abbrev bad-rz : Bool
  bad-rz = ends_at OnQubit name (read_opening rz (Some ws))

  newer-in : bad_newer v name (Some ws) ≡ true → bad_angle v name (Some ws) ≡ true
  unfolding bad_angle
  newer-in e = either_second bad-u1 _ (either_second bad-rz _ e)

rotor-bad : (v : Version) (r : Rotor) (name : List ℕ) (ws : List Word) → Carried v r → ends_at OnQubit name (read_opening (rotor_word r) (Some ws)) ≡ true → bad_angle v name (Some ws) ≡ true
unfolding bad_angle bad_newer Carried Newer
rotor-bad v as_u1 name ws c e = either_first _ _ e
rotor-bad v as_rz name ws c e = either_second (bad-u1 v name ws) _ (either_first _ (bad_newer v name (Some ws)) e)
rotor-bad Two as_p name ws c e = absurd c
rotor-bad Three as_p name ws c e = newer-in Three name ws (either_first _ (ends_at Alone name (read_opening gphase (Some ws))) e)

alone-bad : (v : Version) (name : List ℕ) (ws : List Word) → Newer v → ends_at Alone name (read_opening gphase (Some ws)) ≡ true → bad_angle v name (Some ws) ≡ true
unfolding bad_newer Newer
alone-bad Two name ws n e = absurd n
alone-bad Three name ws n e = newer-in Three name ws (either_second (ends_at OnQubit name (read_opening (mark 112) (Some ws))) _ e)

frame-bad : (v : Version) (name : List ℕ) (ws : List Word) (opening angle closing rest : List (List ℕ)) → Frame v name opening closing → Unended angle → bodies ws ≡ opening ++ (angle ++ (closing ++ rest)) → bad_angle v name (Some ws) ≡ true
frame-bad v name ws opening angle closing rest (gate r a c h p q) u e = rotor-bad v r name ws c (bad-here OnQubit name (rotor_word r) ws angle closing rest u (on_qubit a h q) (e ∙ ap (λ l. l ++ (angle ++ (closing ++ rest))) p))
frame-bad v name ws opening angle closing rest (alone n p q) u e = alone-bad v name ws n (bad-here Alone name gphase ws angle closing rest u (without q) (e ∙ ap (λ l. l ++ (angle ++ (closing ++ rest))) p))

pub bad-forth : (v : Version) (name : List ℕ) (ws : List Word) → OnlyAngle v name (bodies ws) → bad_angle v name (Some ws) ≡ true
bad-forth v name ws o = frame-bad v name ws o.opening o.angle o.closing o.rest o.frame o.unended o.spelt
