-- What the reader finds is so: a circuit's text, or the first statement that cannot continue one. Assumes nothing.
use Rattle.std.specs.Prelude.{Option, None, Some}
use mathlib.Core.Path.{◌≡◌, refl, sym, ap, ap₂, ◌∙◌, subst}
use mathlib.Core.Logic.{inl, inr}
use mathlib.Core.Bool.{Bool, true, false}
use mathlib.Core.List.{List, [], ◌∷◌, ◌++◌, append_assoc, append-nil}
use Prim.Native.Nat.{ℕ, zero, suc, ◌≤◌}
use native.Mathlib.Omega.{arith}
use lib.ListN.{length, length-append}
use Rattle.sets.specs.Pick.{pick}
use Rattle.spots.proofs.Numbers.{never-some}
use Rattle.words.specs.Words.{Word, words, bodies}
use Rattle.spots.specs.Numbers.{Got}
use Rattle.versions.specs.declared.Version.{Version}
use Rattle.versions.specs.declared.Version.TheVariants.{Two, Three}
use Rattle.statements.specs.Statements.{read_version, read_include, read_name, read_register, read_gate, has_end, bad_angle}
use Rattle.statements.specs.Spelling.{numeral}
use Rattle.statements.specs.Forms.{Form, form_words, forms_words, version_words, include_words, register_words, head_words, form_records, phase_of_forms}
use Rattle.statements.proofs.Words.{bodies-append, before, gate-on}
use Rattle.statements.proofs.Heads.{version-read, include-read, register-read, version-on, include-on, register-on}
use Rattle.statements.proofs.OtherAngles.{ended-not, unended-no, bad-back}
use Rattle.qasm_reading.specs.Parsing.{ParsedCircuit, circuit, angle, statement, early, unversioned, head_fault, end_circuit, statement_run, behind_register, registered, included, versioned, parsed_words, parsed_circuit}
use Rattle.words.specs.Bytes.{line_at}
use Rattle.qasm_reading.specs.Texts.{CircuitText, WithoutVersion, Seen, Early, version_line, both_lines, second, third, gate, Fault, WrongAngle, WrongStatement, here, cut, short}
use Rattle.qasm_reading.proofs.Runs.{statement-run-whole}
use Rattle.qasm_reading.proofs.Faults.{Stuck, angle-parsed, register-long}

-- ---- how long a beginning is tells how far it goes, and its second word its version

version-long : (v : Version) → length (version_words v) ≡ 3
unfolding version_words
version-long v = refl

both_long : (v : Version) → length (version_words v ++ include_words v) ≡ 6
unfolding version_words include_words
both_long v = refl

seen-long : (v : Version) (name : List ℕ) (bs : List (List ℕ)) → Seen v name bs → 12 ≤ length bs
unfolding head_words version_words include_words
seen-long v name bs s = omega (arith, ap length s.spelt, length-append (head_words v name s.qubits) (forms_words name s.forms), register-long v name s.qubits)

abbrev nth : ℕ → List (List ℕ) → List ℕ
nth k [] = []
nth zero (b ∷ bs) = b
nth (suc k) (b ∷ bs) = nth k bs

-- no version's number is the other's
one-version : (v w : Version) → numeral v ≡ numeral w → v ≡ w
one-version Two Two e = refl
one-version Two Three e = let z : ◌≡◌ {A = ℕ} 50 51 = cc e in absurd (omega arith)
one-version Three Two e = let z : ◌≡◌ {A = ℕ} 51 50 = cc e in absurd (omega arith)
one-version Three Three e = refl

version-first : (v w : Version) → version_words v ≡ version_words w → v ≡ w
unfolding version_words
version-first v w e = one-version v w (ap (nth 1) e)

version-both : (v w : Version) → version_words v ++ include_words v ≡ version_words w ++ include_words w → v ≡ w
unfolding version_words
version-both v w e = one-version v w (ap (nth 1) e)

version-seen : (v : Version) (name : List ℕ) (bs : List (List ℕ)) → Seen v name bs → nth 1 bs ≡ numeral v
unfolding head_words version_words
version-seen v name bs s = ap (nth 1) s.spelt

-- where the register's name stands
abbrev name_at : Version → ℕ
name_at Two = 7
name_at Three = 10

name-seen : (v : Version) (name : List ℕ) (bs : List (List ℕ)) → Seen v name bs → nth (name_at v) bs ≡ name
unfolding head_words version_words include_words register_words
name-seen Two name bs s = ap (nth 7) s.spelt
name-seen Three name bs s = ap (nth 10) s.spelt

-- ---- nothing that could stand there does

module _ (bs : List (List ℕ)) (ws : List Word) where
  stuck-second : (v : Version) → bs ≡ version_words v → read_include v (Some ws) ≡ None → Stuck bs ws
  stuck-second v z e st rest (second w b q) p =
      let f = before (include_words w) rest ws (p ∙ ap (λ l. l ++ rest) q) in
      let o : v ≡ w = version-first v w (sym z ∙ b) in
      never-some (sym e ∙ ap (λ u. read_include u (Some ws)) o ∙ ap (λ l. read_include w (Some l)) f.same ∙ include-on f.front f.back w f.front_spelt)
  stuck-second v z e st rest (third w name n b x y q) p = let h = ap length z in let k = ap length b in omega (arith, version-long v, both_long w)
  stuck-second v z e st rest (gate w name f s x q) p = let h = ap length z in omega (arith, version-long v, seen-long w name bs s)

  stuck-third : (v : Version) → bs ≡ version_words v ++ include_words v → read_register v (Some ws) ≡ None → Stuck bs ws
  stuck-third v z e st rest (second w b q) p = let h = ap length z in let k = ap length b in omega (arith, version-long w, both_long v)
  stuck-third v z e st rest (third w name n b x y q) p =
      let f = before (register_words w name n) rest ws (p ∙ ap (λ l. l ++ rest) q) in
      let o : v ≡ w = version-both v w (sym z ∙ b) in
      never-some (sym e ∙ ap (λ u. read_register u (Some ws)) o ∙ ap (λ l. read_register w (Some l)) f.same ∙ register-on f.front f.back w name n x y f.front_spelt)
  stuck-third v z e st rest (gate w name f s x q) p = let h = ap length z in omega (arith, both_long v, seen-long w name bs s)

  -- one register is seen, in one version and under one name
  stuck-gate : (v : Version) (name : List ℕ) → Seen v name bs → read_gate v name (Some ws) ≡ None → Stuck bs ws
  stuck-gate v name s e st rest (second w b q) p = let k = ap length b in omega (arith, version-long w, seen-long v name bs s)
  stuck-gate v name s e st rest (third w other n b x y q) p = let k = ap length b in omega (arith, both_long w, seen-long v name bs s)
  stuck-gate v name s e st rest (gate w other g o x q) p =
      let f = before (form_words other g) rest ws (p ∙ ap (λ l. l ++ rest) q) in
      let u : v ≡ w = one-version v w (sym (version-seen v name bs s) ∙ version-seen w other bs o) in
      let n : name ≡ other = sym (name-seen v name bs s) ∙ ap (λ y. nth (name_at y) bs) u ∙ name-seen w other bs o in
      never-some (sym e ∙ ap₂ (λ y m. read_gate y m (Some ws)) u n ∙ ap (λ l. read_gate w other (Some l)) f.same ∙ gate-on w other g f.front f.back x f.front_spelt)

-- ---- THEOREM: what is found is so

abbrev pub FoundText : List ℕ → ParsedCircuit → Type 0
FoundText s (circuit v n gates g) = CircuitText s v n gates g
FoundText s (angle l) = WrongAngle s (line_at s l)
FoundText s (statement l) = WrongStatement s (line_at s l)
FoundText s early = WrongStatement s 0
FoundText s unversioned = WithoutVersion s

-- where 13 is found, there is no other angle
no-angle : (s : List ℕ) (l : ℕ) → parsed_circuit s ≡ statement l → (j : ℕ) → WrongAngle s j → ⊥
no-angle s l e j w = let z : ◌≡◌ {A = ℕ} 0 1 = cc (sym e ∙ (angle-parsed s j w).0) in omega arith

head-found : (s : List ℕ) (front ws : List Word) → words s ≡ front ++ ws → Early (bodies front) → Stuck (bodies front) ws → parsed_circuit s ≡ head_fault ws → FoundText s (head_fault ws)
unfolding head_fault has_end
head-found s front [] e b stuck p = short (subst (λ l. Early (bodies l)) (sym (e ∙ append-nil front)) b) refl
head-found s front (w ∷ ws) e b stuck p = go (has_end (w ∷ ws)) refl p
  where
    f : Fault s
    f = record { before = front; word = w; behind = ws; split = e; begun = inl b; stuck = stuck }

    go : (t : Bool) → has_end (w ∷ ws) ≡ t → parsed_circuit s ≡ pick t (statement w.left) early → FoundText s (pick t (statement w.left) early)
    go true q p = here f (inr (λ u. let z : ◌≡◌ {A = ℕ} 0 1 = cc (sym (unended-no (w ∷ ws) u) ∙ q) in omega arith)) (no-angle s w.left p) refl
    go false q p = cut f b (ended-not (w ∷ ws) q) refl

end-found : (s : List ℕ) (v : Version) (name : List ℕ) (n : ℕ) (gates : List ℕ) (g : ℕ) (front ws : List Word) (i : Seen v name (bodies front)) → words s ≡ front ++ ws
    → n ≡ i.qubits → gates ≡ form_records i.forms → g ≡ phase_of_forms v i.forms
    → read_gate v name (Some ws) ≡ None → parsed_circuit s ≡ end_circuit v name n gates g ws → FoundText s (end_circuit v name n gates g ws)
unfolding end_circuit
end-found s v name n gates g front [] i e q m o h p = record {
  name = name;
  forms = i.forms;
  named = i.named;
  few = omega (arith, i.few);
  good = i.good;
  meant = m;
  shifted = o;
  spelt = ap (λ l. bodies l) (e ∙ append-nil front) ∙ i.spelt ∙ ap (λ k. head_words v name k ++ forms_words name i.forms) (sym q);
}
end-found s v name n gates g front (w ∷ ws) i e q m o h p = go (bad_angle v name (Some (w ∷ ws))) refl p
  where
    f : Fault s
    f = record { before = front; word = w; behind = ws; split = e; begun = inr (v, name, i); stuck = stuck-gate (bodies front) (w ∷ ws) v name i h }

    go : (t : Bool) → bad_angle v name (Some (w ∷ ws)) ≡ t → parsed_circuit s ≡ pick t (angle w.left) (statement w.left) → FoundText s (pick t (angle w.left) (statement w.left))
    go true b p = record { fault = f; version = v; name = name; seen = i; only = bad-back v name (w ∷ ws) b; place = refl }
    go false b p = here f (inl (v, name, i)) (no-angle s w.left p) refl

two-spelt : (v : Version) (a b : List Word) → bodies a ≡ version_words v → bodies b ≡ include_words v → bodies (a ++ b) ≡ version_words v ++ include_words v
two-spelt v a b p q = bodies-append a b ∙ rw (p, q)

whole-spelt : (v : Version) (a b r g : List Word) (name : List ℕ) (n : ℕ) (fs : List Form) → bodies a ≡ version_words v → bodies b ≡ include_words v → bodies r ≡ register_words v name n
    → bodies g ≡ forms_words name fs → bodies ((a ++ b) ++ (r ++ g)) ≡ head_words v name n ++ forms_words name fs
unfolding head_words
whole-spelt v a b r g name n fs p q c d =
    let e : bodies (r ++ g) ≡ register_words v name n ++ forms_words name fs = bodies-append r g ∙ rw (c, d) in
    bodies-append (a ++ b) (r ++ g) ∙ rw (two-spelt v a b p q, e) (simp append_assoc)

module _ (s : List ℕ) (v : Version) where
  from-third : (a b u : List Word) → words s ≡ a ++ (b ++ u) → bodies a ≡ version_words v → bodies b ≡ include_words v
      → (o : Option (Got Word)) → read_register v (Some u) ≡ o → parsed_circuit s ≡ registered v (read_name v (Some u)) o u
      → FoundText s (registered v (read_name v (Some u)) o u)
  unfolding registered behind_register
  from-third a b u e p q None k y =
      head-found s (a ++ b) u (e ∙ sym (append_assoc a b u)) (both_lines v (two-spelt v a b p q)) (stuck-third (bodies (a ++ b)) u v (two-spelt v a b p q) k) y
  from-third a b u e p q (Some g) k y =
      let name = read_name v (Some u) in
      let t = g.rest in
      let d = register-read v u g k in
      let r = statement-run-whole v name t in
      let front = (a ++ b) ++ (d.stood.words ++ r.words) in
      let w : words s ≡ front ++ (statement_run v name t).left = e ∙ sym (append_assoc a b u) ∙ ap (λ l. (a ++ b) ++ l) (d.stood.same ∙ ap (λ l. d.stood.words ++ l) r.same ∙ sym (append_assoc d.stood.words r.words _)) ∙ sym (append_assoc (a ++ b) _ _) in
      let n : Seen v name (bodies front) = record {
        qubits = g.value;
        forms = r.forms;
        named = d.named;
        few = d.few;
        good = r.good;
        spelt = whole-spelt v a b d.stood.words r.words name g.value r.forms p q d.stood.spelt r.spelt;
      } in
      end-found s v name g.value (statement_run v name t).records (statement_run v name t).phase front (statement_run v name t).left n w refl (sym r.meant) (sym r.shifted) r.stops y

  from_second : (a t : List Word) → words s ≡ a ++ t → bodies a ≡ version_words v → (o : Option (List Word)) → read_include v (Some t) ≡ o → parsed_circuit s ≡ included v o t → FoundText s (included v o t)
  unfolding included
  from_second a t e p None q y = head-found s a t e (version_line v p) (stuck-second (bodies a) t v p q) y
  from_second a t e p (Some u) q y =
      let i = include-read v t u q in
      from-third a i.words u (e ∙ ap (λ l. a ++ l) i.same) p i.spelt (read_register v (Some u)) refl y

  from_first : (t : List Word) → read_version v (Some (words s)) ≡ Some t → parsed_circuit s ≡ included v (read_include v (Some t)) t → FoundText s (included v (read_include v (Some t)) t)
  from_first t q y =
      let a = version-read v (words s) t q in
      from_second a.words t a.same a.spelt (read_include v (Some t)) refl y

-- what is read as a version's statement stands there
no_version : (s : List ℕ) (v : Version) (rest : List (List ℕ)) → read_version v (Some (words s)) ≡ None → bodies (words s) ≡ version_words v ++ rest → ⊥
no_version s v rest e p =
    let f = before (version_words v) rest (words s) p in
    never-some (sym e ∙ ap (λ l. read_version v (Some l)) f.same ∙ version-on f.front f.back v f.front_spelt)

pub found : (s : List ℕ) → FoundText s (parsed_circuit s)
unfolding parsed_circuit parsed_words versioned
found s = go (read_version Two (Some (words s))) (read_version Three (Some (words s))) refl refl refl
  where
    go : (a b : Option (List Word)) → read_version Two (Some (words s)) ≡ a → read_version Three (Some (words s)) ≡ b → parsed_circuit s ≡ versioned a b → FoundText s (versioned a b)
    go (Some t) b p q y = from_first s Two t p y
    go None (Some t) p q y = from_first s Three t q y
    go None None p q y = missing
      where
        missing : WithoutVersion s
        missing Two rest = no_version s Two rest p
        missing Three rest = no_version s Three rest q
