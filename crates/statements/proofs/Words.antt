-- Words with their places: where words stand that are spelt so, a statement is read, and what stands behind them is left. Assumes nothing.
use Rattle.std.specs.Prelude.{Some}
use mathlib.Core.Path.{◌≡◌, refl, sym, ap, ◌∙◌}
use mathlib.Core.List.{List, [], ◌∷◌, ◌++◌, map}
use Prim.Native.Nat.{ℕ, suc}
use native.Mathlib.Omega.{arith}
use lib.ListN.{length, get_or, length-append}
use Rattle.words.specs.Words.{Word, bodies}
use Rattle.versions.specs.declared.Version.{Version}
use Rattle.statements.specs.Statements.{Said, read_gate}
use Rattle.statements.specs.Forms.{Form, GoodForm, form_words, form_record, form_phase}
use Rattle.statements.proofs.Forth.{tag, tag-bodies, after_form, gate-forth}
use Rattle.statements.proofs.Back.{gate-said-back}

pub bodies-length : (ws : List Word) → length (bodies ws) ≡ length ws
bodies-length [] = refl
bodies-length (w ∷ ws) = ap suc (bodies-length ws)

pub bodies-append : (ws ts : List Word) → bodies (ws ++ ts) ≡ bodies ws ++ bodies ts
bodies-append [] ts = refl
bodies-append (w ∷ ws) ts = ap (λ l. w.bytes ∷ l) (bodies-append ws ts)

-- the words of a list whose bytes come in two parts
pub record TwoParts (xs bs : List (List ℕ)) (ws : List Word) : Type 0 where
  pub front : List Word
  pub back : List Word
  pub same : ws ≡ front ++ back
  pub front_spelt : bodies front ≡ xs
  pub back_spelt : bodies back ≡ bs

pub before : (xs bs : List (List ℕ)) (ws : List Word) → bodies ws ≡ xs ++ bs → TwoParts xs bs ws
before [] bs ws e = record { front = []; back = ws; same = refl; front_spelt = refl; back_spelt = e }
before (x ∷ xs) bs [] e = let z : ◌≡◌ {A = ℕ} 0 (suc (length (xs ++ bs))) = ap length e in absurd (omega arith)
before (x ∷ xs) bs (w ∷ ws) e =
    let q : bodies ws ≡ xs ++ bs = cc e in
    let p : w.bytes ≡ x = cc e in
    let r = before xs bs ws q in
    record { front = w ∷ r.front; back = r.back; same = ap (λ l. w ∷ l) r.same; front_spelt = ap (λ b. b ∷ bodies r.front) p ∙ ap (λ l. x ∷ l) r.front_spelt; back_spelt = r.back_spelt }

-- what stands behind is determined by its length
pub same-behind : (a b t u : List Word) → a ++ t ≡ b ++ u → length t ≡ length u → t ≡ u
same-behind [] [] t u e l = e
same-behind [] (x ∷ b) t u e l = absurd (omega (arith, ap length e, length-append (x ∷ b) u))
same-behind (x ∷ a) [] t u e l = absurd (omega (arith, ap length e, length-append (x ∷ a) t))
same-behind (x ∷ a) (y ∷ b) t u e l = let q : a ++ t ≡ b ++ u = cc e in same-behind a b t u q l

pub tag-length : (f : ℕ → ℕ) (bs : List (List ℕ)) → length (tag f bs) ≡ length bs
tag-length f [] = refl
tag-length f (b ∷ bs) = ap suc (tag-length (λ i. f (suc i)) bs)

abbrev pub places_of : List Word → ℕ → ℕ
places_of ws i = get_or (map (λ w. w.left) ws) i 0

-- words that are spelt so, as tagged ones
pub tagged : (ws t : List Word) (bs : List (List ℕ)) → bodies ws ≡ bs → ws ++ t ≡ tag (places_of (ws ++ t)) (bs ++ bodies t)
tagged ws t bs e = tag-bodies (ws ++ t) ∙ ap (λ l. tag (places_of (ws ++ t)) l) (bodies-append ws t ∙ ap (λ l. l ++ bodies t) e)

-- THEOREM: where a form stands, what it says is read, and the words behind it are left
pub gate-on : (v : Version) (name : List ℕ) (f : Form) (ws t : List Word) → GoodForm v f → bodies ws ≡ form_words name f
    → read_gate v name (Some (ws ++ t)) ≡ Some (record { records = form_record f; phase = form_phase v f; rest = t })
gate-on v name f ws t h e =
    let u = tag (after_form f (places_of (ws ++ t))) (bodies t) in
    let r : Said = record { records = form_record f; phase = form_phase v f; rest = u } in
    let g : read_gate v name (Some (ws ++ t)) ≡ Some r = ap (λ l. read_gate v name (Some l)) (tagged ws t (form_words name f) e) ∙ gate-forth v name f (places_of (ws ++ t)) (bodies t) h in
    let b = gate-said-back v name (Some (ws ++ t)) {bs = []} {t = u} r g (record { words = []; same = refl; spelt = refl }) in
    let s : ws ++ t ≡ b.leads.words ++ u = cc b.leads.same in
    let l : length t ≡ length u = sym (tag-length _ (bodies t) ∙ bodies-length t) in
    g ∙ ap (λ x. Some (record { records = form_record f; phase = form_phase v f; rest = x })) (sym (same-behind ws b.leads.words t u s l))
