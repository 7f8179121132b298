-- The words that are found in a text are those that stand in it. Assumes nothing.
use mathlib.Core.Path.{◌≡◌, refl, sym, ap, ◌∙◌, subst}
use mathlib.Core.Bool.{Bool, true, false}
use mathlib.Core.List.{List, [], ◌∷◌, ◌++◌, append_assoc, append-nil}
use Prim.Native.Nat.{ℕ, ◌<◌}
use native.Mathlib.Omega.{arith}
use lib.Dec.{eqb}
use borrow.Author.Tests.{eqb-true, eqb-false, ne_eqb}
use Rattle.sets.specs.Lists.{All}
use Rattle.reading.specs.Misfit.{NoLf}
use Rattle.words.specs.Bytes.{blank, small, in_name, in_word, goes_on, slashes, AllOn}
use Rattle.words.specs.Words.{gap, note, run, after, ended, lex, words, bodies}
use Rattle.sets.proofs.Deciding.{both_true}
use Rattle.words.proofs.Steps.{run_on, run-stop, gap_is, note-is, run_is}
use Rattle.qasm_reading.specs.Standing.{Gap, empty, space, comment, Parted, Stands, last, last_comment, next}
use Rattle.words.proofs.Forth.{word-forth}

-- ---- what stands there is found

note-past : (c r : List ℕ) → NoLf c → lex note (c ++ r) ≡ lex note r
unfolding All
note-past [] r h = refl
note-past (x ∷ c) r h = rw (note-is, ne_eqb x 10 h.0) (note-past c r h.1)

note-done : (r : List ℕ) → lex note (10 ∷ r) ≡ words r
note-done r = note-is 10 r

note-opens : (r : List ℕ) → words (47 ∷ 47 ∷ r) ≡ lex note r
unfolding lex after ended blank goes_on in_word in_name small slashes
note-opens r = refl

gap-words : {g : List ℕ} (t : List ℕ) → Gap g → words (g ++ t) ≡ words t
gap-words t empty = refl
gap-words t (space {x} {g} b h) = rw (gap_is, b) (gap-words t h)
gap-words t (comment c g n h e) =
    ap (λ l. words (l ++ t)) e ∙ note-opens _ ∙ ap (lex note) (append_assoc c (10 ∷ g) t) ∙ note-past c (10 ∷ (g ++ t)) n ∙ note-done (g ++ t) ∙ gap-words t h

note-none : (c : List ℕ) → NoLf c → lex note c ≡ []
unfolding lex
note-none c h = ap (lex note) (sym (append-nil c)) ∙ note-past c [] h

pub stands-words : {s : List ℕ} {bs : List (List ℕ)} → Stands s bs → bodies (words s) ≡ bs
unfolding lex
stands-words (last {s} h) = ap (λ l. bodies l) (ap (λ l. words l) (sym (append-nil s)) ∙ gap-words [] h)
stands-words (last_comment g c h n e) = ap (λ l. bodies l) (ap (λ l. words l) e ∙ gap-words _ h ∙ note-opens c ∙ note-none c n)
stands-words (next g x xs t h b a p l e) =
    ap (λ l. bodies l) (ap (λ l. words l) e ∙ gap-words _ h) ∙ word-forth x xs t b a (record { stop = p.stop; clear = p.clear }) ∙ ap (λ l. (x ∷ xs) ∷ l) (stands-words l)

-- ---- what is found stands there

gap-append : {g h : List ℕ} → Gap g → Gap h → Gap (g ++ h)
gap-append empty k = k
gap-append (space b j) k = space b (gap-append j k)
gap-append {h = h} (comment c g n j e) k = comment c (g ++ h) n (gap-append j k) (ap (λ l. l ++ h) e ∙ ap (λ l. 47 ∷ 47 ∷ l) (append_assoc c (10 ∷ g) h))

-- before words that stand there, blanks and comments change nothing
gap-stands : (g : List ℕ) {r : List ℕ} {bs : List (List ℕ)} → Gap g → Stands r bs → Stands (g ++ r) bs
gap-stands g k (last h) = last (gap-append k h)
gap-stands g k (last_comment h c j n e) = last_comment (g ++ h) c (gap-append k j) n (ap (λ l. g ++ l) e ∙ sym (append_assoc g h _))
gap-stands g k (next h x xs t j b a p l e) = next (g ++ h) x xs t (gap-append k j) b a p l (ap (λ l. g ++ l) e ∙ sym (append_assoc g h _))

-- in a comment
data InNote : List ℕ → List (List ℕ) → Type 0 where
  to_end : {s : List ℕ} → NoLf s → InNote s []
  to_lf : {s : List ℕ} {bs : List (List ℕ)} (c r : List ℕ) → NoLf c → Stands r bs → s ≡ c ++ (10 ∷ r) → InNote s bs

-- in a word that begins with f, of which w stands before
data InRun (f : ℕ) (w s : List ℕ) : Type 0 where
  goes : (xs r : List ℕ) (bs : List (List ℕ)) → AllOn f xs → Parted f r → Stands r bs → s ≡ xs ++ r → bodies (lex (run f w) s) ≡ (w ++ xs) ∷ bs → InRun f w s
  turns : (r : List ℕ) (bs : List (List ℕ)) → f ≡ 47 → s ≡ 47 ∷ r → InNote r bs → bodies (lex (run f w) s) ≡ bs → InRun f w s

note-stands : (r : List ℕ) {bs : List (List ℕ)} → InNote r bs → Stands (47 ∷ 47 ∷ r) bs
note-stands r (to_end n) = last_comment [] r empty n refl
note-stands r {bs} (to_lf c t n l e) =
    subst (λ s. Stands s bs) (ap (λ l. 47 ∷ 47 ∷ l) (append_assoc c (10 ∷ []) t ∙ sym e)) (gap-stands (47 ∷ 47 ∷ (c ++ (10 ∷ []))) (comment c [] n empty refl) l)

record InEach (s : List ℕ) : Type 0 where
  in_gap : Stands s (bodies (lex gap s))
  in_note : InNote s (bodies (lex note s))
  in_run : (f : ℕ) (w : List ℕ) → InRun f w s

gap-next : (x : ℕ) (s : List ℕ) → InEach s → Stands (x ∷ s) (bodies (lex gap (x ∷ s)))
gap-next x s ih = go (blank x) refl (ih.in_run x (x ∷ []))
  where
    go : (t : Bool) → blank x ≡ t → InRun x (x ∷ []) s → Stands (x ∷ s) (bodies (lex gap (x ∷ s)))
    go true b r = rw (gap_is, b) (gap-stands (x ∷ []) (space b empty) ih.in_gap)
    go false b (goes xs r bs a p l e q) = rw (gap_is, b, q) (next [] x xs r empty b a p l (ap (λ l. x ∷ l) e))
    go false b (turns r bs f e n q) =
        rw (gap_is, b, q) (subst (λ l. Stands l bs) (sym (ap (λ y. y ∷ s) f ∙ ap (λ l. 47 ∷ l) e)) (note-stands r n))

note-next : (x : ℕ) (s : List ℕ) → InEach s → InNote (x ∷ s) (bodies (lex note (x ∷ s)))
unfolding All
note-next x s ih = go (eqb x 10) refl ih.in_note
  where
    put : {bs : List (List ℕ)} → (x ≡ 10 → ⊥) → InNote s bs → InNote (x ∷ s) bs
    put h (to_end n) = to_end {s = x ∷ s} (h, n)
    put h (to_lf c r n l e) = to_lf (x ∷ c) r (h, n) l (ap (λ l. x ∷ l) e)

    go : (t : Bool) → eqb x 10 ≡ t → InNote s (bodies (lex note s)) → InNote (x ∷ s) (bodies (lex note (x ∷ s)))
    go true b n = rw (note-is, b) (to_lf [] s tt ih.in_gap (ap (λ y. y ∷ s) (eqb-true x 10 b)))
    go false b n = rw (note-is, b) (put (eqb-false x 10 b) n)

never-slash : (f x : ℕ) {B : Type 0} → f ≡ 47 → goes_on f x ≡ true → B
unfolding goes_on in_word in_name small
never-slash f x e p =
    let q : goes_on 47 x ≡ true = ap (λ k. goes_on k x) (sym e) ∙ p in
    let z : ◌≡◌ {A = ℕ} 0 1 = cc q in absurd (omega arith)

run-next : (x : ℕ) (s : List ℕ) → InEach s → (f : ℕ) (w : List ℕ) → InRun f w (x ∷ s)
unfolding slashes All
run-next x s ih f w = go (goes_on f x) (slashes f x) refl refl (ih.in_run f (w ++ (x ∷ [])))
  where
    go : (t u : Bool) → goes_on f x ≡ t → slashes f x ≡ u → InRun f (w ++ (x ∷ [])) s → InRun f w (x ∷ s)
    go true u p q (goes xs r bs a k l e h) =
        goes (x ∷ xs) r bs (p, a) k l (ap (λ l. x ∷ l) e) (ap (λ l. bodies l) (run_on f x w s p) ∙ h ∙ ap (λ l. l ∷ bs) (append_assoc w (x ∷ []) xs))
    go true u p q (turns r bs k e n h) = never-slash f x k p
    go false true p q r =
        let b = both_true (eqb f 47) (eqb x 47) q in
        turns s (bodies (lex note s)) (eqb-true f 47 b.0) (ap (λ y. y ∷ s) (eqb-true x 47 b.1)) ih.in_note (rw (run_is, p, q))
    go false false p q r =
        goes [] (x ∷ s) (bodies (lex gap (x ∷ s))) tt (record { stop = λ _. p; clear = λ _. q }) (gap-next x s ih) refl
        (ap (λ l. bodies l) (run-stop f w (x ∷ s) (record { stop = λ _. p; clear = λ _. q })) ∙ ap (λ l. l ∷ bodies (lex gap (x ∷ s))) (sym (append-nil w)))

all : (s : List ℕ) → InEach s
unfolding lex All
all [] = record {
  in_gap = last empty;
  in_note = to_end tt;
  in_run = λ f w. goes [] [] [] tt (record { stop = λ (h : 0 < 0). absurd (omega arith); clear = λ (h : 0 < 0). absurd (omega arith) }) (last empty) refl (ap (λ l. l ∷ []) (sym (append-nil w)));
}
all (x ∷ s) = let ih = all s in record { in_gap = gap-next x s ih; in_note = note-next x s ih; in_run = run-next x s ih }

-- THEOREM: the words that are found in a text stand in it, and (stands-words) no other list of words does
pub words-stand : (s : List ℕ) → Stands s (bodies (words s))
words-stand s = (all s).in_gap
