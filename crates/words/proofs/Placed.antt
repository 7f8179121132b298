-- Each word of a text stands at its place: where it begins, as many bytes are left as it says. Assumes nothing.
use mathlib.Core.Path.{◌≡◌, refl, sym, ap, ◌∙◌, subst}
use mathlib.Core.Bool.{Bool, true, false}
use mathlib.Core.List.{List, [], ◌∷◌, ◌++◌, append_assoc}
use Prim.Native.Nat.{ℕ, ◌+◌, ◌-◌}
use native.Mathlib.Omega.{arith}
use lib.Dec.{eqb}
use lib.ListN.{length, take, length-append}
use lib.Seq.{take-append_seam}
use Rattle.sets.specs.Pick.{pick}
use Rattle.words.specs.Bytes.{blank, goes_on, slashes, line_behind}
use Rattle.words.specs.Words.{Word, Mode, gap, note, run, lex, words}
use Rattle.words.specs.Places.{StandsIn}
use Rattle.words.proofs.Steps.{gap_is, note-is, run_is}

-- every word of a list
abbrev Every : (Word → Type 0) → List Word → Type 0
Every P [] = Unit {0}
Every P (w ∷ ws) = P w × Every P ws

-- what of a word stands before the next byte
abbrev pending : Mode → List ℕ
pending gap = []
pending note = []
pending (run f w) = w

all-stood : (t : List ℕ) (m : Mode) (front s : List ℕ) → t ≡ front ++ (pending m ++ s) → Every (StandsIn t) (lex m s)
unfolding lex
all-stood t gap front [] e = tt
all-stood t note front [] e = tt
all-stood t (run f w) front [] e = (record { front = front; rest = []; same = e; left = sym (length-append w []) }, tt)
all-stood t gap front (x ∷ s) e = rw gap_is (go (blank x) (all-stood t gap (front ++ (x ∷ [])) s) (all-stood t (run x (x ∷ [])) front s))
  where
    go : (b : Bool) → (t ≡ (front ++ (x ∷ [])) ++ ([] ++ s) → Every (StandsIn t) (lex gap s)) → (t ≡ front ++ ((x ∷ []) ++ s) → Every (StandsIn t) (lex (run x (x ∷ [])) s)) → Every (StandsIn t) (lex (pick b gap (run x (x ∷ []))) s)
    go true a b = a (e ∙ sym (append_assoc front (x ∷ []) s))
    go false a b = b e
all-stood t note front (x ∷ s) e = rw note-is (go (eqb x 10) (all-stood t gap (front ++ (x ∷ [])) s) (all-stood t note (front ++ (x ∷ [])) s))
  where
    go : (b : Bool) → (t ≡ (front ++ (x ∷ [])) ++ ([] ++ s) → Every (StandsIn t) (lex gap s)) → (t ≡ (front ++ (x ∷ [])) ++ ([] ++ s) → Every (StandsIn t) (lex note s)) → Every (StandsIn t) (lex (pick b gap note) s)
    go true a b = a (e ∙ sym (append_assoc front (x ∷ []) s))
    go false a b = b (e ∙ sym (append_assoc front (x ∷ []) s))
all-stood t (run f w) front (x ∷ s) e =
    rw run_is (go (goes_on f x) (slashes f x) (blank x)
    (all-stood t (run f (w ++ (x ∷ []))) front s) (all-stood t note ((front ++ w) ++ (x ∷ [])) s) (all-stood t gap ((front ++ w) ++ (x ∷ [])) s) (all-stood t (run x (x ∷ [])) (front ++ w) s))
  where
    on : t ≡ front ++ ((w ++ (x ∷ [])) ++ s)
    on = e ∙ ap (λ l. front ++ l) (sym (append_assoc w (x ∷ []) s))

    over : t ≡ ((front ++ w) ++ (x ∷ [])) ++ ([] ++ s)
    over = e ∙ sym (append_assoc front w (x ∷ s)) ∙ sym (append_assoc (front ++ w) (x ∷ []) s)

    go : (a b c : Bool) → (t ≡ front ++ ((w ++ (x ∷ [])) ++ s) → Every (StandsIn t) (lex (run f (w ++ (x ∷ []))) s))
        → (t ≡ ((front ++ w) ++ (x ∷ [])) ++ ([] ++ s) → Every (StandsIn t) (lex note s)) → (t ≡ ((front ++ w) ++ (x ∷ [])) ++ ([] ++ s) → Every (StandsIn t) (lex gap s))
        → (t ≡ (front ++ w) ++ ((x ∷ []) ++ s) → Every (StandsIn t) (lex (run x (x ∷ [])) s))
        → Every (StandsIn t) (pick a [] (pick b [] (record { bytes = w; left = length w + length (x ∷ s) } ∷ [])) ++ lex (pick a (run f (w ++ (x ∷ []))) (pick b note (pick c gap (run x (x ∷ []))))) s)
    go true b c p q r u = p on
    go false true c p q r u = q over
    go false false true p q r u = (record { front = front; rest = x ∷ s; same = e; left = sym (length-append w (x ∷ s)) }, r over)
    go false false false p q r u = (record { front = front; rest = x ∷ s; same = e; left = sym (length-append w (x ∷ s)) }, u (e ∙ sym (append_assoc front w (x ∷ s))))

one_of : (P : Word → Type 0) (before : List Word) (w : Word) (behind : List Word) → Every P (before ++ (w ∷ behind)) → P w
one_of P [] w behind a = a.0
one_of P (x ∷ before) w behind a = one_of P before w behind a.1

-- THEOREM: a word of a text stands in it, at its place ..
pub word-stood : (s : List ℕ) (before : List Word) (w : Word) (behind : List Word) → words s ≡ before ++ (w ∷ behind) → StandsIn s w
word-stood s before w behind e = one_of (StandsIn s) before w behind (subst (Every (StandsIn s)) e (all-stood s gap [] s refl))

-- .. so that its line is that behind all that stands before it
pub word_line : (s : List ℕ) (w : Word) (p : StandsIn s w) → line_behind (take (length s - w.left) s) ≡ line_behind p.front
word_line s w p =
    let l : length s - w.left ≡ length p.front = omega (arith, ap length p.same, length-append p.front (w.bytes ++ p.rest), p.left) in
    ap line_behind (ap (λ k. take k s) l ∙ ap (take (length p.front)) p.same ∙ take-append_seam p.front (w.bytes ++ p.rest))
