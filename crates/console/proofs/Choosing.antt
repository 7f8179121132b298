-- A text, unless a verdict refuses; and what is printed is printed under each of its names. Assumes nothing.
use mathlib.Core.Path.{◌≡◌, sym, ap, subst}
use mathlib.Core.Bool.{Bool}
use mathlib.Core.List.{List, [], ◌∷◌}
use Prim.Native.Nat.{ℕ}
use borrow.Author.Tests.{eq-eqb, ne_eqb}
use Rattle.sets.specs.Pick.{pick}
use Rattle.verdicts.specs.Verdicts.{Verdict, number_of}
use Rattle.lines.specs.Lines.{line_text}
use Rattle.console.specs.Printed.{Prints, refusal_of, phase_line, unless}

module _ (v : Verdict) (s : List ℕ) where
  pub unless-passed : number_of v ≡ 0 → s ≡ unless v s
  unfolding unless
  unless-passed e = sym (ap (λ (t : Bool). pick t s (refusal_of v)) (eq-eqb (number_of v) 0 e))

  pub unless-refused : (number_of v ≡ 0 → ⊥) → refusal_of v ≡ unless v s
  unfolding unless
  unless-refused e = sym (ap (λ (t : Bool). pick t s (refusal_of v)) (ne_eqb (number_of v) 0 e))

pub prints-same : {room : ℕ} {s t out out' : List ℕ} {r : ℕ} → s ≡ t → Prints room s out r out' → Prints room t out r out'
prints-same {room = room} {out = out} {out' = out'} {r = r} e p = subst (λ (x : List ℕ). Prints room x out r out') e p

-- a common phase in a line of its own, which it has where it is not 0
module _ (g : ℕ) where
  pub phase-none : g ≡ 0 → [] ≡ phase_line g
  unfolding phase_line
  phase-none e = sym (ap (λ (t : Bool). pick t [] (line_text 112 (g ∷ []))) (eq-eqb g 0 e))

  pub phase-some : (g ≡ 0 → ⊥) → line_text 112 (g ∷ []) ≡ phase_line g
  unfolding phase_line
  phase-some ne = sym (ap (λ (t : Bool). pick t [] (line_text 112 (g ∷ []))) (ne_eqb g 0 ne))
