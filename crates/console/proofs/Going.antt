-- The parts are written one behind another, and their shares of the common phase are added one by one. Assumes nothing.
use Rattle.std.proofs.Common.{◌≡◌, refl, ℕ, zero, suc, ◌+◌, ◌≤◌, ◌<◌, List, [], ◌++◌, Option, sym, ap, ap₂, ◌∙◌, subst, append-nil, append_assoc, arith, length}
use Rattle.std.specs.Io.KnownBytes.{Appends}
use Rattle.std.proofs.KnownBytes.{Appends-nil, Appends-trans}
use Rattle.circuit.specs.Phase.{phases}
use Rattle.circuit.proofs.Phases.{phases-again}
use Rattle.console.specs.Parts.{part_text, next_part, share_part, parts_from, phase_from}
use Rattle.console.proofs.Partly.{past_next, past-share, parts-past, next-later}

module _ (n : ℕ) (xs ys : List ℕ) where
  -- above the number of gates nothing more is added to the common phase
  pub phase-past : (f k g : ℕ) → length ys < k → phases (phase_from n xs ys f k g) 0 ≡ phases g 0
  unfolding phase_from
  phase-past zero k g l = refl
  phase-past (suc f) k g l =
      ap₂ (λ (i j : ℕ). phases (phase_from n xs ys f i (phases g j)) 0) (sym (past_next n xs ys k l)) (sym (past-share n xs ys k l)) ∙ phase-past f k (phases g 0) l ∙ phases-again g 0

module _ (text : List ℕ → List ℕ) (n : ℕ) (xs ys : List ℕ) (k₀ g₀ : ℕ) (old : Option (List ℕ)) where
  -- all parts from k₀ on, and the common phase, which was g₀ before them
  abbrev all : List ℕ
  all = parts_from text n xs ys (length ys + 1) k₀

  abbrev whole : ℕ
  whole = phase_from n xs ys (length ys + 1) k₀ g₀

  -- some are written, and g is the common phase so far; those from k on are left, which are at most as many as gates and one
  abbrev pub Going : Option (List ℕ) → ℕ → ℕ → Type 0
  Going now k g = (f : ℕ) × (length ys + 1 ≤ f + k) × ((said : List ℕ) × Appends old now said × (said ++ parts_from text n xs ys f k ≡ all)) × (phase_from n xs ys f k g ≡ whole)

  pub going-none : Going old k₀ g₀
  going-none = (length ys + 1, omega arith, ([], Appends-nil old, refl), refl)

  -- a part is written, and its share added
  pub going-on : (now now' : Option (List ℕ)) (k g i h : ℕ) → Going now k g → k ≤ length ys → Appends now now' (part_text text n xs ys k) → i ≡ next_part n ys k → h ≡ phases g (share_part n xs ys k) → Going now' i h
  unfolding parts_from phase_from
  going-on now now' k g i h w l a e d = go w.0 w.1 w.2 w.3
    where
      go : (f : ℕ) → length ys + 1 ≤ f + k → (said : List ℕ) × Appends old now said × (said ++ parts_from text n xs ys f k ≡ all) → phase_from n xs ys f k g ≡ whole → Going now' i h
      go zero b p q = absurd (omega (arith, b, l))
      go (suc f) b p q = (
        f,
        omega (arith, b, next-later n ys k (length ys) i refl l e),
        (
          p.0 ++ part_text text n xs ys k,
          Appends-trans old now now' p.0 (part_text text n xs ys k) p.1 a,
          append_assoc p.0 (part_text text n xs ys k) (parts_from text n xs ys f i) ∙ ap (λ (j : ℕ). p.0 ++ (part_text text n xs ys k ++ parts_from text n xs ys f j)) e ∙ p.2,
        ),
        ap₂ (λ (j c : ℕ). phase_from n xs ys f j c) e d ∙ q,
      )

  -- all parts are written ..
  pub going-written : (now : Option (List ℕ)) (k g : ℕ) → Going now k g → length ys < k → Appends old now all
  going-written now k g w l =
      let p = w.2 in
      subst (Appends old now) (sym (append-nil p.0) ∙ ap (λ (x : List ℕ). p.0 ++ x) (sym (parts-past text n xs ys w.0 k l)) ∙ p.2) p.1

  -- .. and all shares are added
  pub going-added : (now : Option (List ℕ)) (k g : ℕ) → Going now k g → length ys < k → phases g 0 ≡ phases whole 0
  going-added now k g w l = sym (phase-past n xs ys w.0 k g l) ∙ ap (λ (h : ℕ). phases h 0) w.3
