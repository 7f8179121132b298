-- The qubit that a search finds may be taken; none that may be taken is worth more, and none lower is worth as much. Assumes nothing.
use mathlib.Core.Path.{◌≡◌, refl, sym, ◌∙◌, subst}
use mathlib.Core.Bool.{Bool, true, false}
use mathlib.Core.List.{List}
use Prim.Native.Nat.{ℕ, zero, suc, ◌≤◌, ◌<◌}
use native.Mathlib.Omega.{arith}
use native.Mathlib.Decide.{ℕ_discrete}
use lib.Dec.{eqb, ltb}
use lib.ListN.{get_or}
use borrow.Author.Tests.{ltb-true, ltb-false, eq-eqb, eqb-true}
use Rattle.sets.specs.Pick.{both}
use Rattle.sets.specs.Search.{first_of}
use Rattle.sets.proofs.Finding.{first-true, first-before}
use Rattle.steps.specs.Choice.{worth_at, best_of}
use Rattle.steps.proofs.Choosing.{best-hit, best-miss}
use Rattle.sets.proofs.Deciding.{never, both_true}

module _ (may : List Bool) (worth : List ℕ) where
  -- what the search at worth w finds
  worth-found : (w : ℕ) → worth_at may worth w < 20 → (get_or may (worth_at may worth w) false ≡ true) × (get_or worth (worth_at may worth w) 0 ≡ w)
  unfolding worth_at
  worth-found w l =
      let f : ℕ → Bool = λ q. both (get_or may q false) (eqb (get_or worth q 0) w) in
      let r = both_true _ _ (first-true f 20 0 l) in
      (r.0, eqb-true (get_or worth (first_of f 20 0) 0) w r.1)

  -- a qubit that may be taken and is worth w is not passed over
  worth-passed : (w q : ℕ) → q < 20 → get_or may q false ≡ true → get_or worth q 0 ≡ w → worth_at may worth w ≤ q
  unfolding worth_at
  worth-passed w q l m e = go (ltb q (first_of f 20 0)) refl
    where
      f : ℕ → Bool
      f i = both (get_or may i false) (eqb (get_or worth i 0) w)

      yes-here : f q ≡ true
      yes-here = rw (m, eq-eqb (get_or worth q 0) w e)

      go : (b : Bool) → ltb q (first_of f 20 0) ≡ b → first_of f 20 0 ≤ q
      go true h = absurd (never yes-here (first-before f 20 0 q (omega arith) (ltb-true q (first_of f 20 0) h)))
      go false h = ltb-false q (first_of f 20 0) h

  -- what the best of those below worth w is
  pub record IsBest (w r : ℕ) : Type 0 where
    pub below : r < 20
    pub taken : get_or may r false ≡ true
    pub most : (q : ℕ) → q < 20 → get_or may q false ≡ true → get_or worth q 0 < w → get_or worth q 0 ≤ get_or worth r 0
    pub lowest : (q : ℕ) → q < 20 → get_or may q false ≡ true → get_or worth q 0 ≡ get_or worth r 0 → r ≤ q

  pub best-is : (w q : ℕ) → q < 20 → get_or may q false ≡ true → get_or worth q 0 < w → IsBest w (best_of may worth w)
  best-is zero q l m h = absurd (omega arith)
  best-is (suc w) q l m h = go (ltb (worth_at may worth w) 20) refl (best-is w q l m)
    where
      v : ℕ
      v = worth_at may worth w

      go : (b : Bool) → ltb (worth_at may worth w) 20 ≡ b → (get_or worth q 0 < w → IsBest w (best_of may worth w)) → IsBest (suc w) (best_of may worth (suc w))
      go true e ih =
          let l20 : v < 20 = ltb-true v 20 e in
          let f = worth-found w l20 in
          subst (IsBest (suc w)) (sym (best-hit may worth (suc w) w v refl refl l20))
          (record {
            below = l20;
            taken = f.0;
            most = λ j (a : j < 20) b (c : get_or worth j 0 < suc w). omega (arith, f.1);
            lowest = λ j a b c. worth-passed w j a b (c ∙ f.1);
          })
      go false e ih =
          let far : 20 ≤ v = ltb-false v 20 e in
          let under : (j : ℕ) → j < 20 → get_or may j false ≡ true → get_or worth j 0 < suc w → get_or worth j 0 < w =
          λ j (a : j < 20) b (c : get_or worth j 0 < suc w). lower j a b c (ℕ_discrete (get_or worth j 0) w) far in
          let r = ih (under q l m h) in
          subst (IsBest (suc w)) (sym (best-miss may worth (suc w) w refl far))
          (record { below = r.below; taken = r.taken; most = λ j a b c. r.most j a b (under j a b c); lowest = r.lowest })
        where
          lower : (j : ℕ) → j < 20 → get_or may j false ≡ true → get_or worth j 0 < suc w → Dec (get_or worth j 0 ≡ w) → 20 ≤ v → get_or worth j 0 < w
          lower j a b c (yes d) f = absurd (omega (arith, worth-passed w j a b d))
          lower j a b c (no d) f = omega arith
