-- The choice of a qubit: worth descending, qubits ascending, and what the qubit found is. Assumes nothing.
use mathlib.Core.Path.{◌≡◌, refl, ap, ◌∙◌}
use mathlib.Core.Bool.{Bool, true, false}
use mathlib.Core.List.{List}
use Prim.Native.Nat.{ℕ, suc, ◌+◌, ◌-◌, ◌≤◌, ◌<◌}
use native.Mathlib.Omega.{arith}
use lib.Dec.{eqb, ltb}
use lib.ListN.{get_or}
use borrow.Author.Tests.{lt-ltb, le-ltb, eq-eqb, ne_eqb}
use Rattle.sets.specs.Pick.{pick, both}
use Rattle.sets.specs.Search.{first_of}
use Rattle.sets.proofs.Finding.{first-all, first-here, first_next, first-end}
use Rattle.steps.specs.Choice.{worth_at, best_of}

module _ (may : List Bool) (worth : List ℕ) where
  -- what the inner search looks for
  unfoldable pub fits : ℕ → ℕ → Bool
  fits w q = both (get_or may q false) (eqb (get_or worth q 0) w)

  pub worth-all : (w : ℕ) → first_of (fits w) (20 - 0) 0 ≡ worth_at may worth w
  unfolding worth_at fits
  worth-all w = first-all (fits w) 20

  pub worth-here : (w q : ℕ) → q < 20 → get_or may q false ≡ true → get_or worth q 0 ≡ w → first_of (fits w) (20 - q) q ≡ q
  unfolding fits
  worth-here w q l e h = first-here (fits w) 20 q l (rw (e, eq-eqb (get_or worth q 0) w h))

  pub worth-not : (w q : ℕ) → q < 20 → get_or may q false ≡ false → first_of (fits w) (20 - q) q ≡ first_of (fits w) (20 - (q + 1)) (q + 1)
  unfolding fits
  worth-not w q l e = first_next (fits w) 20 q l (rw e)

  pub worth-other : (w q : ℕ) → q < 20 → get_or may q false ≡ true → (get_or worth q 0 ≡ w → ⊥) → first_of (fits w) (20 - q) q ≡ first_of (fits w) (20 - (q + 1)) (q + 1)
  unfolding fits
  worth-other w q l e h = first_next (fits w) 20 q l (rw (e, ne_eqb (get_or worth q 0) w h))

  pub worth-end : (w q : ℕ) → 20 ≤ q → first_of (fits w) (20 - q) q ≡ q
  worth-end w q h = first-end (fits w) 20 q h

  best-step : (w : ℕ) → best_of may worth (suc w) ≡ pick (ltb (worth_at may worth w) 20) (worth_at may worth w) (best_of may worth w)
  unfolding best_of
  best-step w = refl

  pub best-hit : (w v q : ℕ) → w ≡ suc v → worth_at may worth v ≡ q → q < 20 → best_of may worth w ≡ q
  best-hit w v q ew e l =
      ap (best_of may worth) ew ∙ best-step v
      ∙ ap (λ (b : Bool). pick b (worth_at may worth v) (best_of may worth v)) (lt-ltb (worth_at may worth v) 20 (omega arith)) ∙ e

  pub best-miss : (w v : ℕ) → w ≡ suc v → 20 ≤ worth_at may worth v → best_of may worth w ≡ best_of may worth v
  best-miss w v ew l =
      ap (best_of may worth) ew ∙ best-step v ∙ ap (λ (b : Bool). pick b (worth_at may worth v) (best_of may worth v)) (le-ltb (worth_at may worth v) 20 l)

  pub best-end : (w : ℕ) → w ≤ 0 → best_of may worth w ≡ 20
  unfolding best_of
  best-end w h = let e : w ≡ 0 = omega arith in ap (best_of may worth) e

  -- the inner search ended without a qubit
  pub best_none : (w v q : ℕ) → w ≡ suc v → 20 ≤ q → first_of (fits v) (20 - q) q ≡ worth_at may worth v → best_of may worth w ≡ best_of may worth v
  best_none w v q ew l e = best-miss w v ew (omega (arith, e, worth-end v q l))

pub best-same : {may may' : List Bool} {worth worth' : List ℕ} {n n' : ℕ} → may ≡ may' → worth ≡ worth' → n ≡ n' → best_of may worth (n + 1) ≡ best_of may' worth' (n' + 1)
best-same em ew en = cc
