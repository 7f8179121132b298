-- The entry point: the terms placed as columns, the rounds behind them, and its answer. Assumes nothing.
use mathlib.Core.Path.{◌≡◌, refl, sym, ap, ◌∙◌, subst}
use mathlib.Core.Bool.{Bool}
use mathlib.Core.List.{List}
use Prim.Native.Nat.{ℕ, zero, suc, ◌≤◌, ◌<◌}
use native.Mathlib.Omega.{arith}
use lib.Dec.{ltb}
use borrow.Author.Tests.{lt-ltb, le-ltb}
use Rattle.sets.specs.Pick.{pick}
use Rattle.columns.specs.Pieces.{idle, followed_by, Memory, held, wrote}
use Rattle.columns.specs.Striking.{strike_off}
use Rattle.columns.proofs.Piecing.{wrote_on, wrote_none}
use Rattle.nearest.specs.Choice.{chosen, far, found}
use Rattle.nearest.specs.Nearest.{gather_next, rounds, nearest_for}
use Rattle.std.specs.Prelude.{Some, None}
use Rattle.nearest.specs.declared.choice.Choice.{Choice}
use Rattle.nearest.proofs.Choosing.{some-found, none-found}

-- ---- the rounds

module _ (near angles : List ℕ) (Q : ℕ) where
  pub rounds-none : (xs : List ℕ) → rounds 0 near angles Q xs ≡ idle xs
  unfolding rounds
  rounds-none xs = refl

  rounds-step : (n : ℕ) (xs : List ℕ) → rounds (suc n) near angles Q xs
      ≡ pick (ltb (chosen near Q xs).moves far) (followed_by (gather_next near angles Q (chosen near Q xs).column (chosen near Q xs).qubit xs) (λ ys. rounds n near angles Q ys)) (idle xs)
  unfolding rounds
  rounds-step n xs = refl

  pub rounds-more : (n : ℕ) (xs : List ℕ) → (chosen near Q xs).moves < far → rounds (suc n) near angles Q xs
      ≡ followed_by (gather_next near angles Q (chosen near Q xs).column (chosen near Q xs).qubit xs) (λ ys. rounds n near angles Q ys)
  rounds-more n xs h =
      rounds-step n xs
      ∙ ap (λ (b : Bool). pick b (followed_by (gather_next near angles Q (chosen near Q xs).column (chosen near Q xs).qubit xs) (λ ys. rounds n near angles Q ys)) (idle xs)) (lt-ltb (chosen near Q xs).moves far h)

  pub rounds-over : (n : ℕ) (xs : List ℕ) → far ≤ (chosen near Q xs).moves → rounds n near angles Q xs ≡ idle xs
  rounds-over zero xs h = rounds-none xs
  rounds-over (suc n) xs h =
      rounds-step n xs
      ∙ ap (λ (b : Bool). pick b (followed_by (gather_next near angles Q (chosen near Q xs).column (chosen near Q xs).qubit xs) (λ ys. rounds n near angles Q ys)) (idle xs)) (le-ltb (chosen near Q xs).moves far h)

  -- the loop, with n rounds left
  pub round-next : (n j : ℕ) (xs out : List ℕ) (at : ℕ) (c : Choice) (ys out' : List ℕ) (a : ℕ) → suc j ≡ n → Some c ≡ found (chosen near Q xs)
      → held ys out' a ≡ wrote out at (gather_next near angles Q c.column c.qubit xs)
      → wrote out' a (rounds j near angles Q ys) ≡ wrote out at (rounds n near angles Q xs)
  round-next n j xs out at c ys out' a l e f =
      wrote_on out at (gather_next near angles Q b.column b.qubit xs) (λ ys. rounds j near angles Q ys)
      (f ∙ ap (λ (c : Choice). wrote out at (gather_next near angles Q c.column c.qubit xs)) s.0) refl
      ∙ ap (wrote out at) (sym (rounds-more j xs (subst (λ (c : Choice). c.moves < far) s.0 s.1)) ∙ ap (λ (d : ℕ). rounds d near angles Q xs) l)
    where
      b : Choice
      b = chosen near Q xs

      s : (c ≡ b) × (c.moves < far)
      s = some-found c b e

  pub round-over : (n : ℕ) (xs out : List ℕ) (at : ℕ) → None ≡ found (chosen near Q xs) → held xs out at ≡ wrote out at (rounds n near angles Q xs)
  round-over n xs out at e = wrote_none out at xs ∙ ap (wrote out at) (sym (rounds-over n xs (none-found (chosen near Q xs) e)))

  pub round-end : (n : ℕ) (xs out : List ℕ) (at : ℕ) → n ≤ 0 → held xs out at ≡ wrote out at (rounds n near angles Q xs)
  round-end n xs out at h =
      let z : 0 ≡ n = omega arith in
      wrote_none out at xs ∙ ap (wrote out at) (sym (rounds-none xs) ∙ ap (λ (d : ℕ). rounds d near angles Q xs) z)

-- ---- the answer

module _ (near : List ℕ) (Q : ℕ) (ps angles out : List ℕ) (at : ℕ) where
  pub entry-wrote : {ys o : List ℕ} {a : ℕ} {w : Memory} → held ys o a ≡ wrote out at (strike_off angles ps) → w ≡ wrote o a (rounds 256 near angles Q ys)
      → w ≡ wrote out at (nearest_for near Q ps angles)
  unfolding nearest_for
  entry-wrote {ys} {o} {a} e h = wrote_on out at (strike_off angles ps) (λ xs. rounds 256 near angles Q xs) e h
