-- Striking off, column by column and qubit by qubit, as the loops go. Assumes nothing.
use mathlib.Core.Path.{◌≡◌, refl, sym, ap, ◌∙◌}
use mathlib.Core.Bool.{Bool, true, false}
use mathlib.Core.List.{List, [], ◌∷◌}
use Prim.Native.Nat.{ℕ, suc, ◌+◌, ◌-◌, ◌≤◌, ◌<◌}
use lib.Dec.{eqb}
use lib.ListN.{length, get_or, set, get_or-eq_default}
use borrow.Author.Tests.{eq-eqb, ne_eqb}
use Rattle.sets.specs.Pick.{pick, both}
use Rattle.sets.specs.Size.{single_of, lowest_of}
use Rattle.sets.proofs.Ones.{ones_of_zero}
use Rattle.gates.specs.declared.gate.Gate.TheVariants.{Rotation}
use Rattle.emitting.specs.Emit.{emit, emit_at}
use Rattle.columns.specs.Pieces.{piece, idle, followed_by, held, wrote}
use Rattle.columns.specs.Striking.{lone_at, strike_one, strike_row, strike_from}
use Rattle.columns.proofs.Piecing.{wrote_none, wrote_on, held-is}
use Rattle.sets.proofs.Finding.{sub-suc, sub-none}

pub single-zero : single_of 0 ≡ false
unfolding single_of
single-zero = ap (λ (n : ℕ). eqb n 1) ones_of_zero

module _ (q : ℕ) (angles : List ℕ) (k : ℕ) (xs : List ℕ) where
  pub strike-yes : lone_at q (get_or xs k 0) ≡ true → strike_one q angles k xs ≡ piece (set xs k 0) (Rotation q (get_or angles k 0) ∷ [])
  unfolding strike_one
  strike-yes e = ap (λ (b : Bool). pick b (piece (set xs k 0) (Rotation q (get_or angles k 0) ∷ [])) (idle xs)) e

  pub strike-no : lone_at q (get_or xs k 0) ≡ false → strike_one q angles k xs ≡ idle xs
  unfolding strike_one
  strike-no e = ap (λ (b : Bool). pick b (piece (set xs k 0) (Rotation q (get_or angles k 0) ∷ [])) (idle xs)) e

pub lone-yes : (q x : ℕ) → single_of x ≡ true → lowest_of x ≡ q → lone_at q x ≡ true
unfolding lone_at
lone-yes q x e h = rw (e, eq-eqb (lowest_of x) q h)

pub lone-other : (q x : ℕ) → (lowest_of x ≡ q → ⊥) → lone_at q x ≡ false
unfolding lone_at
lone-other q x h = rw (ne_eqb (lowest_of x) q h) (go (single_of x))
  where
    go : (b : Bool) → both b false ≡ false
    go true = refl
    go false = refl

pub lone-many : (q x : ℕ) → single_of x ≡ false → lone_at q x ≡ false
unfolding lone_at
lone-many q x e = rw e

-- ---- one column, as the code leaves it

module _ (q : ℕ) (angles : List ℕ) (k : ℕ) (xs out : List ℕ) (at : ℕ) where
  pub struck : {out' : List ℕ} {a v : ℕ} → lone_at q (get_or xs k 0) ≡ true → v ≡ get_or angles k 0 → out' ≡ emit out at (Rotation q v ∷ []) → a ≡ emit_at out at (Rotation q v ∷ [])
      → held (set xs k 0) out' a ≡ wrote out at (strike_one q angles k xs)
  unfolding wrote
  struck e ev eo ea =
      held-is refl (eo ∙ ap (λ (w : ℕ). emit out at (Rotation q w ∷ [])) ev) (ea ∙ ap (λ (w : ℕ). emit_at out at (Rotation q w ∷ [])) ev)
      ∙ ap (wrote out at) (sym (strike-yes q angles k xs e))

  pub not-struck : lone_at q (get_or xs k 0) ≡ false → held xs out at ≡ wrote out at (strike_one q angles k xs)
  not-struck e = wrote_none out at xs ∙ ap (wrote out at) (sym (strike-no q angles k xs e))

  pub past-struck : length xs ≤ k → held xs out at ≡ wrote out at (strike_one q angles k xs)
  past-struck h = not-struck (ap (lone_at q) (get_or-eq_default xs 0 h) ∙ lone-many q 0 single-zero)

-- ---- the loops

module _ (q : ℕ) (angles : List ℕ) where
  row_step : (d k : ℕ) (xs : List ℕ) → strike_row (suc d) k q angles xs ≡ followed_by (strike_one q angles k xs) (λ ys. strike_row d (k + 1) q angles ys)
  unfolding strike_row
  row_step d k xs = refl

  pub row_next : (n k : ℕ) (xs out : List ℕ) (at : ℕ) (ys out' : List ℕ) (a : ℕ) → k < n → held ys out' a ≡ wrote out at (strike_one q angles k xs)
      → wrote out' a (strike_row (n - (k + 1)) (k + 1) q angles ys) ≡ wrote out at (strike_row (n - k) k q angles xs)
  row_next n k xs out at ys out' a h e =
      wrote_on out at (strike_one q angles k xs) (λ ys. strike_row (n - (k + 1)) (k + 1) q angles ys) e refl
      ∙ ap (wrote out at) (sym (row_step (n - (k + 1)) k xs) ∙ ap (λ (d : ℕ). strike_row d k q angles xs) (sym (sub-suc n k h)))

  pub row-end : (n k : ℕ) (xs out : List ℕ) (at : ℕ) → n ≤ k → held xs out at ≡ wrote out at (strike_row (n - k) k q angles xs)
  unfolding strike_row
  row-end n k xs out at h = wrote_none out at xs ∙ ap (λ (d : ℕ). wrote out at (strike_row d k q angles xs)) (sym (sub-none n k h))

module _ (angles : List ℕ) where
  pub from_step : (d q : ℕ) (xs : List ℕ) → strike_from (suc d) q angles xs ≡ followed_by (strike_row (length xs) 0 q angles xs) (λ ys. strike_from d (q + 1) angles ys)
  unfolding strike_from
  from_step d q xs = refl

  pub from_next : (n q : ℕ) (xs out : List ℕ) (at : ℕ) (ys out' : List ℕ) (a : ℕ) → q < n → held ys out' a ≡ wrote out at (strike_row (length xs) 0 q angles xs)
      → wrote out' a (strike_from (n - (q + 1)) (q + 1) angles ys) ≡ wrote out at (strike_from (n - q) q angles xs)
  from_next n q xs out at ys out' a h e =
      wrote_on out at (strike_row (length xs) 0 q angles xs) (λ ys. strike_from (n - (q + 1)) (q + 1) angles ys) e refl
      ∙ ap (wrote out at) (sym (from_step (n - (q + 1)) q xs) ∙ ap (λ (d : ℕ). strike_from d q angles xs) (sym (sub-suc n q h)))

  pub from_end : (n q : ℕ) (xs out : List ℕ) (at : ℕ) → n ≤ q → held xs out at ≡ wrote out at (strike_from (n - q) q angles xs)
  unfolding strike_from
  from_end n q xs out at h = wrote_none out at xs ∙ ap (λ (d : ℕ). wrote out at (strike_from d q angles xs)) (sym (sub-none n q h))
