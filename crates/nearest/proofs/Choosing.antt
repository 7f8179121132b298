-- The nearest column, as the loops find it. Assumes nothing.
use mathlib.Core.Path.{◌≡◌, refl, sym, ap, ◌∙◌}
use mathlib.Core.Bool.{Bool, true, false}
use mathlib.Core.List.{List}
use Prim.Native.Nat.{ℕ, suc, ◌+◌, ◌-◌, ◌≤◌, ◌<◌, min}
use native.Mathlib.Omega.{arith}
use lib.ListN.{length, get_or}
use lib.Dec.{ltb}
use borrow.Author.Tests.{lt-ltb, le-ltb, ltb-true, ltb-false}
use Rattle.std.specs.Prelude.{Some, None}
use Rattle.sets.specs.Pick.{pick}
use Rattle.sets.specs.Bit.{has}
use Rattle.gathering.specs.Gather.{gather_of}
use Rattle.nearest.specs.Choice.{choice, far, found, nearer, gathered, tried_at, over_qubits, over_columns, chosen}
use Rattle.nearest.specs.declared.choice.Choice.{Choice}

-- ---- one qubit

module _ (near : List ℕ) (Q k x v : ℕ) (b : Choice) where
  pub tried-not : has x v ≡ false → b ≡ tried_at near Q k x v b
  unfolding tried_at
  tried-not e = sym (ap (λ (t : Bool). pick t (nearer b (gathered near Q k x v)) b) e)

  tried-in : has x v ≡ true → tried_at near Q k x v b ≡ nearer b (gathered near Q k x v)
  unfolding tried_at
  tried-in e = ap (λ (t : Bool). pick t (nearer b (gathered near Q k x v)) b) e

  pub tried-nearer : (n : ℕ) → has x v ≡ true → n ≡ min b.moves (length (gather_of near Q v x)) → n < b.moves → choice k v n ≡ tried_at near Q k x v b
  unfolding nearer gathered
  tried-nearer n e m h =
      let same : n ≡ length (gather_of near Q v x) = omega arith in
      ap (choice k v) same
      ∙ sym (ap (λ (t : Bool). pick t (choice k v (length (gather_of near Q v x))) b) (lt-ltb (length (gather_of near Q v x)) b.moves (omega arith)))
      ∙ sym (tried-in e)

  pub tried-farther : (n : ℕ) → has x v ≡ true → n ≡ min b.moves (length (gather_of near Q v x)) → b.moves ≤ n → b ≡ tried_at near Q k x v b
  unfolding nearer gathered
  tried-farther n e m h =
      sym (ap (λ (t : Bool). pick t (choice k v (length (gather_of near Q v x))) b) (le-ltb (length (gather_of near Q v x)) b.moves (omega arith)))
      ∙ sym (tried-in e)

-- ---- whether there is one

pub found-some : (c d : Choice) → c ≡ d → c.moves < far → Some c ≡ found d
found-some c d e l = ap Some e ∙ sym (ap (λ (b : Bool). pick b (Some d) None) (lt-ltb d.moves far (omega (arith, ap (λ (c : Choice). c.moves) e))))

pub found-none : (c d : Choice) → c ≡ d → far ≤ c.moves → None ≡ found d
found-none c d e l = sym (ap (λ (b : Bool). pick b (Some d) None) (le-ltb d.moves far (omega (arith, ap (λ (c : Choice). c.moves) e))))

pub some-found : (c d : Choice) → Some c ≡ found d → (c ≡ d) × (c.moves < far)
some-found c d e = go (ltb d.moves far) refl e
  where
    go : (b : Bool) → ltb d.moves far ≡ b → Some c ≡ pick b (Some d) None → (c ≡ d) × (c.moves < far)
    go true t h = let s : c ≡ d = cc in (s, omega (arith, ltb-true d.moves far t, ap (λ (c : Choice). c.moves) s))
    go false t h = cc

pub none-found : (d : Choice) → None ≡ found d → far ≤ d.moves
none-found d e = go (ltb d.moves far) refl e
  where
    go : (b : Bool) → ltb d.moves far ≡ b → None ≡ pick b (Some d) None → far ≤ d.moves
    go true t h = cc
    go false t h = ltb-false d.moves far t

-- ---- the loops

module _ (near : List ℕ) (Q k x : ℕ) where
  pub qubits-step : (d v : ℕ) (b : Choice) → over_qubits near Q k x (suc d) v b ≡ over_qubits near Q k x d (v + 1) (tried_at near Q k x v b)
  unfolding over_qubits
  qubits-step d v b = refl

  pub qubits-none : (v : ℕ) (b : Choice) → over_qubits near Q k x 0 v b ≡ b
  unfolding over_qubits
  qubits-none v b = refl

  pub qubits-next : (n v : ℕ) (b c : Choice) → v < n → c ≡ tried_at near Q k x v b → over_qubits near Q k x (n - (v + 1)) (v + 1) c ≡ over_qubits near Q k x (n - v) v b
  qubits-next n v b c h e =
      let z : suc (n - (v + 1)) ≡ n - v = omega arith in
      ap (over_qubits near Q k x (n - (v + 1)) (v + 1)) e ∙ sym (qubits-step (n - (v + 1)) v b) ∙ ap (λ (d : ℕ). over_qubits near Q k x d v b) z

  pub qubits-end : (n v : ℕ) (b : Choice) → n ≤ v → b ≡ over_qubits near Q k x (n - v) v b
  qubits-end n v b h =
      let z : 0 ≡ n - v = omega arith in
      sym (qubits-none v b) ∙ ap (λ (d : ℕ). over_qubits near Q k x d v b) z

module _ (near : List ℕ) (Q : ℕ) (xs : List ℕ) where
  pub columns-step : (d k : ℕ) (b : Choice) → over_columns near Q xs (suc d) k b ≡ over_columns near Q xs d (k + 1) (over_qubits near Q k (get_or xs k 0) 20 0 b)
  unfolding over_columns
  columns-step d k b = refl

  pub columns-none : (k : ℕ) (b : Choice) → over_columns near Q xs 0 k b ≡ b
  unfolding over_columns
  columns-none k b = refl

  pub columns-start : over_columns near Q xs (length xs - 0) 0 (choice 0 0 far) ≡ chosen near Q xs
  unfolding chosen
  columns-start =
      let z : length xs - 0 ≡ length xs = omega arith in
      ap (λ (d : ℕ). over_columns near Q xs d 0 (choice 0 0 far)) z

  pub columns-next : (n k : ℕ) (b c : Choice) → k < n → c ≡ over_qubits near Q k (get_or xs k 0) 20 0 b → over_columns near Q xs (n - (k + 1)) (k + 1) c ≡ over_columns near Q xs (n - k) k b
  columns-next n k b c h e =
      let z : suc (n - (k + 1)) ≡ n - k = omega arith in
      ap (over_columns near Q xs (n - (k + 1)) (k + 1)) e ∙ sym (columns-step (n - (k + 1)) k b) ∙ ap (λ (d : ℕ). over_columns near Q xs d k b) z

  pub columns-end : (n k : ℕ) (b : Choice) → n ≤ k → b ≡ over_columns near Q xs (n - k) k b
  columns-end n k b h =
      let z : 0 ≡ n - k = omega arith in
      sym (columns-none k b) ∙ ap (λ (d : ℕ). over_columns near Q xs d k b) z
