-- The chosen gathering is that of a column left, at one of its qubits, and no other gathering has fewer moves. Assumes nothing.
use mathlib.Core.Path.{◌≡◌, refl, sym, ap, subst}
use mathlib.Core.Logic.{◌⊎◌, inl, inr}
use mathlib.Core.Bool.{Bool, true, false}
use mathlib.Core.List.{List}
use Prim.Native.Nat.{ℕ, zero, suc, ◌+◌, ◌^◌, ◌≤◌, ◌<◌}
use native.Mathlib.Omega.{arith}
use native.Mathlib.Decide.{ℕ_discrete, dec_lt}
use lib.Dec.{ltb}
use lib.ListN.{length, get_or, get_or-eq_default}
use borrow.Author.Tests.{ltb-true, ltb-false}
use Rattle.sets.specs.Pick.{pick}
use Rattle.sets.specs.Bit.{has, In}
use Rattle.sets.specs.Size.{lowest_of}
use Rattle.sets.proofs.Words.{has-true, in-has, lowest-in, lowest-below}
use Rattle.gathering.specs.Gather.{gather_of}
use Rattle.gathering.proofs.GatherWorks.{gather-few}
use Rattle.nearest.specs.Choice.{choice, far, nearer, gathered, tried_at, over_qubits, over_columns, chosen}
use Rattle.nearest.specs.declared.choice.Choice.{Choice}
use Rattle.nearest.proofs.Choosing.{qubits-step, qubits-none, columns-step, columns-none}

module _ (near : List ℕ) (Q : ℕ) where
  -- ---- one qubit

  tried-cases : (k x v : ℕ) (b : Choice) → (tried_at near Q k x v b ≡ b) ⊎ ((has x v ≡ true) × (tried_at near Q k x v b ≡ choice k v (length (gather_of near Q v x))))
  unfolding tried_at nearer gathered
  tried-cases k x v b = go (has x v) (ltb (length (gather_of near Q v x)) b.moves) refl
    where
      go : (h t : Bool) → has x v ≡ h
          → (pick h (pick t (choice k v (length (gather_of near Q v x))) b) b ≡ b) ⊎ ((has x v ≡ true) × (pick h (pick t (choice k v (length (gather_of near Q v x))) b) b ≡ choice k v (length (gather_of near Q v x))))
      go true true e = inr (e, refl)
      go true false e = inl refl
      go false t e = inl refl

  pub tried-le : (k x v : ℕ) (b : Choice) → (tried_at near Q k x v b).moves ≤ b.moves
  unfolding tried_at nearer gathered
  tried-le k x v b = go (has x v) (ltb (length (gather_of near Q v x)) b.moves) refl
    where
      go : (h t : Bool) → ltb (length (gather_of near Q v x)) b.moves ≡ t → (pick h (pick t (choice k v (length (gather_of near Q v x))) b) b).moves ≤ b.moves
      go true true e = omega (arith, ltb-true (length (gather_of near Q v x)) b.moves e)
      go true false e = omega arith
      go false t e = omega arith

  pub tried-hit : (k x v : ℕ) (b : Choice) → has x v ≡ true → (tried_at near Q k x v b).moves ≤ length (gather_of near Q v x)
  unfolding tried_at nearer gathered
  tried-hit k x v b h =
      subst (λ (t : Bool). (pick t (pick (ltb (length (gather_of near Q v x)) b.moves) (choice k v (length (gather_of near Q v x))) b) b).moves ≤ length (gather_of near Q v x)) (sym h)
      (go (ltb (length (gather_of near Q v x)) b.moves) refl)
    where
      go : (t : Bool) → ltb (length (gather_of near Q v x)) b.moves ≡ t → (pick t (choice k v (length (gather_of near Q v x))) b).moves ≤ length (gather_of near Q v x)
      go true e = omega arith
      go false e = omega (arith, ltb-false (length (gather_of near Q v x)) b.moves e)

  -- ---- the qubits of a column

  pub qubits-le : (k x d v : ℕ) (b : Choice) → (over_qubits near Q k x d v b).moves ≤ b.moves
  qubits-le k x zero v b = subst (λ (c : Choice). c.moves ≤ b.moves) (sym (qubits-none near Q k x v b)) (omega arith)
  qubits-le k x (suc d) v b =
      subst (λ (c : Choice). c.moves ≤ b.moves) (sym (qubits-step near Q k x d v b))
      (omega (arith, qubits-le k x d (v + 1) (tried_at near Q k x v b), tried-le k x v b))

  pub qubits-hit : (k x d v : ℕ) (b : Choice) (w : ℕ) → v ≤ w → w < v + d → has x w ≡ true → (over_qubits near Q k x d v b).moves ≤ length (gather_of near Q w x)
  qubits-hit k x zero v b w l h e = absurd (omega arith)
  qubits-hit k x (suc d) v b w l h e =
      subst (λ (c : Choice). c.moves ≤ length (gather_of near Q w x)) (sym (qubits-step near Q k x d v b)) (go (ℕ_discrete v w) (qubits-hit k x d (v + 1) (tried_at near Q k x v b) w))
    where
      go : Dec (v ≡ w) → (v + 1 ≤ w → w < v + 1 + d → has x w ≡ true → (over_qubits near Q k x d (v + 1) (tried_at near Q k x v b)).moves ≤ length (gather_of near Q w x))
          → (over_qubits near Q k x d (v + 1) (tried_at near Q k x v b)).moves ≤ length (gather_of near Q w x)
      go (yes i) ih =
          omega (arith, qubits-le k x d (v + 1) (tried_at near Q k x v b), tried-hit k x v b (subst (λ (j : ℕ). has x j ≡ true) (sym i) e), ap (λ (j : ℕ). length (gather_of near Q j x)) i)
      go (no ne) ih = ih (omega arith) (omega arith) e

  -- ---- the columns

  columns-le : (xs : List ℕ) (d k : ℕ) (b : Choice) → (over_columns near Q xs d k b).moves ≤ b.moves
  columns-le xs zero k b = subst (λ (c : Choice). c.moves ≤ b.moves) (sym (columns-none near Q xs k b)) (omega arith)
  columns-le xs (suc d) k b =
      subst (λ (c : Choice). c.moves ≤ b.moves) (sym (columns-step near Q xs d k b))
      (omega (arith, columns-le xs d (k + 1) (over_qubits near Q k (get_or xs k 0) 20 0 b), qubits-le k (get_or xs k 0) 20 0 b))

  columns-hit : (xs : List ℕ) (d k : ℕ) (b : Choice) (j w : ℕ) → k ≤ j → j < k + d → w < 20 → has (get_or xs j 0) w ≡ true → (over_columns near Q xs d k b).moves ≤ length (gather_of near Q w (get_or xs j 0))
  columns-hit xs zero k b j w l h m e = absurd (omega arith)
  columns-hit xs (suc d) k b j w l h m e =
      subst (λ (c : Choice). c.moves ≤ length (gather_of near Q w (get_or xs j 0))) (sym (columns-step near Q xs d k b))
      (go (ℕ_discrete k j) (columns-hit xs d (k + 1) next j w))
    where
      next : Choice
      next = over_qubits near Q k (get_or xs k 0) 20 0 b

      go : Dec (k ≡ j) → (k + 1 ≤ j → j < k + 1 + d → w < 20 → has (get_or xs j 0) w ≡ true → (over_columns near Q xs d (k + 1) next).moves ≤ length (gather_of near Q w (get_or xs j 0)))
          → (over_columns near Q xs d (k + 1) next).moves ≤ length (gather_of near Q w (get_or xs j 0))
      go (yes i) ih =
          omega (
            arith,
            columns-le xs d (k + 1) next,
            qubits-hit k (get_or xs k 0) 20 0 b w (omega arith) (omega arith) (subst (λ (i : ℕ). has (get_or xs i 0) w ≡ true) (sym i) e),
            ap (λ (i : ℕ). length (gather_of near Q w (get_or xs i 0))) i,
          )
      go (no ne) ih = ih (omega arith) (omega arith) m e

  -- no gathering of a column at one of its qubits has fewer moves than the chosen one
  pub chosen-least : (xs : List ℕ) (j w : ℕ) → j < length xs → w < 20 → In w (get_or xs j 0) → (chosen near Q xs).moves ≤ length (gather_of near Q w (get_or xs j 0))
  unfolding chosen
  chosen-least xs j w l m h = columns-hit xs (length xs) 0 (choice 0 0 far) j w (omega arith) (omega arith) m (in-has (get_or xs j 0) w h)

  -- ---- what is chosen is one of them

  -- a choice that is not far is the gathering of a column at one of its qubits
  abbrev SoundChoice : List ℕ → Choice → Type 0
  SoundChoice xs c = c.moves < far → In c.qubit (get_or xs c.column 0) × (c.moves ≡ length (gather_of near Q c.qubit (get_or xs c.column 0)))

  tried-sound : (xs : List ℕ) (k v : ℕ) (b : Choice) → SoundChoice xs b → SoundChoice xs (tried_at near Q k (get_or xs k 0) v b)
  tried-sound xs k v b s = go (tried-cases k (get_or xs k 0) v b)
    where
      go : (tried_at near Q k (get_or xs k 0) v b ≡ b) ⊎ ((has (get_or xs k 0) v ≡ true) × (tried_at near Q k (get_or xs k 0) v b ≡ choice k v (length (gather_of near Q v (get_or xs k 0))))) → SoundChoice xs (tried_at near Q k (get_or xs k 0) v b)
      go (inl e) = subst (SoundChoice xs) (sym e) s
      go (inr e) = subst (SoundChoice xs) (sym e.1) (λ m. (has-true (get_or xs k 0) v e.0, refl))

  qubits-sound : (xs : List ℕ) (k d v : ℕ) (b : Choice) → SoundChoice xs b → SoundChoice xs (over_qubits near Q k (get_or xs k 0) d v b)
  qubits-sound xs k zero v b s = subst (SoundChoice xs) (sym (qubits-none near Q k (get_or xs k 0) v b)) s
  qubits-sound xs k (suc d) v b s =
      subst (SoundChoice xs) (sym (qubits-step near Q k (get_or xs k 0) d v b)) (qubits-sound xs k d (v + 1) (tried_at near Q k (get_or xs k 0) v b) (tried-sound xs k v b s))

  columns-sound : (xs : List ℕ) (d k : ℕ) (b : Choice) → SoundChoice xs b → SoundChoice xs (over_columns near Q xs d k b)
  columns-sound xs zero k b s = subst (SoundChoice xs) (sym (columns-none near Q xs k b)) s
  columns-sound xs (suc d) k b s =
      subst (SoundChoice xs) (sym (columns-step near Q xs d k b)) (columns-sound xs d (k + 1) (over_qubits near Q k (get_or xs k 0) 20 0 b) (qubits-sound xs k 20 0 b s))

  pub chosen-sound : (xs : List ℕ) → (chosen near Q xs).moves < far
      → In (chosen near Q xs).qubit (get_or xs (chosen near Q xs).column 0) × ((chosen near Q xs).moves ≡ length (gather_of near Q (chosen near Q xs).qubit (get_or xs (chosen near Q xs).column 0)))
  unfolding chosen
  chosen-sound xs = columns-sound xs (length xs) 0 (choice 0 0 far) (λ (m : far < far). absurd (omega arith))

  -- where it is far, no column is left
  pub chosen-over : (xs : List ℕ) → ((k : ℕ) → get_or xs k 0 < 2 ^ 20) → far ≤ (chosen near Q xs).moves → (k : ℕ) → get_or xs k 0 ≡ 0
  chosen-over xs low h k = go (ℕ_discrete (get_or xs k 0) 0) (dec_lt k (length xs))
    where
      go : Dec (get_or xs k 0 ≡ 0) → Dec (k < length xs) → get_or xs k 0 ≡ 0
      go (yes e) l = e
      go (no ne) (no l) = absurd (ne (get_or-eq_default xs 0 (omega arith)))
      go (no ne) (yes l) =
          let x : ℕ = get_or xs k 0 in
          absurd (omega (arith, h, chosen-least xs k (lowest_of x) l (lowest-below 20 x (omega arith) (low k) ne) (lowest-in x (omega (arith, low k)) ne), gather-few near Q (lowest_of x) x))
