-- "the first in a tie": whatever gathering comes before the chosen one has more moves. Assumes nothing.
use mathlib.Core.Path.{◌≡◌, refl, sym, ap, ◌∙◌, subst}
use mathlib.Core.Logic.{◌⊎◌, inl, inr}
use mathlib.Core.Bool.{Bool, true, false}
use mathlib.Core.List.{List}
use Prim.Native.Nat.{ℕ, zero, suc, ◌+◌, ◌≤◌, ◌<◌}
use native.Mathlib.Omega.{arith}
use native.Mathlib.Decide.{ℕ_discrete}
use lib.Dec.{ltb}
use lib.ListN.{length, get_or}
use borrow.Author.Tests.{ltb-true}
use Rattle.sets.specs.Pick.{pick}
use Rattle.sets.specs.Bit.{has, In}
use Rattle.sets.proofs.Words.{in-has}
use Rattle.gathering.specs.Gather.{gather_of}
use Rattle.nearest.specs.Choice.{choice, far, nearer, gathered, tried_at, over_qubits, over_columns, chosen}
use Rattle.nearest.specs.declared.choice.Choice.{Choice}
use Rattle.nearest.proofs.Choosing.{qubits-step, qubits-none, columns-step, columns-none}
use Rattle.nearest.proofs.Nearness.{tried-le, tried-hit, qubits-le, qubits-hit}

-- column j at its qubit w comes before c: "over the columns in order and the members v of each ascending"
abbrev pub Earlier : ℕ → ℕ → Choice → Type 0
Earlier j w c = (j < c.column) ⊎ ((j ≡ c.column) × (w < c.qubit))

module _ (near : List ℕ) (Q : ℕ) where
  -- ---- one column

  -- r took the place of b, and among the qubits of x from v on none before it does as well
  record FirstQubit (k x v : ℕ) (b r : Choice) : Type 0 where
    less : r.moves < b.moves
    column : r.column ≡ k
    before : (w : ℕ) → v ≤ w → w < r.qubit → has x w ≡ true → r.moves < length (gather_of near Q w x)

  tried-either : (k x v : ℕ) (b : Choice) → (tried_at near Q k x v b ≡ b) ⊎ ((tried_at near Q k x v b ≡ choice k v (length (gather_of near Q v x))) × (length (gather_of near Q v x) < b.moves))
  unfolding tried_at nearer gathered
  tried-either k x v b = go (has x v) (ltb (length (gather_of near Q v x)) b.moves) refl
    where
      go : (h t : Bool) → ltb (length (gather_of near Q v x)) b.moves ≡ t
          → (pick h (pick t (choice k v (length (gather_of near Q v x))) b) b ≡ b) ⊎ ((pick h (pick t (choice k v (length (gather_of near Q v x))) b) b ≡ choice k v (length (gather_of near Q v x))) × (length (gather_of near Q v x) < b.moves))
      go true true e = inr (refl, ltb-true (length (gather_of near Q v x)) b.moves e)
      go true false e = inl refl
      go false t e = inl refl

  qubits-first : (k x d v : ℕ) (b : Choice) → (over_qubits near Q k x d v b ≡ b) ⊎ FirstQubit k x v b (over_qubits near Q k x d v b)
  qubits-first k x zero v b = inl (qubits-none near Q k x v b)
  qubits-first k x (suc d) v b =
      subst (λ (r : Choice). (r ≡ b) ⊎ FirstQubit k x v b r) (sym (qubits-step near Q k x d v b)) (go (tried-either k x v b) (qubits-first k x d (v + 1) c))
    where
      c : Choice
      c = tried_at near Q k x v b

      r : Choice
      r = over_qubits near Q k x d (v + 1) (tried_at near Q k x v b)

      go : (tried_at near Q k x v b ≡ b) ⊎ ((tried_at near Q k x v b ≡ choice k v (length (gather_of near Q v x))) × (length (gather_of near Q v x) < b.moves)) → (r ≡ c) ⊎ FirstQubit k x (v + 1) c r → (r ≡ b) ⊎ FirstQubit k x v b r
      go (inl e) (inl i) = inl (i ∙ e)
      go (inr e) (inl i) =
          inr (subst (FirstQubit k x v b) (sym (i ∙ e.0)) (record { less = e.1; column = refl; before = λ w (l : v ≤ w) (h : w < v) t. absurd (omega arith) }))
      go s (inr f) =
          inr (record {
            less = omega (arith, f.less, tried-le near Q k x v b);
            column = f.column;
            before = λ w l h t. at w l h t (ℕ_discrete v w);
          })
        where
          at : (w : ℕ) → v ≤ w → w < r.qubit → has x w ≡ true → Dec (v ≡ w) → r.moves < length (gather_of near Q w x)
          at w l h t (yes i) =
              omega (arith, f.less, tried-hit near Q k x v b (subst (λ (j : ℕ). has x j ≡ true) (sym i) t), ap (λ (j : ℕ). length (gather_of near Q j x)) i)
          at w l h t (no ne) = f.before w (omega arith) h t

  -- ---- all columns

  record FirstColumn (xs : List ℕ) (k : ℕ) (b r : Choice) : Type 0 where
    less : r.moves < b.moves
    before : (j w : ℕ) → k ≤ j → w < 20 → has (get_or xs j 0) w ≡ true → Earlier j w r → r.moves < length (gather_of near Q w (get_or xs j 0))

  columns-first : (xs : List ℕ) (d k : ℕ) (b : Choice) → (over_columns near Q xs d k b ≡ b) ⊎ FirstColumn xs k b (over_columns near Q xs d k b)
  columns-first xs zero k b = inl (columns-none near Q xs k b)
  columns-first xs (suc d) k b =
      subst (λ (r : Choice). (r ≡ b) ⊎ FirstColumn xs k b r) (sym (columns-step near Q xs d k b)) (go (qubits-first k (get_or xs k 0) 20 0 b) (columns-first xs d (k + 1) c))
    where
      c : Choice
      c = over_qubits near Q k (get_or xs k 0) 20 0 b

      r : Choice
      r = over_columns near Q xs d (k + 1) (over_qubits near Q k (get_or xs k 0) 20 0 b)

      go : (c ≡ b) ⊎ FirstQubit k (get_or xs k 0) 0 b c → (r ≡ c) ⊎ FirstColumn xs (k + 1) c r → (r ≡ b) ⊎ FirstColumn xs k b r
      go (inl e) (inl i) = inl (i ∙ e)
      go (inr e) (inl i) = inr (subst (FirstColumn xs k b) (sym i) (record { less = e.less; before = at }))
        where
          at : (j w : ℕ) → k ≤ j → w < 20 → has (get_or xs j 0) w ≡ true → Earlier j w c → c.moves < length (gather_of near Q w (get_or xs j 0))
          at j w l h t (inl p) = absurd (omega (arith, p, e.column))
          at j w l h t (inr p) =
              let same : j ≡ k = p.0 ∙ e.column in
              subst (λ (i : ℕ). c.moves < length (gather_of near Q w (get_or xs i 0))) (sym same) (e.before w (omega arith) p.1 (subst (λ (i : ℕ). has (get_or xs i 0) w ≡ true) same t))
      go s (inr f) = inr (record { less = omega (arith, f.less, qubits-le near Q k (get_or xs k 0) 20 0 b); before = λ j w l h t p. at j w l h t p (ℕ_discrete k j) })
        where
          at : (j w : ℕ) → k ≤ j → w < 20 → has (get_or xs j 0) w ≡ true → Earlier j w r → Dec (k ≡ j) → r.moves < length (gather_of near Q w (get_or xs j 0))
          at j w l h t p (yes i) =
              omega (
                arith,
                f.less,
                qubits-hit near Q k (get_or xs k 0) 20 0 b w (omega arith) (omega arith) (subst (λ (i : ℕ). has (get_or xs i 0) w ≡ true) (sym i) t),
                ap (λ (i : ℕ). length (gather_of near Q w (get_or xs i 0))) i,
              )
          at j w l h t p (no ne) = f.before j w (omega arith) h t p

  pub chosen-first : (xs : List ℕ) (j w : ℕ) → w < 20 → In w (get_or xs j 0) → Earlier j w (chosen near Q xs) → (chosen near Q xs).moves < length (gather_of near Q w (get_or xs j 0))
  unfolding chosen
  chosen-first xs j w h i p = go (columns-first xs (length xs) 0 (choice 0 0 far)) p
    where
      r : Choice
      r = over_columns near Q xs (length xs) 0 (choice 0 0 far)

      none : Earlier j w (choice 0 0 far) → ⊥
      none (inl l) = omega arith
      none (inr l) = omega (arith, l.1)

      go : (r ≡ choice 0 0 far) ⊎ FirstColumn xs 0 (choice 0 0 far) r → Earlier j w r → r.moves < length (gather_of near Q w (get_or xs j 0))
      go (inl e) b = absurd (none (subst (Earlier j w) e b))
      go (inr f) b = f.before j w (omega arith) h (in-has (get_or xs j 0) w i) b
