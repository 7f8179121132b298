-- Twenty rounds reach all there is, in any set and from any: only the 20 qubits have neighbours, and each round but the last takes one of them in. Assumes nothing.
use mathlib.Core.Path.{◌≡◌, sym, ap, ◌∙◌, subst}
use mathlib.Core.Logic.{◌⊎◌, inl, inr}
use mathlib.Core.List.{List}
use Prim.Native.Nat.{ℕ, zero, suc, ◌+◌, ◌-◌, ◌^◌, ◌≤◌, ◌<◌}
use native.Mathlib.Nat.{lt_of_le_of_lt}
use native.Mathlib.Omega.{arith}
use native.Mathlib.Decide.{ℕ_discrete}
use lib.Dec.{lit<}
use lib.ListN.{length}
use lib.Bits.{bit_and, and_le_r}
use lib.Count.{ones, ones-le}
use Rattle.sets.specs.Bit.{bit, In, Sub}
use Rattle.sets.proofs.Bits.{bit-of-zero}
use Rattle.sets.proofs.Members.{in-or, in_and, and_in, or_right, sub-eq, sub_cases, all_in}
use Rattle.sets.proofs.Ones.{ones-zero}
use Rattle.chip.specs.Graph.{nbrs, grow, closure}
use Rattle.chip.proofs.Closure.{nbrs-sound, nbrs-complete, grow-keeps, closure-still}
use Rattle.chip.proofs.Tests.{near-low}

-- the members that may have neighbours
abbrev low : ℕ → ℕ
low S = bit_and S (2 ^ 20 - 1)

low-few : (S : ℕ) → ones (low S) ≤ 20
low-few S = ones-le 20 (low S) (lt_of_le_of_lt (and_le_r S (2 ^ 20 - 1)) (lit< tt))

module _ (near : List ℕ) (len : length near ≡ 20) (Q : ℕ) where
  nbrs-low : (S T : ℕ) → Sub (low S) (low T) → Sub (nbrs S near) (nbrs T near)
  nbrs-low S T f v h =
      let r = nbrs-sound near S v h in
      let m = f r.0 (and_in S (2 ^ 20 - 1) r.0 r.1 (all_in 20 r.0 (near-low near r.0 v len r.2))) in
      nbrs-complete near T r.0 v (in_and T (2 ^ 20 - 1) r.0 m).0 r.2

  low_keeps : (S : ℕ) → Sub (low S) (low (grow near Q S))
  low_keeps S i h = let m = in_and S (2 ^ 20 - 1) i h in and_in (grow near Q S) (2 ^ 20 - 1) i (grow-keeps near Q S i m.0) m.1

  -- a round that takes in none of the 20 is the last to take in any
  grow_last : (S : ℕ) → low S ≡ low (grow near Q S) → grow near Q (grow near Q S) ≡ grow near Q S
  unfolding grow
  grow_last S e = sub-eq (grow near Q G) G (λ i h. go i (in-or G (bit_and (nbrs G near) Q) i h)) (grow-keeps near Q G)
    where
      G : ℕ
      G = grow near Q S

      go : (i : ℕ) → In i G ⊎ In i (bit_and (nbrs G near) Q) → In i G
      go i (inl h) = h
      go i (inr h) =
          let m = in_and (nbrs G near) Q i h in
          or_right S (bit_and (nbrs S near) Q) i (and_in (nbrs S near) Q i (nbrs-low G S (λ j k. subst (In j) (sym e) k) i m.0) m.1)

  still : (k S : ℕ) → grow near Q S ≡ S → grow near Q (closure near Q k S) ≡ closure near Q k S
  still k S e = let s = closure-still near Q k S e in ap (grow near Q) s ∙ e ∙ sym s

  rounds : (k S : ℕ) → 20 ≤ ones (low S) + k → grow near Q (closure near Q (suc k) S) ≡ closure near Q (suc k) S
  unfolding closure
  rounds zero S l = go (sub_cases (low (grow near Q S)) (low S) (low_keeps S))
    where
      go : (low S ≡ low (grow near Q S)) ⊎ (ones (low S) < ones (low (grow near Q S))) → grow near Q (grow near Q S) ≡ grow near Q S
      go (inl e) = grow_last S e
      go (inr h) = absurd (omega (arith, low-few (grow near Q S)))
  rounds (suc k) S l = go (sub_cases (low (grow near Q S)) (low S) (low_keeps S)) (rounds k (grow near Q S))
    where
      go : (low S ≡ low (grow near Q S)) ⊎ (ones (low S) < ones (low (grow near Q S)))
          → (20 ≤ ones (low (grow near Q S)) + k → grow near Q (closure near Q (suc k) (grow near Q S)) ≡ closure near Q (suc k) (grow near Q S))
          → grow near Q (closure near Q (suc k) (grow near Q S)) ≡ closure near Q (suc k) (grow near Q S)
      go (inl e) ih = still (suc k) (grow near Q S) (grow_last S e)
      go (inr h) ih = ih (omega arith)

  -- without any of the 20 a set has no neighbours
  grow-none : (S : ℕ) → low S ≡ 0 → grow near Q S ≡ S
  unfolding grow
  grow-none S z = sub-eq (grow near Q S) S (λ i h. at i (in-or S (bit_and (nbrs S near) Q) i h)) (grow-keeps near Q S)
    where
      at : (i : ℕ) → In i S ⊎ In i (bit_and (nbrs S near) Q) → In i S
      at i (inl h) = h
      at i (inr h) =
          let r = nbrs-sound near S i (in_and (nbrs S near) Q i h).0 in
          absurd (omega (arith, bit-of-zero r.0, ap (λ (n : ℕ). bit n r.0) z, and_in S (2 ^ 20 - 1) r.0 r.1 (all_in 20 r.0 (near-low near r.0 i len r.2))))

  -- twenty rounds reach all there is
  pub closure-full : (S : ℕ) → grow near Q (closure near Q 20 S) ≡ closure near Q 20 S
  closure-full S = go (ℕ_discrete (ones (low S)) 0)
    where
      go : Dec (ones (low S) ≡ 0) → grow near Q (closure near Q 20 S) ≡ closure near Q 20 S
      go (yes z) = still 20 S (grow-none S (ones-zero (low S) z))
      go (no n) = rounds 19 S (omega arith)
