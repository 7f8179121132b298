-- Sets handed to an island: those of its own qubits, with its own qubits only. Assumes nothing.
use mathlib.Core.Path.{◌≡◌, sym, ap, ◌∙◌, subst}
use mathlib.Core.Logic.{◌⊎◌, inl, inr}
use mathlib.Core.Bool.{Bool}
use mathlib.Core.List.{List}
use Prim.Native.Nat.{ℕ, ◌≤◌, ◌<◌}
use native.Mathlib.Omega.{arith}
use native.Mathlib.Decide.{dec_lt}
use lib.ListN.{length, get_or, get_or-eq_default}
use lib.Seq.{ext_get_or}
use lib.Bits.{bit_and}
use Rattle.sets.specs.Pick.{pick}
use Rattle.sets.specs.Bit.{bit, has, In, Sub}
use Rattle.sets.proofs.Bits.{bit-of-zero, bit-cases}
use Rattle.sets.proofs.Members.{in_and, and_in, sub-eq}
use Rattle.sets.proofs.Words.{in-has, out-has}
use Rattle.chip.specs.Graph.{Near, Symm, Chain, here, next, Joined}
use Rattle.chip.proofs.Chains.{chain-end}
use Rattle.sets.proofs.Tabling.{tab-length, tab-at}
use Rattle.share.specs.Own.{mine, own_sets}

pub own-long : (Q : ℕ) (xs : List ℕ) → length (own_sets Q xs) ≡ 20
unfolding own_sets
own-long Q xs = tab-length 20 (λ i. mine Q i (get_or xs i 0))

own_at : (Q : ℕ) (xs : List ℕ) (i : ℕ) → i < 20 → get_or (own_sets Q xs) i 0 ≡ pick (has Q i) (bit_and (get_or xs i 0) Q) 0
unfolding own_sets mine
own_at Q xs i h = tab-at 20 (λ i. mine Q i (get_or xs i 0)) i 0 h

own-past : (Q : ℕ) (xs : List ℕ) (i : ℕ) → 20 ≤ i → get_or (own_sets Q xs) i 0 ≡ 0
own-past Q xs i h = get_or-eq_default (own_sets Q xs) 0 {n = i} (omega (arith, own-long Q xs))

-- a set of one of Q's qubits that is inside Q is handed whole
pub own-whole : (Q : ℕ) (xs : List ℕ) (i : ℕ) → i < 20 → In i Q → Sub (get_or xs i 0) Q → get_or (own_sets Q xs) i 0 ≡ get_or xs i 0
own-whole Q xs i h m s =
    own_at Q xs i h ∙ ap (λ (b : Bool). pick b (bit_and (get_or xs i 0) Q) 0) (in-has Q i m)
    ∙ sub-eq (bit_and (get_or xs i 0) Q) (get_or xs i 0) (λ j k. (in_and (get_or xs i 0) Q j k).0) (λ j k. and_in (get_or xs i 0) Q j k (s j k))

pub own_in : (Q : ℕ) (xs : List ℕ) (i j : ℕ) → In j (get_or (own_sets Q xs) i 0) → In i Q × In j (get_or xs i 0) × In j Q
own_in Q xs i j k = go (dec_lt i 20) (bit-cases Q i)
  where
    none : get_or (own_sets Q xs) i 0 ≡ 0 → ⊥
    none e = omega (arith, k, ap (λ (m : ℕ). bit m j) e, bit-of-zero j)

    go : Dec (i < 20) → (bit Q i ≡ 0) ⊎ (bit Q i ≡ 1) → In i Q × In j (get_or xs i 0) × In j Q
    go (no l) c = absurd (none (own-past Q xs i (omega arith)))
    go (yes l) (inl z) = absurd (none (own_at Q xs i l ∙ ap (λ (b : Bool). pick b (bit_and (get_or xs i 0) Q) 0) (out-has Q i z)))
    go (yes l) (inr m) =
        let r = in_and (get_or xs i 0) Q j (subst (In j) (own_at Q xs i l ∙ ap (λ (b : Bool). pick b (bit_and (get_or xs i 0) Q) 0) (in-has Q i m)) k) in
        (m, r.0, r.1)

pub in-own : (Q : ℕ) (xs : List ℕ) (i j : ℕ) → i < 20 → In i Q → In j (get_or xs i 0) → In j Q → In j (get_or (own_sets Q xs) i 0)
in-own Q xs i j l m k q =
    subst (In j) (sym (own_at Q xs i l ∙ ap (λ (b : Bool). pick b (bit_and (get_or xs i 0) Q) 0) (in-has Q i m))) (and_in (get_or xs i 0) Q j k q)

-- equal sets of the island's qubits are handed equally
pub own_same : (Q : ℕ) (xs ys : List ℕ) → ((i : ℕ) → i < 20 → In i Q → bit_and (get_or xs i 0) Q ≡ bit_and (get_or ys i 0) Q) → own_sets Q xs ≡ own_sets Q ys
own_same Q xs ys h =
    ext_get_or 0 (own_sets Q xs) (own_sets Q ys) (own-long Q xs ∙ sym (own-long Q ys))
    (λ i (l : i < length (own_sets Q xs)). at i (omega (arith, own-long Q xs)) (bit-cases Q i))
  where
    at : (i : ℕ) → i < 20 → (bit Q i ≡ 0) ⊎ (bit Q i ≡ 1) → get_or (own_sets Q xs) i 0 ≡ get_or (own_sets Q ys) i 0
    at i l (inl z) = own_at Q xs i l ∙ ap (λ (b : Bool). pick b (bit_and (get_or xs i 0) Q) 0) (out-has Q i z)
        ∙ sym (own_at Q ys i l ∙ ap (λ (b : Bool). pick b (bit_and (get_or ys i 0) Q) 0) (out-has Q i z))
    at i l (inr m) = own_at Q xs i l ∙ ap (λ (b : Bool). pick b (bit_and (get_or xs i 0) Q) 0) (in-has Q i m) ∙ h i l m
        ∙ sym (own_at Q ys i l ∙ ap (λ (b : Bool). pick b (bit_and (get_or ys i 0) Q) 0) (in-has Q i m))

-- ---- neighbours: the island by itself is the same graph

module _ (near : List ℕ) (Q : ℕ) where
  pub own-near : (u v : ℕ) → Near (own_sets Q near) u v → In u Q × Near near u v × In v Q
  own-near u v k = own_in Q near u v k

  pub near-own : (u v : ℕ) → u < 20 → In u Q → In v Q → Near near u v → Near (own_sets Q near) u v
  near-own u v l hu hv k = in-own Q near u v l hu k hv

  pub own-symm : ((i : ℕ) → In i Q → i < 20) → Symm near → Symm (own_sets Q near)
  own-symm low sy u v k = let r = own-near u v k in near-own v u (low v r.2) r.2 r.0 (sy u v r.1)

  own-chain : ((i : ℕ) → In i Q → i < 20) → (a b : ℕ) → Chain near Q a b → Chain (own_sets Q near) Q a b
  own-chain low a b (here h) = here h
  own-chain low a b (next {v = v} c k h) = next (own-chain low a v c) (near-own v b (low v (chain-end c)) (chain-end c) h k) h

  pub own-joined : ((i : ℕ) → In i Q → i < 20) → Joined near Q → Joined (own_sets Q near) Q
  unfolding Joined
  own-joined low j a b ha hb = own-chain low a b (j a b ha hb)
