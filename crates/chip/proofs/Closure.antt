-- The closure of a set under neighbours: what chains reach. Assumes nothing.
use mathlib.Core.Path.{◌≡◌, refl, sym, ap, ◌∙◌, subst}
use mathlib.Core.Logic.{◌⊎◌, inl, inr}
use mathlib.Core.List.{List, [], ◌∷◌}
use Prim.Native.Nat.{ℕ, zero, suc, ◌+◌, ◌/◌, ◌%◌, ◌^◌, ◌≤◌, ◌<◌}
use native.Mathlib.Omega.{arith}
use lib.Bits.{bit_and}
use lib.Count.{ones}
use native.Mathlib.Nat.{mod-lt, zero-lt-suc}
use Rattle.sets.specs.Bit.{bit, In, Sub, when}
use Rattle.sets.proofs.Bits.{bit-zero, bit-suc, bit-of-zero, bit-pow-same}
use Rattle.sets.proofs.Members.{in-or, or_left, or_right, in_and, and_in, sub-eq, sub_cases, in-pow}
use Rattle.sets.proofs.Ones.{ones-pow}
use Rattle.chip.specs.Graph.{Near, Symm, Chain, here, next, Joined, nbrs, grow, closure}
use Rattle.chip.proofs.Chains.{chain-cat, chain-rev}
use Rattle.chip.proofs.Growth.{pow-sub}

when-in : (b a v : ℕ) → b < 2 → In v (when b a) → (b ≡ 1) × In v a
when-in zero a v l h = absurd (omega (arith, bit-of-zero v))
when-in (suc zero) a v l h = (refl, h)
when-in (suc (suc b)) a v l h = absurd (omega arith)

pub nbrs-sound : (near : List ℕ) (S v : ℕ) → In v (nbrs S near) → (u : ℕ) × In u S × Near near u v
unfolding nbrs
nbrs-sound [] S v h = absurd (omega (arith, bit-of-zero v))
nbrs-sound (a ∷ ns) S v h = go (in-or (when (S % 2) a) (nbrs (S / 2) ns) v h) (nbrs-sound ns (S / 2) v)
  where
    go : In v (when (S % 2) a) ⊎ In v (nbrs (S / 2) ns) → (In v (nbrs (S / 2) ns) → (u : ℕ) × In u (S / 2) × Near ns u v) → (u : ℕ) × In u S × Near (a ∷ ns) u v
    go (inl k) ih = let r = when-in (S % 2) a v (mod-lt S (zero-lt-suc 1)) k in (0, bit-zero S ∙ r.0, r.1)
    go (inr k) ih = let r = ih k in (suc r.0, bit-suc S r.0 ∙ r.1, r.2)

pub nbrs-complete : (near : List ℕ) (S u v : ℕ) → In u S → Near near u v → In v (nbrs S near)
unfolding nbrs
nbrs-complete [] S u v h n = absurd (omega (arith, bit-of-zero v))
nbrs-complete (a ∷ ns) S zero v h n = or_left (when (S % 2) a) (nbrs (S / 2) ns) v (ap (λ (b : ℕ). bit (when b a) v) (sym (bit-zero S) ∙ h) ∙ n)
nbrs-complete (a ∷ ns) S (suc u) v h n = or_right (when (S % 2) a) (nbrs (S / 2) ns) v (nbrs-complete ns (S / 2) u v (sym (bit-suc S u) ∙ h) n)

module _ (near : List ℕ) (Q : ℕ) where
  pub grow-keeps : (S : ℕ) → Sub S (grow near Q S)
  unfolding grow
  grow-keeps S i h = or_left S (bit_and (nbrs S near) Q) i h

  pub grow-in : (S : ℕ) → Sub S Q → Sub (grow near Q S) Q
  unfolding grow
  grow-in S f i h = go (in-or S (bit_and (nbrs S near) Q) i h)
    where
      go : In i S ⊎ In i (bit_and (nbrs S near) Q) → In i Q
      go (inl k) = f i k
      go (inr k) = (in_and (nbrs S near) Q i k).1

  pub grow-near : (S u w : ℕ) → In u S → Near near u w → In w Q → In w (grow near Q S)
  unfolding grow
  grow-near S u w h n q = or_right S (bit_and (nbrs S near) Q) w (and_in (nbrs S near) Q w (nbrs-complete near S u w h n) q)

  -- what a round adds is a step of a chain
  pub grow-chain : (S v : ℕ) → ((w : ℕ) → In w S → Chain near Q v w) → (w : ℕ) → In w (grow near Q S) → Chain near Q v w
  unfolding grow
  grow-chain S v f w h = go (in-or S (bit_and (nbrs S near) Q) w h)
    where
      go : In w S ⊎ In w (bit_and (nbrs S near) Q) → Chain near Q v w
      go (inl k) = f w k
      go (inr k) =
          let a = in_and (nbrs S near) Q w k in
          let r = nbrs-sound near S w a.0 in
          next (f r.0 r.1) r.2 a.1

  pub closure-in : (k S : ℕ) → Sub S Q → Sub (closure near Q k S) Q
  unfolding closure
  closure-in zero S f = f
  closure-in (suc k) S f = closure-in k (grow near Q S) (grow-in S f)

  pub closure-keeps : (k S : ℕ) → Sub S (closure near Q k S)
  unfolding closure
  closure-keeps zero S i h = h
  closure-keeps (suc k) S i h = closure-keeps k (grow near Q S) i (grow-keeps S i h)

  pub closure-chain : (k S v : ℕ) → ((w : ℕ) → In w S → Chain near Q v w) → (w : ℕ) → In w (closure near Q k S) → Chain near Q v w
  unfolding closure
  closure-chain zero S v f = f
  closure-chain (suc k) S v f = closure-chain k (grow near Q S) v (grow-chain S v f)

  -- where a round adds nothing, no later one does
  pub closure-still : (k S : ℕ) → grow near Q S ≡ S → closure near Q k S ≡ S
  unfolding closure
  closure-still zero S e = refl
  closure-still (suc k) S e = ap (closure near Q k) e ∙ closure-still k S e

  -- with as many rounds as members are missing, one more round adds nothing
  pub closure-fix : (k S : ℕ) → Sub S Q → ones Q ≤ ones S + k → grow near Q (closure near Q k S) ≡ closure near Q k S
  unfolding closure
  closure-fix zero S f l = go (sub_cases Q S f)
    where
      go : (S ≡ Q) ⊎ (ones S < ones Q) → grow near Q S ≡ S
      go (inl e) = sub-eq (grow near Q S) S (λ i h. subst (In i) (sym e) (grow-in S f i h)) (grow-keeps S)
      go (inr h) = absurd (omega arith)
  closure-fix (suc k) S f l = go (sub_cases (grow near Q S) S (grow-keeps S)) (closure-fix k (grow near Q S) (grow-in S f))
    where
      go : (S ≡ grow near Q S) ⊎ (ones S < ones (grow near Q S))
          → (ones Q ≤ ones (grow near Q S) + k → grow near Q (closure near Q k (grow near Q S)) ≡ closure near Q k (grow near Q S))
          → grow near Q (closure near Q k (grow near Q S)) ≡ closure near Q k (grow near Q S)
      go (inl e) ih =
          let s : closure near Q k (grow near Q S) ≡ S = ap (closure near Q k) (sym e) ∙ closure-still k S (sym e) in
          ap (grow near Q) s ∙ sym e ∙ sym s
      go (inr h) ih = ih (omega arith)

  -- a set that no round enlarges holds all that chains reach
  pub fixed-chain : (F v : ℕ) → grow near Q F ≡ F → In v F → (w : ℕ) → Chain near Q v w → In w F
  fixed-chain F v e h w (here q) = h
  fixed-chain F v e h w (next {v = u} c n q) = subst (In w) e (grow-near F u w (fixed-chain F v e h u c) n q)

  -- the closure of one member is the whole set if and only if any two members are joined
  pub closure-joined : Symm near → (k v : ℕ) → In v Q → closure near Q k (2 ^ v) ≡ Q → Joined near Q
  unfolding Joined
  closure-joined sy k v h e a b ha hb = chain-cat (chain-rev sy (reach a ha)) (reach b hb)
    where
      reach : (w : ℕ) → In w Q → Chain near Q v w
      reach w q = closure-chain k (2 ^ v) v (λ i p. subst (Chain near Q v) (sym (in-pow v i p)) (here h)) w (subst (In w) (sym e) q)

  pub joined-closure : (k v : ℕ) → In v Q → ones Q ≤ suc k → Joined near Q → closure near Q k (2 ^ v) ≡ Q
  unfolding Joined
  joined-closure k v h l j =
      sub-eq (closure near Q k (2 ^ v)) Q (closure-in k (2 ^ v) (pow-sub Q v h))
      (λ i q. fixed-chain (closure near Q k (2 ^ v)) v (closure-fix k (2 ^ v) (pow-sub Q v h) (omega (arith, ones-pow v))) (closure-keeps k (2 ^ v) v (bit-pow-same v)) i (j v i h q))
