-- What the X gates of an island do: its wires get the flips asked for, and nothing else changes. Assumes nothing.
use mathlib.Core.Path.{◌≡◌, refl, sym, ap, ap₂, ◌∙◌, subst}
use mathlib.Core.Logic.{◌≢◌, ◌⊎◌, inl, inr}
use mathlib.Core.Bool.{Bool, true, false, not}
use mathlib.Core.List.{List, [], ◌∷◌, ◌++◌, map, append-nil, map-append}
use Prim.Native.Nat.{ℕ, zero, suc, ◌≤◌, ◌<◌}
use native.Mathlib.Omega.{arith}
use native.Mathlib.Decide.{ℕ_discrete}
use lib.Dec.{eqb}
use lib.Bits.{bit_xor}
use lib.ListN.{length, get_or, set, length-set}
use lib.Seq.{get_or-set_same, get_or-set_other}
use borrow.Author.Tests.{eqb-true, eqb-false}
use Rattle.sets.specs.Pick.{pick, both}
use Rattle.sets.specs.Bit.{bit, In, has}
use Rattle.sets.proofs.Bits.{bit-cases}
use Rattle.sets.proofs.Words.{has-true, in-has, out-has}
use Rattle.sets.proofs.Deciding.{never, both_true, both_yes, both-not}
use Rattle.gates.specs.declared.gate.Gate.{Gate}
use Rattle.gates.specs.declared.gate.Gate.TheVariants.{X}
use Rattle.gates.specs.Limits.{most_qubits}
use Rattle.sets.specs.Lists.{All}
use Rattle.sets.proofs.Lists.{all_none, all_one, all_append}
use Rattle.tallies.specs.Tally.{tally}
use Rattle.circuit.specs.Circuit.{step, run, gives, given}
use Rattle.circuit.specs.Flips.{flip_step, flip_run}
use Rattle.circuit.proofs.Flips.{flip-snoc, Flips}
use Rattle.circuit.proofs.Quiet.{Quiet}
use Rattle.flips.specs.Xs.{asks_flip, flipped_to, xs_on}

-- ---- X gates on any wires

pub xs-run : (qs W : List ℕ) → run (map X qs) W ≡ W
unfolding run step
xs-run [] W = refl
xs-run (q ∷ qs) W = xs-run qs W

pub xs-given : (p : ℕ) (qs W : List ℕ) → given p (map X qs) W ≡ 0
unfolding given gives
xs-given p [] W = refl
xs-given p (q ∷ qs) W = omega (arith, xs-given p qs (step (X q) W))

pub xs-tally : (f : Gate → ℕ) → ((q : ℕ) → f (X q) ≡ 0) → (qs : List ℕ) → tally f (map X qs) ≡ 0
unfolding tally
xs-tally f z [] = refl
xs-tally f z (q ∷ qs) = omega (arith, z q, xs-tally f z qs)

pub xs-quiet : (qs G : List ℕ) → Quiet (map X qs) G
unfolding Quiet
xs-quiet [] G = tt
xs-quiet (q ∷ qs) G = xs-quiet qs (flip_step (X q) G)

-- ---- the wires that are asked to end flipped

module _ (Q : ℕ) (F : List ℕ) where
  pub asks-held : (k v : ℕ) → has Q k ≡ true → v ≡ get_or F k 0 → not (eqb v 0) ≡ asks_flip Q F k
  unfolding asks_flip
  asks-held k v e f = ap₂ (λ (x : ℕ) (b : Bool). both b (not (eqb x 0))) f (sym e)

  pub asks-not-held : (k : ℕ) → has Q k ≡ false → false ≡ asks_flip Q F k
  unfolding asks_flip
  asks-not-held k e = sym (both-not (has Q k) (not (eqb (get_or F k 0) 0)) e)

  pub asks-yes : (k : ℕ) → asks_flip Q F k ≡ true → In k Q × (get_or F k 0 ≢ 0)
  unfolding asks_flip
  asks-yes k e =
      let b = both_true (has Q k) (not (eqb (get_or F k 0) 0)) e in
      (has-true Q k b.0, λ z. off (eqb (get_or F k 0) 0) refl b.1 z)
    where
      off : (b : Bool) → eqb (get_or F k 0) 0 ≡ b → not b ≡ true → get_or F k 0 ≡ 0 → ⊥
      off true p q z = never q refl
      off false p q z = eqb-false (get_or F k 0) 0 p z

  pub asks-no : (k : ℕ) → asks_flip Q F k ≡ false → In k Q → get_or F k 0 ≡ 0
  unfolding asks_flip
  asks-no k e m = go (eqb (get_or F k 0) 0) refl
    where
      go : (b : Bool) → eqb (get_or F k 0) 0 ≡ b → get_or F k 0 ≡ 0
      go true p = eqb-true (get_or F k 0) 0 p
      go false p = absurd (never (both_yes (has Q k) (not (eqb (get_or F k 0) 0)) (in-has Q k m) (ap not p)) e)

  pub flipped-yes : (k : ℕ) → asks_flip Q F k ≡ true → flipped_to Q F (suc k) ≡ flipped_to Q F k ++ k ∷ []
  unfolding flipped_to
  flipped-yes k e = ap (λ (b : Bool). flipped_to Q F k ++ pick b (k ∷ []) []) e

  pub flipped-no : (k : ℕ) → asks_flip Q F k ≡ false → flipped_to Q F (suc k) ≡ flipped_to Q F k
  unfolding flipped_to
  flipped-no k e = ap (λ (b : Bool). flipped_to Q F k ++ pick b (k ∷ []) []) e ∙ append-nil (flipped_to Q F k)

  -- what holds of no wire, and of one more that is in Q and asked for, holds of them
  module _ (P : List ℕ → Type 0) (none : P []) (more : (qs : List ℕ) (k : ℕ) → In k Q → get_or F k 0 ≢ 0 → P qs → P (qs ++ k ∷ [])) where
    pub of-flipped : (k : ℕ) → P (flipped_to Q F k)
    of-flipped zero = unfold flipped_to in none
    of-flipped (suc k) = go (asks_flip Q F k) refl (of-flipped k)
      where
        go : (b : Bool) → asks_flip Q F k ≡ b → P (flipped_to Q F k) → P (flipped_to Q F (suc k))
        go true e p = rw (flipped-yes k e) (let a = asks-yes k e in more (flipped_to Q F k) k a.0 a.1 p)
        go false e p = rw (flipped-no k e) p

  pub xs-all : (P : Gate → Type 0) → ((k : ℕ) → In k Q → P (X k)) → All P (xs_on Q F)
  unfolding xs_on
  xs-all P h =
      of-flipped (λ qs. All P (map X qs)) (all_none P)
      (λ qs k m f a. rw (map-append X qs (k ∷ [])) (all_append P (map X qs) (X k ∷ []) a (all_one P (X k) (h k m)))) most_qubits

  -- ---- their flips come out as asked

  pub record FlippedUpTo (k : ℕ) (G H : List ℕ) : Type 0 where
    pub long : length H ≡ length G
    pub done : (i : ℕ) → i < k → In i Q → get_or G i 0 ≡ 0 → get_or H i 0 ≡ get_or F i 0
    pub others : (i : ℕ) → bit Q i ≡ 0 → get_or H i 0 ≡ get_or G i 0
    pub rest : (i : ℕ) → k ≤ i → get_or H i 0 ≡ get_or G i 0

  module _ (flips : Flips F) (G : List ℕ) where
    abbrev after : ℕ → List ℕ
    after k = flip_run (map X (flipped_to Q F k)) G

    turned_none : FlippedUpTo 0 G (after 0)
    unfolding flipped_to flip_run
    turned_none = record { long = refl; done = λ i (b : i < 0) m z. absurd (omega arith); others = λ i z. refl; rest = λ i b. refl }

    module _ (k : ℕ) (l : k < length G) (t : FlippedUpTo k G (after k)) where
      abbrev v : ℕ
      v = bit_xor 1 (get_or (after k) k 0)

      turned-no : asks_flip Q F k ≡ false → FlippedUpTo (suc k) G (after (suc k))
      turned-no e =
          subst (λ (qs : List ℕ). FlippedUpTo (suc k) G (flip_run (map X qs) G)) (sym (flipped-no k e))
          (record { long = t.long; done = λ i b m z. at i b m z (ℕ_discrete i k); others = t.others; rest = λ i (b : suc k ≤ i). t.rest i (omega arith) })
        where
          at : (i : ℕ) → i < suc k → In i Q → get_or G i 0 ≡ 0 → Dec (i ≡ k) → get_or (after k) i 0 ≡ get_or F i 0
          at i b m z (yes d) = t.rest i (omega arith) ∙ z ∙ sym (ap (λ (j : ℕ). get_or F j 0) d ∙ asks-no k e (ap (bit Q) (sym d) ∙ m))
          at i b m z (no d) = t.done i (omega arith) m z

      turned-yes : asks_flip Q F k ≡ true → FlippedUpTo (suc k) G (after (suc k))
      turned-yes e =
          subst (FlippedUpTo (suc k) G) (sym over)
          (record {
            long = length-set (after k) k v ∙ t.long;
            done = λ i b m z. at i b m z (ℕ_discrete i k);
            others = λ i z. get_or-set_other (after k) k i v 0 (λ (d : i ≡ k). omega (arith, z, ap (bit Q) d, (asks-yes k e).0)) ∙ t.others i z;
            rest = λ i (b : suc k ≤ i). get_or-set_other (after k) k i v 0 (λ (d : i ≡ k). omega arith) ∙ t.rest i (omega arith);
          })
        where
          over : after (suc k) ≡ set (after k) k v
          over =
              ap (λ (qs : List ℕ). flip_run (map X qs) G) (flipped-yes k e) ∙ ap (λ (gs : List Gate). flip_run gs G) (map-append X (flipped_to Q F k) (k ∷ []))
              ∙ flip-snoc (map X (flipped_to Q F k)) (X k) G ∙ unfold flip_step in refl

          one : get_or G k 0 ≡ 0 → v ≡ 1
          one z = ap (bit_xor 1) (t.rest k (omega arith) ∙ z)

          at : (i : ℕ) → i < suc k → In i Q → get_or G i 0 ≡ 0 → Dec (i ≡ k) → get_or (set (after k) k v) i 0 ≡ get_or F i 0
          at i b m z (yes d) =
              ap (λ (j : ℕ). get_or (set (after k) k v) j 0) d ∙ get_or-set_same (after k) k v 0 (omega (arith, t.long)) ∙ one (ap (λ (j : ℕ). get_or G j 0) (sym d) ∙ z)
              ∙ omega (arith, flips.small k, (asks-yes k e).1, ap (λ (j : ℕ). get_or F j 0) d)
          at i b m z (no d) = get_or-set_other (after k) k i v 0 d ∙ t.done i (omega arith) m z

    turned : (k : ℕ) → k ≤ length G → FlippedUpTo k G (after k)
    turned zero l = turned_none
    turned (suc k) l = go (asks_flip Q F k) refl (turned k (omega arith))
      where
        go : (b : Bool) → asks_flip Q F k ≡ b → FlippedUpTo k G (after k) → FlippedUpTo (suc k) G (after (suc k))
        go true e t = turned-yes k l t e
        go false e t = turned-no k l t e

    -- all wires: those of Q that are not flipped come to F, the others stay
    module _ (size : length G ≡ 20) where
      pub xs-right : (i : ℕ) → i < 20 → In i Q → get_or G i 0 ≡ 0 → get_or (flip_run (xs_on Q F) G) i 0 ≡ get_or F i 0
      unfolding xs_on
      xs-right = (turned 20 (omega arith)).done

      pub xs-others : (i : ℕ) → bit Q i ≡ 0 → get_or (flip_run (xs_on Q F) G) i 0 ≡ get_or G i 0
      unfolding xs_on
      xs-others = (turned 20 (omega arith)).others

-- ---- only the flips asked for in Q count

module _ (Q : ℕ) (F G : List ℕ) (h : (i : ℕ) → In i Q → get_or F i 0 ≡ get_or G i 0) where
  flipped-same : (k : ℕ) → flipped_to Q F k ≡ flipped_to Q G k
  unfolding flipped_to asks_flip
  flipped-same zero = refl
  flipped-same (suc k) = ap₂ (λ (qs : List ℕ) (b : Bool). qs ++ pick b (k ∷ []) []) (flipped-same k) (at (bit-cases Q k))
    where
      at : (bit Q k ≡ 0) ⊎ (bit Q k ≡ 1) → both (has Q k) (not (eqb (get_or F k 0) 0)) ≡ both (has Q k) (not (eqb (get_or G k 0) 0))
      at (inl z) = both-not (has Q k) (not (eqb (get_or F k 0) 0)) (out-has Q k z) ∙ sym (both-not (has Q k) (not (eqb (get_or G k 0) 0)) (out-has Q k z))
      at (inr m) = ap (λ (v : ℕ). both (has Q k) (not (eqb v 0))) (h k m)

  pub xs-same : xs_on Q F ≡ xs_on Q G
  unfolding xs_on
  xs-same = ap (map X) (flipped-same most_qubits)

-- none asked for, no X
pub xs-none : (Q : ℕ) (F : List ℕ) → ((i : ℕ) → In i Q → get_or F i 0 ≡ 0) → xs_on Q F ≡ []
unfolding xs_on
xs-none Q F h = ap (map X) (of-flipped Q F (λ qs. qs ≡ []) refl (λ qs k m f e. absurd (f (h k m))) most_qubits)
