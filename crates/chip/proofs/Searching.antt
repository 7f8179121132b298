-- The search over two sets: what is reached, and of it what is still to look at. Assumes nothing.
use mathlib.Core.Path.{◌≡◌, sym, ap, ◌∙◌, subst}
use mathlib.Core.Logic.{◌≢◌, ◌⊎◌, inl, inr}
use mathlib.Core.List.{List}
use Prim.Native.Nat.{ℕ, zero, suc, ◌-◌, ◌^◌, ◌<◌}
use native.Mathlib.Nat.{lt_of_le_of_lt}
use native.Mathlib.Omega.{arith}
use native.Mathlib.Decide.{ℕ_discrete}
use lib.ListN.{length, get_or}
use lib.Pow.{pow-lt}
use lib.Bits.{bit_and, bit_or, bit_xor, or_lt, xor_lt, and_le_r}
use lib.Count.{ones, ones-le}
use Rattle.sets.specs.Bit.{bit, In, Sub}
use Rattle.sets.specs.Size.{lowest_of, only_of}
use Rattle.sets.proofs.Bits.{bit-of-zero, bit-cases, bit-xor, xors}
use Rattle.sets.proofs.Members.{in-or, or_left, or_right, in_and, and_in, sub-eq, xor-sub, put_other, in-lt}
use Rattle.sets.proofs.Ones.{ones-put}
use Rattle.sets.proofs.Words.{lowest-in, only-lowest}
use Rattle.chip.specs.Graph.{Near, nbrs, grow, closure}
use Rattle.chip.proofs.Growth.{pow-sub}
use Rattle.chip.proofs.Closure.{nbrs-sound, grow-near, closure-keeps}
use Rattle.chip.proofs.Enough.{closure-full}

module _ (near : List ℕ) (Q S : ℕ) where
  -- what is reached after a look at u, and what is to look at then
  abbrev pub reached_by : ℕ → ℕ → ℕ
  reached_by u R = bit_or R (bit_and (get_or near u 0) Q)

  abbrev pub left_by : ℕ → ℕ → ℕ → ℕ
  left_by u R T = bit_xor (bit_xor T (2 ^ u)) (bit_xor (reached_by u R) R)

  -- R is reached and T still to look at: rounds from S reach all of R, and R has the neighbours of what is not in T
  pub record Searching (R T : ℕ) : Type 0 where
    pub low : R < 2 ^ 32
    pub left-low : T < 2 ^ 32
    pub from : Sub S R
    pub left : Sub T R
    pub sound : Sub R (closure near Q 20 S)
    pub looked : (u w : ℕ) → In u R → bit T u ≡ 0 → Near near u w → In w Q → In w R

  pub searching-none : S < 2 ^ 32 → Searching S S
  searching-none l = record {
    low = l;
    left-low = l;
    from = λ i h. h;
    left = λ i h. h;
    sound = closure-keeps near Q 20 S;
    looked = λ u w h z. absurd (omega arith);
  }

  pub searching-next : (R T u : ℕ) → length near ≡ 20 → Q < 2 ^ 32 → Searching R T → In u T → Searching (reached_by u R) (left_by u R T)
  searching-next R T u len lq s m = record {
    low = wide;
    left-low = xor_lt 32 (bit_xor T (2 ^ u)) (bit_xor N R) (xor_lt 32 T (2 ^ u) s.left-low (pow-lt (in-lt 32 T u s.left-low m))) (xor_lt 32 N R wide s.low);
    from = λ i h. up i (s.from i h);
    left = xor-sub (bit_xor T (2 ^ u)) (bit_xor N R) N (xor-sub T (2 ^ u) N (λ i h. up i (s.left i h)) (pow-sub N u (up u (s.left u m)))) (xor-sub N R N (λ i h. h) up);
    sound = λ i h. reach i (in-or R (bit_and (get_or near u 0) Q) i h);
    looked = λ v w h z. at v w h z (ℕ_discrete v u);
  }
    where
      N : ℕ
      N = reached_by u R

      wide : N < 2 ^ 32
      wide = or_lt 32 R (bit_and (get_or near u 0) Q) s.low (lt_of_le_of_lt (and_le_r (get_or near u 0) Q) lq)

      up : Sub R N
      up i h = or_left R (bit_and (get_or near u 0) Q) i h

      reach : (i : ℕ) → In i R ⊎ In i (bit_and (get_or near u 0) Q) → In i (closure near Q 20 S)
      reach i (inl h) = s.sound i h
      reach i (inr h) =
          let b = in_and (get_or near u 0) Q i h in
          subst (In i) (closure-full near len Q S) (grow-near near Q (closure near Q 20 S) u i (s.sound u (s.left u m)) b.0 b.1)

      -- another than u that is not to look at was not before, and was reached
      before : (v : ℕ) → v ≢ u → In v N → bit (left_by u R T) v ≡ 0 → (bit R v ≡ 0) ⊎ (bit R v ≡ 1) → (bit T v ≡ 0) ⊎ (bit T v ≡ 1) → In v R × (bit T v ≡ 0)
      before v n h z (inl r) (inl t) = absurd (omega (arith, bit-xor (bit_xor T (2 ^ u)) (bit_xor N R) v, put_other T u v n, bit-xor N R v))
      before v n h z (inl r) (inr t) = absurd (omega (arith, s.left v t))
      before v n h z (inr r) (inl t) = (r, t)
      before v n h z (inr r) (inr t) = absurd (omega (arith, bit-xor (bit_xor T (2 ^ u)) (bit_xor N R) v, put_other T u v n, bit-xor N R v))

      at : (v w : ℕ) → In v N → bit (left_by u R T) v ≡ 0 → Dec (v ≡ u) → Near near v w → In w Q → In w N
      at v w h z (yes e) k q = or_right R (bit_and (get_or near u 0) Q) w (and_in (get_or near u 0) Q w (subst (λ (i : ℕ). Near near i w) e k) q)
      at v w h z (no n) k q = let b = before v n h z (bit-cases R v) (bit-cases T v) in up w (s.looked v w b.0 b.1 k q)

  -- what is closed under neighbours holds all that rounds reach from its members
  closure-held : (F : ℕ) → ((u w : ℕ) → In u F → Near near u w → In w Q → In w F) → (k Z : ℕ) → Sub Z F → Sub (closure near Q k Z) F
  unfolding closure grow
  closure-held F c zero Z f = f
  closure-held F c (suc k) Z f = closure-held F c k (grow near Q Z) (λ i h. at i (in-or Z (bit_and (nbrs Z near) Q) i h))
    where
      at : (i : ℕ) → In i Z ⊎ In i (bit_and (nbrs Z near) Q) → In i F
      at i (inl h) = f i h
      at i (inr h) = let b = in_and (nbrs Z near) Q i h in let r = nbrs-sound near Z i b.0 in c r.0 i (f r.0 r.1) r.2 b.1

  -- nothing to look at: all there is is reached
  pub searching-all : (R : ℕ) → Searching R 0 → R ≡ closure near Q 20 S
  searching-all R s =
      sub-eq R (closure near Q 20 S) s.sound
      (closure-held R (λ u w h. s.looked u w h (bit-of-zero u)) 20 S s.from)

  -- one more is looked at
  pub searching-less : (R T u : ℕ) → Searching R T → Searching (reached_by u R) (left_by u R T) → In u T
      → 32 - ones (bit_xor (reached_by u R) (left_by u R T)) < 32 - ones (bit_xor R T)
  searching-less R T u s n m =
      let one : ones (bit_xor N (left_by u R T)) ≡ suc (ones (bit_xor R T)) = ap ones looks ∙ ones-put u (bit_xor R T) (bit-xor R T u ∙ omega (arith, s.left u m)) in
      omega (arith, ones-le 32 (bit_xor N (left_by u R T)) (xor_lt 32 N (left_by u R T) n.low n.left-low))
    where
      N : ℕ
      N = reached_by u R

      looks : bit_xor N (bit_xor (bit_xor T (2 ^ u)) (bit_xor N R)) ≡ bit_xor (bit_xor R T) (2 ^ u)
      looks = simp xors

-- the lowest to look at, as the code has it: y is the set of u alone
pub lowest-left : (T u y : ℕ) → T < 2 ^ 32 → T ≢ 0 → u ≡ lowest_of T → y ≡ only_of u → In u T × (y ≡ 2 ^ u)
lowest-left T u y l n e d = (subst (λ (k : ℕ). In k T) (sym e) (lowest-in T l n), d ∙ ap only_of e ∙ only-lowest T l n ∙ ap (λ (k : ℕ). 2 ^ k) (sym e))
