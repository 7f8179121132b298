-- The qubits of a column, the lowest that is left each time: the loop passes over no other. Assumes nothing.
use mathlib.Core.Path.{◌≡◌, sym, ap, ◌∙◌, subst}
use mathlib.Core.Logic.{◌≢◌}
use mathlib.Core.Bool.{true, false}
use mathlib.Core.List.{List}
use Prim.Native.Nat.{ℕ, zero, suc, ◌+◌, ◌-◌, ◌^◌, ◌≤◌, ◌<◌}
use native.Mathlib.Omega.{arith}
use native.Mathlib.Decide.{ℕ_discrete, dec_lt}
use lib.Bits.{bit_xor}
use Rattle.sets.specs.Bit.{bit, has, In}
use Rattle.sets.specs.Size.{size_of, lowest_of, only_of}
use Rattle.sets.proofs.Bits.{bit-of-zero}
use Rattle.sets.proofs.Members.{put_other}
use Rattle.sets.proofs.Ones.{ones-drop, drop-same}
use Rattle.sets.proofs.Words.{in-has, out-has, only-is, lowest-in, lowest-first}
use Rattle.gathering.proofs.OrderParts.{sub-lt}
use Rattle.nearest.specs.Choice.{tried_at, over_qubits}
use Rattle.nearest.specs.declared.choice.Choice.{Choice}
use Rattle.nearest.proofs.Choosing.{tried-not, qubits-next, qubits-end}

-- `left` has the qubits of x from `at` on, and those still lead to the same choice
pub record Trying (near : List ℕ) (Q k x left : ℕ) (best total : Choice) : Type 0 where
  pub at : ℕ
  pub few : at ≤ 20
  pub gone : (i : ℕ) → i < at → bit left i ≡ 0
  pub rest : (i : ℕ) → at ≤ i → bit left i ≡ bit x i
  pub leads : over_qubits near Q k x (20 - at) at best ≡ total

module _ (near : List ℕ) (Q k x : ℕ) where
  -- n qubits that are not in x change nothing
  passed : (n v : ℕ) (b : Choice) → v + n ≤ 20 → ((i : ℕ) → v ≤ i → i < v + n → has x i ≡ false) → over_qubits near Q k x (20 - (v + n)) (v + n) b ≡ over_qubits near Q k x (20 - v) v b
  passed zero v b h f = let z : v + 0 ≡ v = omega arith in ap (λ (w : ℕ). over_qubits near Q k x (20 - w) w b) z
  passed (suc n) v b h f =
      let z : v + suc n ≡ v + 1 + n = omega arith in
      ap (λ (w : ℕ). over_qubits near Q k x (20 - w) w b) z
      ∙ passed n (v + 1) b (omega arith) (λ i l m. f i (omega arith) (omega arith))
      ∙ qubits-next near Q k x 20 v b b (omega arith) (tried-not near Q k x v b (f v (omega arith) (omega arith)))

  module _ (left : ℕ) (best total : Choice) (t : Trying near Q k x left best total) where
    -- where nothing is left below w, the qubits from w on still lead to the same choice
    on : (w : ℕ) → t.at ≤ w → w ≤ 20 → ((i : ℕ) → i < w → bit left i ≡ 0) → over_qubits near Q k x (20 - w) w best ≡ total
    on w l h f =
        let z : w ≡ t.at + (w - t.at) = omega arith in
        ap (λ (w : ℕ). over_qubits near Q k x (20 - w) w best) z
        ∙ passed (w - t.at) t.at best (omega arith) (λ i a m. out-has x i (sym (t.rest i a) ∙ f i (omega arith))) ∙ t.leads

    pub trying-none : left ≡ 0 → best ≡ total
    trying-none e = qubits-end near Q k x 20 20 best (omega arith) ∙ on 20 t.few (omega arith) (λ i l. ap (λ (m : ℕ). bit m i) e ∙ bit-of-zero i)

    module _ (x-low : x < 4294967296) (some : left ≢ 0) (v : ℕ) (ev : v ≡ lowest_of left) where
      low : left < 2 ^ 32
      low = sub-lt left x 32 (λ i h. part i h (dec_lt i t.at)) x-low
        where
          part : (i : ℕ) → In i left → Dec (i < t.at) → In i x
          part i h (yes l) = absurd (omega (arith, h, t.gone i l))
          part i h (no l) = sym (t.rest i (omega arith)) ∙ h

      first : (i : ℕ) → i < v → bit left i ≡ 0
      first i l = lowest-first left i low some (omega arith)

      pub trying-past : 20 ≤ v → best ≡ total
      trying-past l = qubits-end near Q k x 20 20 best (omega arith) ∙ on 20 t.few (omega arith) (λ i m. first i (omega arith))

      in_left : In v left
      in_left = subst (λ (w : ℕ). In w left) (sym ev) (lowest-in left low some)

      from : t.at ≤ v
      from = go (dec_lt v t.at)
        where
          go : Dec (v < t.at) → t.at ≤ v
          go (yes l) = absurd (omega (arith, t.gone v l, in_left))
          go (no l) = omega arith

      pub trying-has : has x v ≡ true
      trying-has = in-has x v (sym (t.rest v from) ∙ in_left)

      module _ (h : v < 20) (d : ℕ) (ed : d ≡ only_of v) where
        is-d : d ≡ 2 ^ v
        is-d = ed ∙ only-is v (omega arith)

        pub trying-less : size_of (bit_xor left d) < size_of left
        unfolding size_of
        trying-less = omega (arith, ones-drop v left in_left, ap (λ (w : ℕ). size_of (bit_xor left w)) is-d)

        pub trying-next : (c : Choice) → c ≡ tried_at near Q k x v best → Trying near Q k x (bit_xor left d) c total
        trying-next c ec =
            subst (λ (w : ℕ). Trying near Q k x (bit_xor left w) c total) (sym is-d)
            (record {
              at = v + 1;
              few = omega arith;
              gone = λ i l. below i l (ℕ_discrete i v);
              rest = λ i l. put_other left v i (λ (e : i ≡ v). omega arith) ∙ t.rest i (omega (arith, from));
              leads = qubits-next near Q k x 20 v best c h ec ∙ on v from (omega arith) first;
            })
          where
            below : (i : ℕ) → i < v + 1 → Dec (i ≡ v) → bit (bit_xor left (2 ^ v)) i ≡ 0
            below i l (yes e) = ap (bit (bit_xor left (2 ^ v))) e ∙ drop-same v left in_left
            below i l (no n) = put_other left v i n ∙ first i (omega arith)
