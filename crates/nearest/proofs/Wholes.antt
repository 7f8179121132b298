-- On the way of a gathering that works, a move is still to come for every qubit left but one. Assumes nothing.
use mathlib.Core.Path.{◌≡◌, refl, sym, ap, ap₂, ◌∙◌, subst}
use mathlib.Core.Logic.{◌≢◌, ◌⊎◌, inl, inr}
use mathlib.Core.Bool.{Bool, true, false}
use mathlib.Core.List.{List}
use Prim.Native.Nat.{ℕ, suc, ◌+◌, ◌-◌, ◌^◌, ◌≤◌, ◌<◌, min}
use native.Mathlib.Omega.{arith}
use native.Mathlib.Decide.{ℕ_discrete}
use lib.Bits.{bit_and, bit_xor}
use lib.Count.{ones, ones-le}
use lib.Dec.{eqb}
use lib.ListN.{get_or, length}
use borrow.Author.Tests.{eqb-true}
use Rattle.sets.specs.Pick.{pick}
use Rattle.sets.specs.Bit.{bit, has, In, Sub}
use Rattle.sets.specs.Size.{size_of, lowest_of, only_of}
use Rattle.sets.proofs.Bits.{bit-cases, bit-of-zero, xor-cancel}
use Rattle.sets.proofs.Members.{in_and, and_in, in-lt, some-bit, put_other, put_same, put_keeps, put-cases}
use Rattle.sets.proofs.Ones.{ones-pow, ones-put, ones-drop, drop-same}
use Rattle.sets.proofs.Words.{has-true, has-false, lowest-in, only-is}
use Rattle.chip.specs.Graph.{Near, Symm}
use Rattle.gathering.specs.Order.{order_of, Along, root, then}
use Rattle.gathering.specs.Gather.{gather_from}
use Rattle.gathering.proofs.OrderParts.{sub-lt}
use Rattle.gathering.proofs.OrderGrows.{order-along}
use Rattle.gathering.proofs.GatherWorks.{gathers-along}
use Rattle.nearest.specs.Choice.{out_at, least_of, detour_of}
use Rattle.nearest.specs.Sure.{Tested, Works, Whole, Whenever}
use Rattle.nearest.specs.declared.choice.Out.{Out}
use Rattle.nearest.proofs.Counting.{out-not, out-two, out_one, Counting}
use Rattle.nearest.proofs.Sureness.{turns-lose, sure-of}

-- ---- one qubit is taken out

-- the set is as many qubits smaller at most as there were moves that are no detour
abbrev Shrinks : ℕ → Out → Type 0
Shrinks x o = ones x + detour_of o.moves ≤ o.moves + ones o.left

module _ (near : List ℕ) (E S u : ℕ) (low : S < 2 ^ 20) (z : bit E u ≡ 0) (e : S ≡ bit_xor E (2 ^ u)) where
  up : Sub E S
  up i h = ap (λ (m : ℕ). bit m i) e ∙ put_keeps E u z i h

  in-S : In u S
  in-S = ap (λ (m : ℕ). bit m u) e ∙ put_same E u z

  apart : (i : ℕ) → In i E → i ≢ u
  apart i h d = omega (arith, h, z, ap (bit E) d)

  small : (i : ℕ) → In i S → i < 32
  small i h = omega (arith, in-lt 20 S i low h)

  wide : (m : ℕ) → Sub m S → m < 2 ^ 32
  wide m f = omega (arith, sub-lt m S 20 f low)

  sub_out : (x : ℕ) → In u x → Sub x S → Sub (bit_xor x (2 ^ u)) E
  sub_out x hu f i h = go (put-cases E u i (subst (In i) e (f i (sym (put_other x u i other) ∙ h))))
    where
      other : i ≢ u
      other d = omega (arith, h, ap (bit (bit_xor x (2 ^ u))) d, drop-same u x hu)

      go : (i ≡ u) ⊎ In i E → In i E
      go (inl d) = absurd (other d)
      go (inr k) = k

  sub_same : (x : ℕ) → bit x u ≡ 0 → Sub x S → Sub x E
  sub_same x o f i h = go (put-cases E u i (subst (In i) e (f i h)))
    where
      go : (i ≡ u) ⊎ In i E → In i E
      go (inl d) = absurd (omega (arith, h, o, ap (bit x) d))
      go (inr k) = k

  abbrev beside : ℕ
  beside = bit_and (get_or near u 0) E

  -- what is left lies in E and is not empty
  abbrev TakenFrom : ℕ → Out → Type 0
  TakenFrom x o = Sub o.left E × (o.left ≢ 0) × Shrinks x o

  -- w is a neighbour of u in E
  taken : (w x : ℕ) → In w E → Near near u w → Sub x S → x ≢ 0 → TakenFrom x (out_at beside u x)
  taken w x hw n f ne = go (has x u) refl (ℕ_discrete (bit_and beside x) 0)
    where
      a≢ : beside ≢ 0
      a≢ o = omega (arith, and_in (get_or near u 0) E w n hw, ap (λ (m : ℕ). bit m w) o, bit-of-zero w)

      in-a : In (lowest_of beside) beside
      in-a = lowest-in beside (wide beside (λ i h. up i (in_and (get_or near u 0) E i h).1)) a≢

      p_e : In (lowest_of beside) E
      p_e = (in_and (get_or near u 0) E (lowest_of beside) in-a).1

      is-u : 2 ^ u ≡ only_of u
      is-u = sym (only-is u (small u in-S))

      go : (t : Bool) → has x u ≡ t → Dec (bit_and beside x ≡ 0) → TakenFrom x (out_at beside u x)
      go false t d = subst (TakenFrom x) (out-not beside u x t) (sub_same x (has-false x u t) f, ne, omega arith)
      go true t (no o) =
          let q = some-bit (bit_and beside x) o in
          let h2 = in_and beside x q.0 q.1 in
          let q_e : In q.0 E = (in_and (get_or near u 0) E q.0 h2.0).1 in
          subst (TakenFrom x) (out_one beside u x (2 ^ u) t o is-u) (
            sub_out x (has-true x u t) f,
            λ (y : bit_xor x (2 ^ u) ≡ 0). omega (arith, h2.1, put_other x u q.0 (apart q.0 q_e), ap (λ (m : ℕ). bit m q.0) y, bit-of-zero q.0),
            omega (arith, ones-drop u x (has-true x u t)),
          )
      go true t (yes o) =
          subst (TakenFrom x) (out-two beside u x (lowest_of beside) (2 ^ lowest_of beside) (2 ^ u) t o a≢ refl (sym (only-is (lowest_of beside) (small (lowest_of beside) (up (lowest_of beside) p_e)))) is-u) (
            sub_out y in-y sub-y,
            λ (y0 : bit_xor y (2 ^ u) ≡ 0). omega (arith, put_same x (lowest_of beside) out, put_other y u (lowest_of beside) (apart (lowest_of beside) p_e), ap (λ (m : ℕ). bit m (lowest_of beside)) y0, bit-of-zero (lowest_of beside)),
            omega (arith, ones-put (lowest_of beside) x out, ones-drop u y in-y),
          )
        where
          y : ℕ
          y = bit_xor x (2 ^ lowest_of beside)

          out : bit x (lowest_of beside) ≡ 0
          out = pick_out (bit-cases x (lowest_of beside))
            where
              pick_out : (bit x (lowest_of beside) ≡ 0) ⊎ (bit x (lowest_of beside) ≡ 1) → bit x (lowest_of beside) ≡ 0
              pick_out (inl k) = k
              pick_out (inr k) = absurd (omega (arith, and_in beside x (lowest_of beside) in-a k, ap (λ (m : ℕ). bit m (lowest_of beside)) o, bit-of-zero (lowest_of beside)))

          in-y : In u y
          in-y = put_other x (lowest_of beside) u (λ d. apart (lowest_of beside) p_e (sym d)) ∙ has-true x u t

          sub-y : Sub y S
          sub-y i h = at (put-cases x (lowest_of beside) i h)
            where
              at : (i ≡ lowest_of beside) ⊎ In i x → In i S
              at (inl d) = subst (λ (m : ℕ). In m S) (sym d) (up (lowest_of beside) p_e)
              at (inr k) = f i k

-- ---- the loop

pub detour-few : (m : ℕ) → detour_of m ≤ m
detour-few m = go (eqb m 2) refl
  where
    go : (t : Bool) → eqb m 2 ≡ t → pick t 2 0 ≤ m
    go true e = omega (arith, eqb-true m 2 e)
    go false e = omega arith

-- so many moves are sure to come, and one, where the gathering is sure to work
pub record Bounded (near os : List ℕ) (k S x n bound : ℕ) : Type 0 where
  pub sure : Bool
  pub works : Whenever sure (Whole near os k S x)
  pub least : bound ≤ n + least_of sure x

module _ (near os : List ℕ) where
  -- what o leaves of x is to be gathered by the first k + 1 qubits, which S has
  abbrev Next : ℕ → ℕ → ℕ → Out → Type 0
  Next k S x o = Whole near os k S o.left × Shrinks x o

  back_on : (k S x u d m : ℕ) (o : Out) → Symm near → S < 2 ^ 20 → Along near os k S → Sub x S → x ≢ 0 → 0 < k → u ≡ get_or os k 0 → d ≡ only_of u → m ≡ get_or near u 0
      → o ≡ out_at (bit_and m (bit_xor S d)) u x → Next (k - 1) (bit_xor S d) x o
  back_on k S x u d m o sy low (root e) f ne h eu ed em eo = absurd (omega arith)
  back_on k S x u d m o sy low (then {k = j} {E = E} w a z hw n e) f ne h eu ed em eo =
      subst (λ (i : ℕ). Next i (bit_xor S d) x o) one_less
      (subst (λ (T : ℕ). Next j T x o) (sym to_e) (
        record {
          symm = sy;
          low = sub-lt E S 20 (up near E S q low z e) low;
          along = a;
          part = part.0;
          some = part.1;
        },
        part.2,
      ))
    where
      one_less : j ≡ suc j - 1
      one_less = omega arith

      q : ℕ
      q = get_or os (suc j) 0

      to_e : bit_xor S d ≡ E
      to_e = ap₂ bit_xor e (ed ∙ ap only_of eu ∙ only-is q (small near E S q low z e q (in-S near E S q low z e))) ∙ xor-cancel E (2 ^ q)

      is : o ≡ out_at (bit_and (get_or near q 0) E) q x
      is = eo ∙ ap₂ (λ (b T : ℕ). out_at (bit_and b T) u x) em to_e ∙ ap (λ (i : ℕ). out_at (bit_and (get_or near i 0) E) i x) eu

      part : TakenFrom near E S q low z e x o
      part = subst (TakenFrom near E S q low z e x) (sym is) (taken near E S q low z e w x hw (sy w q n) f ne)

  module _ (b : Bool) (k S x : ℕ) (t : Whenever b (Whole near os k S x)) where
    module _ (n total bound : ℕ) (c : Counting near os k S x n total) (l : bound ≤ n + least_of b x) where
      pub bound-few : bound ≤ 58
      unfolding size_of
      bound-few = go b refl l
        where
          go : (b₁ : Bool) → b ≡ b₁ → bound ≤ n + least_of b₁ x → bound ≤ 58
          go true y l = omega (arith, c.few, l, ones-le 20 x (sub-lt x S 20 (t y).part (t y).low))
          go false y l = omega (arith, c.few, l)

      pub bound-most : (most : ℕ) → most < bound → most ≡ min most total
      unfolding size_of
      bound-most most g = go b refl l
        where
          go : (b₁ : Bool) → b ≡ b₁ → bound ≤ n + least_of b₁ x → most ≡ min most total
          go true y l =
              let w = t y in
              let r = gathers-along w.symm w.low w.along x w.part w.some in
              omega (arith, g, l, c.count, turns-lose (gather_from near os k S x) x, ap ones r.done, ones-pow (get_or os 0 0))
          go false y l = omega (arith, g, l, c.count)

    module _ (j u d m : ℕ) (o : Out) (h : 0 < k) (ej : j ≡ k - 1) (eu : u ≡ get_or os k 0) (ed : d ≡ only_of u) (em : m ≡ get_or near u 0) (eo : o ≡ out_at (bit_and m (bit_xor S d)) u x) where
      next : Whenever b (Next (k - 1) (bit_xor S d) x o)
      next y =
          let w = t y in
          back_on k S x u d m o w.symm w.low w.along w.part w.some h eu ed em eo

      pub whole-next : Whenever b (Whole near os j (bit_xor S d) o.left)
      whole-next y = rw ej ((next y).0)

      pub bound-next : (n bound e : ℕ) → bound ≤ n + least_of b x → e ≡ detour_of o.moves → bound + e ≤ n + o.moves + least_of b o.left
      unfolding size_of
      bound-next n bound e l ee = go b refl l
        where
          go : (b₁ : Bool) → b ≡ b₁ → bound ≤ n + least_of b₁ x → bound + e ≤ n + o.moves + least_of b₁ o.left
          go true y l = omega (arith, l, ee, (next y).1)
          go false y l = omega (arith, l, ee, detour-few o.moves)

-- ---- from the order at a member

pub whole-start : (near : List ℕ) (Q v x k : ℕ) (b : Bool) → k ≡ length (order_of near Q v) - 1 → Whenever b (Works near Q x) → has x v ≡ true → Whenever b (Whole near (order_of near Q v) k Q x)
whole-start near Q v x k b e t hv y =
    rw e
    (record {
      symm = w.sure.symm;
      low = w.sure.low;
      along = order-along near Q v w.sure.low w.sure.joined (w.part v (has-true x v hv));
      part = w.part;
      some = λ (z : x ≡ 0). omega (arith, has-true x v hv, ap (λ (m : ℕ). bit m v) z, bit-of-zero v);
    })
  where
    w : Works near Q x
    w = t y

-- ---- a column

pub works : (near : List ℕ) (Q x : ℕ) → Tested near Q → bit_and x Q ≡ x → Works near Q x
works near Q x t e = record { sure = sure-of near Q t; part = λ i m. (in_and x Q i (subst (In i) (sym e) m)).1 }
