-- How many moves a gathering has, counted along the order without laying them. Assumes nothing.
use mathlib.Core.Path.{◌≡◌, sym, ap, ap₂, ◌∙◌, subst}
use mathlib.Core.Logic.{◌≢◌, ◌⊎◌, inl, inr}
use mathlib.Core.Bool.{Bool, true, false}
use mathlib.Core.List.{List, ◌++◌}
use Prim.Native.Nat.{ℕ, suc, ◌+◌, ◌-◌, ◌*◌, ◌^◌, ◌≤◌, ◌<◌}
use native.Mathlib.Omega.{arith}
use native.Mathlib.Decide.{dec_lt}
use lib.Bits.{bit_and, bit_xor, and_zero_r}
use lib.ListN.{get_or, length, length-append}
use borrow.Author.Tests.{eq-eqb, ne_eqb, le-ltb}
use Rattle.sets.specs.Pick.{pick}
use Rattle.sets.specs.Bit.{bit, has, In}
use Rattle.sets.specs.Size.{lowest_of, only_of}
use Rattle.sets.proofs.Bits.{bit-pow-same, bit-cases, bit-of-zero}
use Rattle.sets.proofs.Members.{in_and, and_in, single-sub}
use Rattle.sets.proofs.Words.{in-has, out-has, has-past, only-is}
use Rattle.gathering.specs.Order.{order_of}
use Rattle.gathering.specs.Gather.{moves_at, left_at, gather_from, gather_of, most_moves}
use Rattle.gathering.proofs.OrderGrows.{order-few}
use Rattle.gathering.proofs.GatherWorks.{gather-step, gather_none, moves-few}
use Rattle.nearest.specs.Choice.{out_at}
use Rattle.nearest.specs.declared.choice.Out.{Out}

abbrev out : ℕ → ℕ → Out
out n x = record { moves = n; left = x }

-- ---- one qubit is taken out

-- what x has of u: nothing, or the set of u alone
module _ (u x d : ℕ) (ed : d ≡ only_of u) where
  pub own-none : x < 4294967296 → bit_and x d ≡ 0 → has x u ≡ false
  own-none l z = go (dec_lt u 32) (bit-cases x u)
    where
      go : Dec (u < 32) → (bit x u ≡ 0) ⊎ (bit x u ≡ 1) → has x u ≡ false
      go (no h) s = has-past x u l (omega arith)
      go (yes h) (inl s) = out-has x u s
      go (yes h) (inr s) =
          let own : In u d = subst (In u) (sym (ed ∙ only-is u h)) (bit-pow-same u) in
          absurd (omega (arith, and_in x d u s own, ap (λ (m : ℕ). bit m u) z, bit-of-zero u))

  pub own-some : bit_and x d ≢ 0 → (has x u ≡ true) × (bit_and x d ≡ only_of u)
  unfolding only_of
  own-some n = go (dec_lt u 32)
    where
      go : Dec (u < 32) → (has x u ≡ true) × (bit_and x d ≡ only_of u)
      go (no h) = absurd (n (ap (bit_and x) (ed ∙ ap (λ (t : Bool). pick t (2 ^ u) 0) (le-ltb u 32 (omega arith))) ∙ and_zero_r x))
      go (yes h) =
          let e : d ≡ 2 ^ u = ed ∙ only-is u h in
          let alone : bit_and x d ≡ 2 ^ u = single-sub u (bit_and x d) (λ i k. subst (In i) e (in_and x d i k).1) n in
          (in-has x u (in_and x d u (subst (In u) (sym alone) (bit-pow-same u))).0, alone ∙ sym (only-is u h))

module _ (a u x : ℕ) where
  pub out-not : has x u ≡ false → out 0 x ≡ out_at a u x
  unfolding out_at moves_at left_at
  out-not h = rw h

  pub out-alone : has x u ≡ true → bit_and a x ≡ 0 → a ≡ 0 → out 0 x ≡ out_at a u x
  unfolding out_at moves_at left_at
  out-alone h i z = rw (h, eq-eqb (bit_and a x) 0 i, eq-eqb a 0 z)

  pub out-two : (p d e : ℕ) → has x u ≡ true → bit_and a x ≡ 0 → a ≢ 0 → p ≡ lowest_of a → d ≡ only_of p → e ≡ only_of u → out 2 (bit_xor (bit_xor x d) e) ≡ out_at a u x
  unfolding out_at moves_at left_at
  out-two p d e h i n ep ed ee = rw (h, eq-eqb (bit_and a x) 0 i, ne_eqb a 0 n, ← ep, ed, ee)

  pub out_one : (e : ℕ) → has x u ≡ true → bit_and a x ≢ 0 → e ≡ only_of u → out 1 (bit_xor x e) ≡ out_at a u x
  unfolding out_at moves_at left_at
  out_one e h n ee = rw (h, ne_eqb (bit_and a x) 0 n, ee)

-- ---- the loop

-- n moves are counted; those of the first k members after the first are still to come
pub record Counting (near os : List ℕ) (k E x n total : ℕ) : Type 0 where
  pub few : n + 2 * k ≤ most_moves
  pub count : n + length (gather_from near os k E x) ≡ total

pub counting-start : (near : List ℕ) (Q v x k : ℕ) → k ≡ length (order_of near Q v) - 1 → Counting near (order_of near Q v) k Q x 0 (length (gather_of near Q v x))
unfolding gather_of
counting-start near Q v x k e =
    rw e (record { few = omega (arith, order-few near Q v); count = omega arith })

module _ (near os : List ℕ) (k E x n total : ℕ) (c : Counting near os k E x n total) where
  pub counting-next : (j u d m : ℕ) (o : Out) → 0 < k → j ≡ k - 1 → u ≡ get_or os k 0 → d ≡ only_of u → m ≡ get_or near u 0
      → o ≡ out_at (bit_and m (bit_xor E d)) u x → Counting near os j (bit_xor E d) o.left (n + o.moves) total
  unfolding out_at
  counting-next j u d m o p ej eu ed em eo =
      subst (λ (o : Out). Counting near os j (bit_xor E d) o.left (n + o.moves) total) (sym eo)
      (rw ej (record {
        few = omega (arith, c.few, moves-few a u x);
        count = omega (arith, c.count, ap length list, length-append (moves_at a u x) (gather_from near os (k - 1) F (left_at a u x)));
      }))
    where
      F : ℕ
      F = bit_xor E d

      a : ℕ
      a = bit_and m F

      list : gather_from near os k E x ≡ moves_at a u x ++ gather_from near os (k - 1) F (left_at a u x)
      list =
          ap (λ (j : ℕ). gather_from near os j E x) (omega arith) ∙ gather-step near os (k - 1) E x
          ∙ ap (λ (w : ℕ). moves_at (bit_and (get_or near w 0) (bit_xor E (only_of w))) w x ++ gather_from near os (k - 1) (bit_xor E (only_of w)) (left_at (bit_and (get_or near w 0) (bit_xor E (only_of w))) w x)) at
          ∙ ap₂ (λ (m w : ℕ). moves_at (bit_and m (bit_xor E w)) u x ++ gather_from near os (k - 1) (bit_xor E w) (left_at (bit_and m (bit_xor E w)) u x)) (sym em) (sym ed)
        where
          at : get_or os (suc (k - 1)) 0 ≡ u
          at = ap (λ (j : ℕ). get_or os j 0) (omega arith) ∙ sym eu

  pub counting-few : (u a : ℕ) (o : Out) → o ≡ out_at a u x → o.moves ≤ 2
  unfolding out_at
  counting-few u a o e = subst (λ (o : Out). o.moves ≤ 2) (sym e) (moves-few a u x)

  pub counting-all : k ≤ 0 → n ≡ total
  counting-all z = omega (arith, c.count, ap length (ap (λ (j : ℕ). gather_from near os j E x) zero-k ∙ gather_none near os E x))
    where
      zero-k : k ≡ 0
      zero-k = omega arith
