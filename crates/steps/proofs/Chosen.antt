-- On a connected set of at least two qubits there is a spare qubit, and the chosen qubit has a neighbour. Assumes nothing.
use mathlib.Core.Path.{◌≡◌, sym, ap, ◌∙◌}
use mathlib.Core.Logic.{◌≢◌}
use mathlib.Core.Bool.{Bool, true, false}
use mathlib.Core.List.{List}
use Prim.Native.Nat.{ℕ, ◌^◌, ◌≤◌, ◌<◌}
use native.Mathlib.Omega.{arith}
use lib.ListN.{get_or}
use lib.Bits.{bit_and}
use lib.Count.{ones}
use Rattle.sets.specs.Bit.{bit, has, In}
use Rattle.sets.proofs.Members.{in-lt, some-bit, in_and, and_in}
use Rattle.sets.proofs.Ones.{ones_of_zero}
use Rattle.sets.proofs.Words.{has-true, in-has}
use Rattle.chip.specs.Graph.{Near, Symm, Joined}
use Rattle.chip.proofs.Growth.{joined-neighbour}
use Rattle.spares.specs.Spare.{spare_of}
use Rattle.spares.proofs.Spares.{spare-in, spare-other}
use Rattle.sets.specs.Tables.{tab, one}
use Rattle.sets.proofs.Tabling.{tab-at, sum-le}
use Rattle.steps.specs.Selection.{count_of, one_at, row_of}
use Rattle.steps.specs.Choice.{best_of, more_of, equal_of, over, sparing, without, beside, partner}
use Rattle.steps.proofs.Selecting.{one-at-le}
use Rattle.steps.proofs.Best.{best-is}
use Rattle.steps.proofs.Meets.{rest_in, rest_out, rest-sub}

row-most : (sel : List Bool) (xs : List ℕ) (q : ℕ) → row_of sel xs q ≤ count_of sel
unfolding row_of count_of
row-most sel xs q = sum-le 256 (λ k. one (one_at q (get_or sel k false) (get_or xs k 0))) (λ k. one (get_or sel k false)) (λ k l. one-at-le q (get_or sel k false) (get_or xs k 0))

equal-most : (sel : List Bool) (xs : List ℕ) (q : ℕ) → equal_of sel xs q ≤ count_of sel
unfolding equal_of more_of
equal-most sel xs q = omega (arith, row-most sel xs q)

module _ (near : List ℕ) (Q : ℕ) (low : Q < 2 ^ 20) (sy : Symm near) (j : Joined near Q) (two : 2 ≤ ones Q) (sel : List Bool) (xs : List ℕ) where
  pub spare-found : spare_of near Q (sparing near Q sel xs) ≡ true
  unfolding sparing
  spare-found =
      let some : Q ≢ 0 = λ z. omega (arith, two, ap ones z, ones_of_zero) in
      let v = some-bit Q some in
      let u = spare-other near Q low sy j v.0 v.1 two in
      let l : u.0 < 20 = in-lt 20 Q u.0 low (spare-in near Q low u.0 u.2) in
      let b = best-is (tab 20 (spare_of near Q)) (tab 20 (equal_of sel xs)) (over sel) u.0 l (tab-at 20 (spare_of near Q) u.0 false l ∙ u.2)
      (omega (arith, tab-at 20 (equal_of sel xs) u.0 0 l, equal-most sel xs u.0)) in
      sym (tab-at 20 (spare_of near Q) (best_of (tab 20 (spare_of near Q)) (tab 20 (equal_of sel xs)) (over sel)) false b.below) ∙ b.taken

  pub partner-found : (r : ℕ) → In r Q → In (partner near Q r sel xs) (beside near Q r)
  unfolding partner beside
  partner-found r h =
      let n = joined-neighbour near Q r sy j h two in
      let ln : n.0 < 20 = in-lt 20 Q n.0 low n.2 in
      let f : ℕ → Bool = has (bit_and (get_or near r 0) (without Q r)) in
      let yes-n : f n.0 ≡ true = in-has _ n.0 (and_in (get_or near r 0) (without Q r) n.0 n.3 (rest_in Q r low h n.0 n.2 n.1)) in
      let b = best-is (tab 20 f) (tab 20 (row_of sel xs)) (over sel) n.0 ln (tab-at 20 f n.0 false ln ∙ yes-n)
      (omega (arith, tab-at 20 (row_of sel xs) n.0 0 ln, row-most sel xs n.0)) in
      let m : ℕ = best_of (tab 20 f) (tab 20 (row_of sel xs)) (over sel) in
      has-true (bit_and (get_or near r 0) (without Q r)) m (sym (tab-at 20 f m false b.below) ∙ b.taken)

-- m is a neighbour of r in Q
pub record Beside (near : List ℕ) (Q r m : ℕ) : Type 0 where
  pub inside : In m Q
  pub other : r ≢ m
  pub to : Near near r m

pub beside-is : (near : List ℕ) (Q r m : ℕ) → Q < 2 ^ 20 → In r Q → In m (beside near Q r) → Beside near Q r m
unfolding beside
beside-is near Q r m low h b =
    let a = in_and (get_or near r 0) (without Q r) m b in
    record {
      inside = rest-sub Q r low h m a.1;
      other = λ (e : r ≡ m). omega (arith, a.1, rest_out Q r low h, ap (bit (without Q r)) e);
      to = a.0;
    }
