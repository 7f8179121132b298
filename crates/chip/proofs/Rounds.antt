-- The neighbours of a set, one turn of a loop at a time, and the size of what rounds reach. Assumes nothing.
use mathlib.Core.Path.{◌≡◌, refl, sym, ap, ap₂, ◌∙◌}
use mathlib.Core.Bool.{true, false}
use mathlib.Core.List.{List, ◌∷◌}
use Prim.Native.Nat.{ℕ, zero, suc, ◌+◌, ◌/◌, ◌%◌, ◌^◌, ◌≤◌, ◌<◌}
use native.Mathlib.Nat.{lt_of_le_of_lt}
use native.Mathlib.Omega.{arith}
use native.Mathlib.Numerals.{add-one}
use lib.ListN.{length, get_or, drop, drop_of_length-le}
use lib.Seq.{drop-cons}
use lib.Pow.{shr-shr}
use lib.Bits.{bit_and, bit_or, or_zero_r, or_zero_l, or_lt, and_le_r}
use Rattle.sets.specs.Bit.{bit, has, when}
use Rattle.sets.proofs.Bits.{or_assoc}
use Rattle.sets.proofs.Words.{has-true, has-false}
use Rattle.chip.specs.Graph.{nbrs, grow, closure}

-- ---- the neighbours of a set: `all` so far, and those of the members from u on

abbrev pub from_on : List ℕ → ℕ → ℕ → ℕ
from_on near S u = nbrs (S / 2 ^ u) (drop u near)

nbrs-cons : (x : ℕ) (xs : List ℕ) (S : ℕ) → nbrs S (x ∷ xs) ≡ bit_or (when (S % 2) x) (nbrs (S / 2) xs)
unfolding nbrs
nbrs-cons x xs S = refl

nbrs-step : (near : List ℕ) (S u : ℕ) → u < length near → from_on near S u ≡ bit_or (when (bit S u) (get_or near u 0)) (from_on near S (u + 1))
unfolding bit
nbrs-step near S u h =
    ap (nbrs (S / 2 ^ u)) (drop-cons near u 0 h)
    ∙ nbrs-cons (get_or near u 0) (drop (suc u) near) (S / 2 ^ u)
    ∙ ap₂ (λ (a b : ℕ). bit_or (when (S / 2 ^ u % 2) (get_or near u 0)) (nbrs a (drop b near))) (shr-shr S u 1) (sym (add-one u))

pub nbrs-with : (near : List ℕ) (S u all : ℕ) → u < length near → has S u ≡ true → bit_or all (from_on near S u) ≡ bit_or (bit_or all (get_or near u 0)) (from_on near S (u + 1))
nbrs-with near S u all h e =
    ap (bit_or all) (nbrs-step near S u h ∙ ap (λ (b : ℕ). bit_or (when b (get_or near u 0)) (from_on near S (u + 1))) (has-true S u e))
    ∙ sym (or_assoc all (get_or near u 0) (from_on near S (u + 1)))

pub nbrs-without : (near : List ℕ) (S u all : ℕ) → u < length near → has S u ≡ false → bit_or all (from_on near S u) ≡ bit_or all (from_on near S (u + 1))
nbrs-without near S u all h e =
    ap (bit_or all) (nbrs-step near S u h ∙ ap (λ (b : ℕ). bit_or (when b (get_or near u 0)) (from_on near S (u + 1))) (has-false S u e) ∙ or_zero_l (from_on near S (u + 1)))

pub nbrs-start : (near : List ℕ) (S : ℕ) → bit_or 0 (from_on near S 0) ≡ nbrs S near
nbrs-start near S = or_zero_l (from_on near S 0) ∙ ap (λ (n : ℕ). nbrs n near) one
  where
    one : S / 2 ^ 0 ≡ S
    one = omega arith

pub nbrs-end : (near : List ℕ) (S u all : ℕ) → length near ≤ u → bit_or all (from_on near S u) ≡ all
unfolding nbrs
nbrs-end near S u all h = ap (λ (l : List ℕ). bit_or all (nbrs (S / 2 ^ u) l)) (drop_of_length-le near h) ∙ or_zero_r all

-- ---- the closure

module _ (near : List ℕ) (Q : ℕ) where
  pub closure-lt : (n k S : ℕ) → Q < 2 ^ n → S < 2 ^ n → closure near Q k S < 2 ^ n
  unfolding closure grow
  closure-lt n zero S hq hs = hs
  closure-lt n (suc k) S hq hs =
      closure-lt n k (bit_or S (bit_and (nbrs S near) Q)) hq (or_lt n S (bit_and (nbrs S near) Q) hs (lt_of_le_of_lt (and_le_r (nbrs S near) Q) hq))
