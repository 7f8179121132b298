-- Turning every column, one after another. Assumes nothing.
use mathlib.Core.Path.{◌≡◌, refl, sym, ap, ◌∙◌}
use mathlib.Core.Bool.{true, false}
use mathlib.Core.List.{List, [], ◌∷◌, map}
use Prim.Native.Nat.{ℕ, ◌+◌, ◌≤◌, ◌<◌}
use native.Mathlib.Omega.{arith}
use lib.Bits.{bit_xor, xor_zero_r}
use lib.ListN.{length, get_or, set, length-map, length-set, get_or-map}
use lib.Seq.{ext_get_or, get_or-set_other}
use Rattle.sets.specs.Bit.{has, when}
use Rattle.sets.specs.Size.{only_of}
use Rattle.sets.specs.Columns.{turn}
use Rattle.sets.proofs.Words.{has-true, has-false}
use Rattle.sets.proofs.Turn.{turn-none}
use Rattle.gates.specs.declared.gate.Gate.TheVariants.{Cnot}
use Rattle.emitting.specs.Emit.{emit, emit_at}
use Rattle.columns.specs.Pieces.{piece, held, wrote}
use Rattle.columns.specs.Turning.{turn_all, lay_cnot}
use Rattle.sets.proofs.Tabling.{Filled, filled_next}
use Rattle.columns.proofs.Piecing.{held-is}

-- ---- one column

pub turned-yes : (c t x y : ℕ) → has x t ≡ true → y ≡ only_of c → bit_xor x y ≡ turn c t x
unfolding turn
turned-yes c t x y h e = ap (bit_xor x) e ∙ ap (λ (b : ℕ). bit_xor x (when b (only_of c))) (sym (has-true x t h))

pub turned-no : (c t x : ℕ) → has x t ≡ false → x ≡ turn c t x
unfolding turn
turned-no c t x h = sym (ap (λ (b : ℕ). bit_xor x (when b (only_of c))) (has-false x t h) ∙ xor_zero_r x)

-- ---- all columns

pub turn-all-length : (c t : ℕ) (xs : List ℕ) → length (turn_all c t xs) ≡ length xs
unfolding turn_all
turn-all-length c t xs = length-map xs (turn c t)

pub turn-all-at : (c t : ℕ) (xs : List ℕ) (k : ℕ) → get_or (turn_all c t xs) k 0 ≡ turn c t (get_or xs k 0)
unfolding turn_all
turn-all-at c t xs k = ap (get_or (map (turn c t) xs) k) (sym (turn-none c t)) ∙ get_or-map (turn c t) xs k 0

-- the loop: the first k are turned, and the rest stand as they did
pub record TurnedUpTo (c t : ℕ) (xs : List ℕ) (k : ℕ) (ys : List ℕ) : Type 0 where
  pub size : length ys ≡ length xs
  pub done : Filled 0 (λ j. turn c t (get_or xs j 0)) k ys
  pub rest : (j : ℕ) → k ≤ j → get_or ys j 0 ≡ get_or xs j 0

module _ (c t : ℕ) (xs : List ℕ) where
  pub turned_none : TurnedUpTo c t xs 0 xs
  turned_none = record { size = refl; done = λ k (l : k < 0). absurd (omega arith); rest = λ j l. refl }

  pub turned-next : (k : ℕ) (ys : List ℕ) (y : ℕ) → k < length xs → y ≡ turn c t (get_or ys k 0) → TurnedUpTo c t xs k ys → TurnedUpTo c t xs (k + 1) (set ys k y)
  turned-next k ys y l e r =
      record {
        size = length-set ys k y ∙ r.size;
        done = filled_next 0 (λ j. turn c t (get_or xs j 0)) k ys y (omega (arith, r.size)) (e ∙ ap (turn c t) (r.rest k (omega arith))) r.done;
        rest = λ j (h : k + 1 ≤ j). get_or-set_other ys k j y 0 (λ (d : j ≡ k). omega arith) ∙ r.rest j (omega arith);
      }

  pub turned-all : (k : ℕ) (ys : List ℕ) → length xs ≤ k → TurnedUpTo c t xs k ys → ys ≡ turn_all c t xs
  turned-all k ys l r =
      ext_get_or 0 ys (turn_all c t xs) (r.size ∙ sym (turn-all-length c t xs)) (λ j (h : j < length ys). r.done j (omega (arith, r.size)) ∙ sym (turn-all-at c t xs j))

pub cnot-wrote : (c t : ℕ) (xs out : List ℕ) (at : ℕ) (ys out' : List ℕ) (a : ℕ) → ys ≡ turn_all c t xs → out' ≡ emit out at (Cnot c t ∷ []) → a ≡ emit_at out at (Cnot c t ∷ [])
    → held ys out' a ≡ wrote out at (lay_cnot c t xs)
unfolding wrote lay_cnot
cnot-wrote c t xs out at ys out' a e f g = held-is e f g

-- ---- a laid CNOT as a piece

pub cnot-is : (c t : ℕ) (xs : List ℕ) → lay_cnot c t xs ≡ piece (turn_all c t xs) (Cnot c t ∷ [])
unfolding lay_cnot
cnot-is c t xs = refl
