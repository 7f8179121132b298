-- One pass over the columns shows which qubits are columns by themselves. For no other qubit is anything struck off. Assumes nothing.
use mathlib.Core.Path.{◌≡◌, refl, sym, ap, ◌∙◌, subst}
use mathlib.Core.Bool.{Bool, true, false}
use mathlib.Core.List.{List, [], ◌∷◌}
use Prim.Native.Nat.{ℕ, zero, suc, ◌+◌, ◌/◌, ◌%◌, ◌≤◌, ◌<◌, max}
use native.Mathlib.Nat.{le_of_suc-le-suc, not-suc-le-zero}
use native.Mathlib.Numerals.{add-one}
use native.Mathlib.Omega.{arith}
use lib.Bits.{bit_or, or_zero_r}
use lib.Count.{count_trailing_zeros, under}
use lib.ListN.{length, get_or, set, drop, drop_of_length-le}
use lib.Seq.{drop-cons}
use Rattle.sets.specs.Pick.{pick}
use Rattle.sets.specs.Bit.{bit, has, In}
use Rattle.sets.specs.Size.{single_of, lowest_of}
use Rattle.sets.proofs.Bits.{bit-zero, bit-suc, bit-lt, bit-or, bit-of-zero, or_assoc}
use Rattle.sets.proofs.Words.{has-false, out-has}
use Rattle.gates.specs.declared.gate.Gate.TheVariants.{Rotation}
use Rattle.columns.specs.Pieces.{Piece, piece, idle, followed_by, Memory, held, wrote}
use Rattle.columns.specs.Striking.{lone_at, strike_one, strike_row, strike_from, strike_off, alone_of, singles_of}
use Rattle.columns.proofs.Piecing.{wrote_none}
use Rattle.columns.proofs.Strikes.{single-zero, strike-no, lone-other, lone-many}

-- no column is the qubit q alone
abbrev pub Without : ℕ → List ℕ → Type 0
Without q xs = (k : ℕ) → lone_at q (get_or xs k 0) ≡ false

-- ---- the pass

pub alone-yes : (x : ℕ) → single_of x ≡ true → x ≡ alone_of x
unfolding alone_of
alone-yes x e = rw e

singles-cons : (x : ℕ) (xs : List ℕ) → singles_of (x ∷ xs) ≡ bit_or (alone_of x) (singles_of xs)
unfolding singles_of
singles-cons x xs = refl

pub singles-next : (xs : List ℕ) (k s : ℕ) → k < length xs → bit_or (bit_or s (alone_of (get_or xs k 0))) (singles_of (drop (k + 1) xs)) ≡ bit_or s (singles_of (drop k xs))
singles-next xs k s h =
    or_assoc s (alone_of (get_or xs k 0)) (singles_of (drop (k + 1) xs))
    ∙ ap (bit_or s) (ap (λ (j : ℕ). bit_or (alone_of (get_or xs k 0)) (singles_of (drop j xs))) (add-one k) ∙ sym (singles-cons (get_or xs k 0) (drop (suc k) xs)) ∙ ap singles_of (sym (drop-cons xs k 0 h)))

pub singles-end : (xs : List ℕ) (k s : ℕ) → length xs ≤ k → bit_or s (singles_of (drop k xs)) ≡ s
unfolding singles_of
singles-end xs k s h = ap (λ (l : List ℕ). bit_or s (singles_of l)) (drop_of_length-le xs h) ∙ or_zero_r s

-- ---- what it shows

lowest_set : (k x : ℕ) → count_trailing_zeros k x < k → In (count_trailing_zeros k x) x
unfolding count_trailing_zeros
lowest_set zero x l = absurd (not-suc-le-zero l)
lowest_set (suc k) x l = go (x % 2) refl l (lowest_set k (x / 2))
  where
    go : (b : ℕ) → x % 2 ≡ b → under b (count_trailing_zeros k (x / 2)) < suc k → (count_trailing_zeros k (x / 2) < k → In (count_trailing_zeros k (x / 2)) (x / 2)) → In (under b (count_trailing_zeros k (x / 2))) x
    go zero e h ih = bit-suc x (count_trailing_zeros k (x / 2)) ∙ ih (le_of_suc-le-suc h)
    go (suc b) e h ih = omega (arith, bit-zero x, bit-lt x 0)

lone-out : (q x : ℕ) → q < 32 → bit (alone_of x) q ≡ 0 → lone_at q x ≡ false
unfolding lowest_of
lone-out q x h z = go (single_of x) refl
  where
    low : lowest_of x ≡ q → In q x
    low e = subst (λ (i : ℕ). In i x) e (lowest_set 32 x (omega (arith, e)))

    go : (b : Bool) → single_of x ≡ b → lone_at q x ≡ false
    go true s = lone-other q x (λ (e : lowest_of x ≡ q). omega (arith, low e, z, ap (λ (y : ℕ). bit y q) (alone-yes x s)))
    go false s = lone-many q x s

-- the set s has every qubit that is a column by itself
abbrev pub Shows : ℕ → List ℕ → Type 0
Shows s xs = (q : ℕ) → q < 20 → has s q ≡ false → Without q xs

out-singles : (q : ℕ) → q < 32 → (xs : List ℕ) → bit (singles_of xs) q ≡ 0 → Without q xs
out-singles q h [] z k = lone-many q 0 single-zero
out-singles q h (x ∷ xs) z k = go k (out-singles q h xs)
  where
    either : max (bit (alone_of x) q) (bit (singles_of xs) q) ≡ 0
    either = sym (bit-or (alone_of x) (singles_of xs) q) ∙ ap (λ (s : ℕ). bit s q) (sym (singles-cons x xs)) ∙ z

    go : (k : ℕ) → (bit (singles_of xs) q ≡ 0 → Without q xs) → lone_at q (get_or (x ∷ xs) k 0) ≡ false
    go zero rest = lone-out q x h (omega (arith, either))
    go (suc k) rest = rest (omega (arith, either)) k

pub singles-named : (s : ℕ) (xs : List ℕ) → s ≡ singles_of xs → Shows s xs
singles-named s xs e q h n = out-singles q (omega arith) xs (ap (λ (t : ℕ). bit t q) (sym e) ∙ has-false s q n)

-- ---- a qubit that is no column by itself is passed over

then-idle : (xs : List ℕ) (k : List ℕ → Piece) → followed_by (idle xs) k ≡ k xs
unfolding followed_by
then-idle xs k = refl

module _ (angles xs : List ℕ) where
  row-idle : (d k q : ℕ) → Without q xs → strike_row d k q angles xs ≡ idle xs
  unfolding strike_row
  row-idle zero k q w = refl
  row-idle (suc d) k q w =
      ap (λ (p : Piece). followed_by p (λ ys. strike_row d (k + 1) q angles ys)) (strike-no q angles k xs (w k))
      ∙ then-idle xs (λ ys. strike_row d (k + 1) q angles ys) ∙ row-idle d (k + 1) q w

  from-idle : (d q : ℕ) → ((r : ℕ) → r < q + d → Without r xs) → strike_from d q angles xs ≡ idle xs
  unfolding strike_from
  from-idle zero q w = refl
  from-idle (suc d) q w =
      ap (λ (p : Piece). followed_by p (λ ys. strike_from d (q + 1) angles ys)) (row-idle (length xs) 0 q (w q (omega arith)))
      ∙ then-idle xs (λ ys. strike_from d (q + 1) angles ys) ∙ from-idle d (q + 1) (λ r h. w r (omega arith))

  pub off-idle : ((q : ℕ) → q < 20 → Without q xs) → strike_off angles xs ≡ idle xs
  unfolding strike_off
  off-idle w = from-idle 20 0 w

module _ (angles xs out : List ℕ) (at s : ℕ) (n : Shows s xs) where
  pub row-passed : (q : ℕ) → q < 20 → has s q ≡ false → held xs out at ≡ wrote out at (strike_row (length xs) 0 q angles xs)
  row-passed q h e = wrote_none out at xs ∙ ap (wrote out at) (sym (row-idle angles xs (length xs) 0 q (n q h e)))

  pub none-struck : s ≡ 0 → held xs out at ≡ wrote out at (strike_off angles xs)
  none-struck e =
      wrote_none out at xs
      ∙ ap (wrote out at) (sym (off-idle angles xs (λ q h. n q h (out-has s q (ap (λ (t : ℕ). bit t q) e ∙ bit-of-zero q)))))

-- ---- striking off makes no column of one qubit

set-without : (r : ℕ) (xs : List ℕ) (k : ℕ) → Without r xs → Without r (set xs k 0)
set-without r [] k w j = w j
set-without r (x ∷ xs) zero w zero = lone-many r 0 single-zero
set-without r (x ∷ xs) zero w (suc j) = w (suc j)
set-without r (x ∷ xs) (suc k) w zero = w zero
set-without r (x ∷ xs) (suc k) w (suc j) = set-without r xs k (λ i. w (suc i)) j

module _ (r q : ℕ) (angles : List ℕ) where
  one-without : (k : ℕ) (xs : List ℕ) → Without r xs → Without r (strike_one q angles k xs).cols
  unfolding strike_one
  one-without k xs w = go (lone_at q (get_or xs k 0))
    where
      go : (t : Bool) → Without r (pick t (piece (set xs k 0) (Rotation q (get_or angles k 0) ∷ [])) (idle xs)).cols
      go true = set-without r xs k w
      go false = w

  row-without : (d k : ℕ) (xs : List ℕ) → Without r xs → Without r (strike_row d k q angles xs).cols
  unfolding strike_row followed_by
  row-without zero k xs w = w
  row-without (suc d) k xs w = row-without d (k + 1) (strike_one q angles k xs).cols (one-without k xs w)

pub named-still : (q : ℕ) (angles xs out : List ℕ) (at s : ℕ) {ys o : List ℕ} {a : ℕ} → Shows s xs → held ys o a ≡ wrote out at (strike_row (length xs) 0 q angles xs) → Shows s ys
unfolding wrote
named-still q angles xs out at s n e r h m =
    subst (Without r) (sym (ap (λ (w : Memory). w.cols) e)) (row-without r q angles (length xs) 0 xs (n r h m))
