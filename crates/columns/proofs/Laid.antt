-- Columns that begin as the terms' parities and end struck off: the terms are laid. Assumes nothing.
use mathlib.Core.Path.{◌≡◌, sym, ap, ◌∙◌, subst}
use mathlib.Core.Logic.{◌≢◌}
use mathlib.Core.List.{List}
use Prim.Native.Nat.{ℕ, zero, suc, ◌-◌, ◌*◌, ◌/◌, ◌^◌, ◌≤◌, ◌<◌}
use native.Mathlib.Nat.{pow-suc}
use native.Mathlib.Omega.{arith}
use lib.Arith.{lt-one}
use lib.Dec.{eqb}
use lib.Count.{ones}
use lib.ListN.{length, get_or}
use Rattle.sets.specs.Pick.{pick}
use Rattle.sets.specs.Bit.{In, Sub}
use Rattle.sets.specs.Columns.{comb, units}
use Rattle.sets.proofs.Bits.{bit-of-zero, bit-suc}
use Rattle.sets.proofs.Members.{in-lt, sub-eq}
use Rattle.sets.proofs.Comb.{comb-units, get_or-units, length-units, comb-agree}
use Rattle.gates.specs.declared.gate.Gate.{Gate}
use Rattle.circuit.specs.Circuit.{run}
use Rattle.tallies.specs.Tally.{cnots_of}
use Rattle.columns.specs.Terms.{Bears, total_of, LaysTerms, due, left, live_one, live, Laying}
use Rattle.sets.proofs.Tabling.{sum-ext, sum-none, sum_same}
use Rattle.columns.proofs.Layings.{due-struck, due-is, live-one, live-none}

-- a part of a set of n qubits is a number below 2^n
pub sub-below : (n x Q : ℕ) → Sub x Q → Q < 2 ^ n → x < 2 ^ n
sub-below zero x Q f l =
    let z : Q ≡ 0 = lt-one l in
    let e : x ≡ 0 = sub-eq x 0 (λ i h. subst (In i) z (f i h)) (λ i h. absurd (omega (arith, h, bit-of-zero i))) in
    omega (arith, e)
sub-below (suc n) x Q f l =
    let l2 : Q < 2 ^ n * 2 = rw pow-suc at l in
    let h : x / 2 < 2 ^ n = sub-below n (x / 2) (Q / 2) (λ i k. sym (bit-suc Q i) ∙ f (suc i) (bit-suc x i ∙ k)) (omega arith) in
    rw pow-suc (omega arith)

-- where the wires of Q stand as at the start, a column inside Q stands for itself
pub comb-bears : (Q : ℕ) (W : List ℕ) (x : ℕ) → Q < 2 ^ 20 → length W ≡ 20 → Bears Q W → Sub x Q → comb x W ≡ x
comb-bears Q W x low l b f =
    comb-agree W (units 20) x (l ∙ sym (length-units 20)) (λ i h. b i (f i h) ∙ sym (get_or-units 20 i (in-lt 20 Q i low (f i h))))
    ∙ comb-units 20 x (sub-below 20 x Q f low)

module _ (near : List ℕ) (Q : ℕ) (ps angles : List ℕ) (g : List Gate) (ys : List ℕ) (low : Q < 2 ^ 20)
    (term : (k : ℕ) → k < length ps → Sub (get_or ps k 0) Q × (get_or ps k 0 ≢ 0)) (lays : Laying near Q angles ps g ys) (struck : (k : ℕ) → get_or ys k 0 ≡ 0) where
  nothing-due : (p : ℕ) (W : List ℕ) → left p W angles ys ≡ 0
  unfolding left
  nothing-due p W = sum-none (length ys) (λ k. due p W (get_or ys k 0) (get_or angles k 0)) (λ k l. due-struck p W (get_or ys k 0) (get_or angles k 0) (struck k))

  due_all : (W : List ℕ) → length W ≡ 20 → Bears Q W → (p : ℕ) → left p W angles ps ≡ total_of p ps angles
  unfolding left total_of
  due_all W l b p =
      sum-ext (length ps) (λ k. due p W (get_or ps k 0) (get_or angles k 0)) (λ k. pick (eqb (get_or ps k 0) p) (get_or angles k 0) 0) (λ k h.
      due-is p W (get_or ps k 0) (get_or angles k 0) (term k h).1 ∙ ap (λ (x : ℕ). pick (eqb x p) (get_or angles k 0) 0) (comb-bears Q W (get_or ps k 0) low l b (term k h).0))

  live_all : live ps ≡ length ps
  unfolding live
  live_all = sum_same (length ps) (λ k. live_one (get_or ps k 0)) (λ k h. live-one (get_or ps k 0) (term k h).1)

  live_end : live ys ≡ 0
  unfolding live
  live_end = sum-none (length ys) (λ k. live_one (get_or ys k 0)) (λ k l. live-none (get_or ys k 0) (struck k))

  pub lays-terms : cnots_of g ≤ 2 * (ones Q - 1) * length ps → LaysTerms near Q ps angles g
  lays-terms bound =
      record {
        sums = λ W l b p. omega (arith, lays.sums W l p, nothing-due p (run g W), due_all W l b p);
        inside = lays.inside;
        small = λ h. lays.small (λ k l. h k);
        rotations = omega (arith, lays.rotations, live_all, live_end);
        cnots = bound;
      }
