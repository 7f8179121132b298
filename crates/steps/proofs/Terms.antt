-- The steps lay the terms of a connected set of qubits, and always have a qubit to go on with. Assumes nothing.
use mathlib.Core.Path.{◌≡◌, refl, sym, ap, ◌∙◌, subst}
use mathlib.Core.Logic.{◌≢◌, inl}
use mathlib.Core.Bool.{Bool, true, false}
use mathlib.Core.List.{List, ◌++◌}
use Prim.Native.Nat.{ℕ, ◌-◌, ◌*◌, ◌^◌, ◌≤◌, ◌<◌}
use native.Mathlib.Omega.{arith}
use native.Mathlib.Nat.{mul-le-mul_left}
use native.Mathlib.Decide.{dec_lt}
use lib.ListN.{length, get_or, get_or-eq_default}
use lib.Count.{ones}
use Rattle.sets.specs.Bit.{Sub}
use Rattle.sets.specs.Size.{single_of, size_of}
use Rattle.tallies.specs.Tally.{cnots_of}
use Rattle.chip.specs.Graph.{Symm, Joined}
use Rattle.sets.specs.Tables.{sum_to, one}
use Rattle.columns.specs.Pieces.{Piece, followed_by}
use Rattle.columns.specs.Striking.{strike_off}
use Rattle.columns.specs.Terms.{LaysTerms}
use Rattle.sets.proofs.Tabling.{sum-front, sum_ones, one-le}
use Rattle.columns.proofs.Layings.{laying-then}
use Rattle.columns.proofs.Laid.{lays-terms}
use Rattle.columns.proofs.Strikes.{single-zero}
use Rattle.columns.proofs.Struck.{SinglesIn, fit_of, Strikes, strikes-off, off-single, off-other}
use Rattle.steps.specs.Selection.{count_of, live_of}
use Rattle.steps.specs.Steps.{base_step, steps_for}
use Rattle.steps.specs.Neighbours.{BaseGoesOn, GoesOn}
use Rattle.steps.proofs.Apart.{Many, many-of, reached-zero}
use Rattle.steps.proofs.Splits.{never_true, live_in, live_out}
use Rattle.steps.proofs.Meets.{StepReady, StepDone}
use Rattle.steps.proofs.Stepping.{base-meets}
use Rattle.sets.proofs.Deciding.{never}
use Rattle.tallies.proofs.Tallies.{cnots-append}

module _ (near : List ℕ) (Q : ℕ) (ps angles : List ℕ) (low : Q < 2 ^ 20) (sy : Symm near) (j : Joined near Q) (few : length ps ≤ 256)
    (term : (k : ℕ) → k < length ps → Sub (get_or ps k 0) Q × (get_or ps k 0 ≢ 0)) where
  -- a column that is not 0 is a term's
  termed : (k : ℕ) → get_or ps k 0 ≢ 0 → (k < length ps) × Sub (get_or ps k 0) Q
  termed k h = go (dec_lt k (length ps))
    where
      go : Dec (k < length ps) → (k < length ps) × Sub (get_or ps k 0) Q
      go (yes l) = (l, (term k l).0)
      go (no l) = absurd (h (get_or-eq_default ps 0 (omega arith)))

  fit : SinglesIn Q ps
  fit = fit_of Q ps low (λ k s. (termed k (λ z. never s (ap single_of z ∙ single-zero))).1)

  abbrev A : Piece
  A = strike_off angles ps

  abbrev ys : List ℕ
  ys = A.cols

  singles : Strikes near Q angles ps A
  singles = strikes-off near Q angles ps fit

  few-left : length ys ≤ 256
  few-left = omega (arith, few, singles.lays.size)

  -- what is left is as it was, and no column of one qubit
  left_over : (k : ℕ) → get_or ys k 0 ≢ 0 → (get_or ys k 0 ≡ get_or ps k 0) × (single_of (get_or ps k 0) ≡ false)
  left_over k h = go (single_of (get_or ps k 0)) refl
    where
      go : (b : Bool) → single_of (get_or ps k 0) ≡ b → (get_or ys k 0 ≡ get_or ps k 0) × (single_of (get_or ps k 0) ≡ false)
      go true s = absurd (h (off-single near Q angles ps fit k s))
      go false s = (off-other near Q angles ps fit k s, s)

  abbrev sel : List Bool
  sel = live_of ys

  ready : StepReady Q sel ys
  ready =
      record {
        places = λ k e. (live_in ys k e).0;
        chosen = λ k e. chosen k (live_in ys k e).1;
        aside = λ k e. inl (live_out ys k few-left e);
      }
    where
      chosen : (k : ℕ) → get_or ys k 0 ≢ 0 → Sub (get_or ys k 0) Q × Many (get_or ys k 0)
      chosen k h =
          let o = left_over k h in
          let hx : get_or ps k 0 ≢ 0 = λ z. h (o.0 ∙ z) in
          subst (λ (x : ℕ). Sub x Q × Many x) (sym o.0) ((termed k hx).1, many-of (get_or ps k 0) hx (λ s. never s o.1))

  abbrev B : Piece
  B = base_step (size_of Q) near angles Q sel ys

  size_is : size_of Q ≡ ones Q
  unfolding size_of
  size_is = refl

  meets : StepDone near Q angles sel ys B × BaseGoesOn (size_of Q) near angles Q sel ys
  meets = base-meets near angles sy (size_of Q) Q sel ys low j (omega (arith, size_is)) ready

  done : StepDone near Q angles sel ys B
  done = meets.0

  struck : (k : ℕ) → get_or B.cols k 0 ≡ 0
  struck k = go (get_or sel k false) refl
    where
      go : (b : Bool) → get_or sel k false ≡ b → get_or B.cols k 0 ≡ 0
      go true e = done.struck k e
      go false e = reached-zero (done.others k e) (live_out ys k few-left e)

  -- no more columns than terms
  count-terms : count_of sel ≤ length ps
  unfolding count_of
  count-terms =
      let f : ℕ → ℕ = λ k. one (get_or sel k false) in
      let e : sum_to 256 f ≡ sum_to (length ps) f =
      sum-front 256 (length ps) f few (λ k (h : length ps ≤ k) m.
      ap one (never_true (get_or sel k false) (λ t. let o = (live_in ys k t).1 in let l = (termed k (λ z. o ((left_over k o).0 ∙ z))).0 in omega (arith, l, h)))) in
      omega (arith, e, sum_ones (length ps) f (λ k l. one-le (get_or sel k false)))

  bound : cnots_of (A.laid ++ B.laid) ≤ 2 * (ones Q - 1) * length ps
  bound = omega (arith, cnots-append A.laid B.laid, singles.cnots, done.cnots, mul-le-mul_left (2 * (ones Q - 1)) count-terms)

  -- on an island, any connected set with any terms inside it, every base step has a spare qubit and every ones step a neighbour to go on with
  pub always-a-neighbour : GoesOn near Q ps angles
  unfolding GoesOn
  always-a-neighbour = meets.1

  -- and every term is laid, on couplers inside, within the bound
  pub steps-lay : LaysTerms near Q ps angles (steps_for near Q ps angles).laid
  unfolding steps_for followed_by
  steps-lay = lays-terms near Q ps angles (A.laid ++ B.laid) B.cols low term (laying-then near Q angles singles.lays done.lays) struck bound
