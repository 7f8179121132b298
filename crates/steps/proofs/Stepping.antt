-- The base step and the ones step always have a qubit to go on with, and they lay every selected column within the bound. Assumes nothing.
use mathlib.Core.Path.{◌≡◌, sym, subst}
use mathlib.Core.Logic.{◌≢◌, inr}
use mathlib.Core.Bool.{Bool, true, false}
use mathlib.Core.List.{List, ◌++◌}
use Prim.Native.Nat.{ℕ, zero, suc, ◌-◌, ◌*◌, ◌^◌, ◌≤◌, ◌<◌}
use native.Mathlib.Omega.{arith}
use native.Mathlib.Decide.{ℕ_discrete}
use lib.ListN.{get_or}
use lib.Count.{ones}
use Rattle.sets.specs.Bit.{In}
use Rattle.tallies.specs.Tally.{cnots_of}
use Rattle.chip.specs.Graph.{Symm, Joined}
use Rattle.spares.specs.Spare.{spare_of}
use Rattle.spares.proofs.Spares.{spare-in, spare-joined}
use Rattle.columns.specs.Pieces.{Piece, followed_by}
use Rattle.columns.proofs.Layings.{laying-then}
use Rattle.steps.specs.Selection.{count_of, zeros_of, ones_of, row_of}
use Rattle.steps.specs.Choice.{sparing, without, beside, partner}
use Rattle.steps.specs.Steps.{Step, moved, ones_step, base_step}
use Rattle.steps.specs.Neighbours.{Claim, OnesGoesOn, BaseGoesOn}
use Rattle.steps.proofs.Unfolding.{base_on, base-idle, base_on_lem, ones_then, ones_on, ones-idle, ones-on}
use Rattle.steps.proofs.Apart.{Safe, reached-trans, reached-safe}
use Rattle.steps.proofs.Splits.{count-some, split-count, ones-fewer}
use Rattle.steps.proofs.Bound.{bound-base, bound-ones}
use Rattle.steps.proofs.Meets.{rest-is, rest-low, rest-ones, StepReady, StepDone, StepMeets, done-idle, ready-two}
use Rattle.steps.proofs.Crossing.{Crossed, moved-is}
use Rattle.steps.proofs.Chosen.{spare-found, partner-found, Beside, beside-is}
use Rattle.steps.proofs.Halves.{zeros-ready, ones-have, ones-ready, halves-struck, halves-others, halves-lay}
use Rattle.tallies.proofs.Tallies.{cnots-append}

-- one qubit less
less_one : (Q r : ℕ) → Q < 2 ^ 20 → In r Q → ones Q - 1 ≡ ones (without Q r)
less_one Q r low h = omega (arith, rest-ones Q r low h)

module _ (near : List ℕ) (angles : List ℕ) (sy : Symm near) where
  -- the ones step above a step that meets what a base step must
  module _ (q : ℕ) (below : Step) (Below : Claim) (meets : StepMeets near angles q below Below)
      (Q r : ℕ) (low : Q < 2 ^ 20) (hr : In r Q) (j : Joined near Q) (jr : Joined near (without Q r)) (few : ones (without Q r) ≤ q) where
    abbrev S : ℕ
    S = without Q r

    -- the ones step for n columns at most, where each has a one at r
    abbrev pub OnesMeets : ℕ → Type 0
    OnesMeets n =
        (sel : List Bool) (xs : List ℕ) → StepReady Q sel xs → ((k : ℕ) → get_or sel k false ≡ true → In r (get_or xs k 0)) → count_of sel ≤ n
        → StepDone near Q angles sel xs (ones_step n below near angles Q r sel xs) × OnesGoesOn n below Below near angles Q r sel xs

    -- one ones step, where the next one meets it
    module _ (n : ℕ) (next : OnesMeets n) (sel : List Bool) (xs : List ℕ) (ready : StepReady Q sel xs) (has_r : (k : ℕ) → get_or sel k false ≡ true → In r (get_or xs k 0)) (l : count_of sel ≤ suc n) (ne : count_of sel ≢ 0) where
      two : 2 ≤ ones Q
      two = ready-two Q sel xs ready ne

      abbrev m : ℕ
      m = partner near Q r sel xs

      neighbour : In m (beside near Q r)
      neighbour = partner-found near Q low sy j two sel xs r hr

      b : Beside near Q r m
      b = beside-is near Q r m low hr neighbour

      abbrev M : Piece
      M = moved angles r m (row_of sel xs m) xs

      mv : Crossed near Q angles low r m hr b.inside b.other b.to (sy r m b.to) sel xs ready has_r (count-some sel ne) M
      mv = moved-is near Q angles low r m hr b.inside b.other b.to (sy r m b.to) sel xs ready has_r (count-some sel ne)

      abbrev ys : List ℕ
      ys = M.cols

      abbrev z : List Bool
      z = zeros_of r sel ys

      abbrev p : List Bool
      p = ones_of r sel ys

      abbrev B : Piece
      B = below S z ys

      abbrev O : Piece
      O = ones_step n below near angles Q r p B.cols

      abbrev Aside : Type 0
      Aside = (k : ℕ) → get_or sel k false ≡ false → Safe Q (get_or ys k 0)

      aside : Aside
      aside k e = reached-safe (mv.aside k e) (ready.aside k e)

      below-meets : StepDone near S angles z ys B × Below S z ys
      below-meets = meets S z ys (rest-low Q r low hr) jr few (zeros-ready near Q angles low r hr sel ys ready.places mv.chosen aside)

      first : StepDone near S angles z ys B
      first = below-meets.0

      fewer : count_of p < count_of sel
      fewer = let w = mv.freed in ones-fewer r sel ys w.0 w.1 w.2 w.3

      next-meets : StepDone near Q angles p B.cols O × OnesGoesOn n below Below near angles Q r p B.cols
      next-meets =
          next p B.cols (ones-ready near Q angles low r hr sel ys ready.places mv.chosen aside B first)
          (ones-have near Q angles low r hr sel ys ready.places mv.chosen aside B first) (omega (arith, fewer, l))

      second : StepDone near Q angles p B.cols O
      second = next-meets.0

      bound : cnots_of (M.laid ++ (B.laid ++ O.laid)) ≤ 2 * ones S * count_of sel
      bound =
          let c = bound-ones (ones S) (count_of z) (count_of p) (count_of sel) (cnots_of M.laid) (cnots_of B.laid) (cnots_of O.laid) (omega (arith, two, rest-ones Q r low hr)) mv.cnots first.cnots
          (subst (λ (u : ℕ). cnots_of O.laid ≤ 2 * u * count_of p) (less_one Q r low hr) second.cnots) (split-count r sel ys) fewer in
          omega (arith, c, cnots-append M.laid (B.laid ++ O.laid), cnots-append B.laid O.laid)

      done : StepDone near Q angles sel xs (ones_on below near angles Q r sel xs n m)
      unfolding ones_on ones_then followed_by
      done =
          record {
            lays = laying-then near Q angles mv.lays (halves-lay near Q angles low r hr sel ys ready.places mv.chosen aside B first O second);
            struck = halves-struck near Q angles low r hr sel ys ready.places mv.chosen aside B first O second;
            others = λ k e. reached-trans (mv.aside k e) (halves-others near Q angles low r hr sel ys ready.places mv.chosen aside B first O second k e);
            cnots = subst (λ (u : ℕ). cnots_of (M.laid ++ (B.laid ++ O.laid)) ≤ 2 * u * count_of sel) (sym (less_one Q r low hr)) bound;
          }

      ones-done : StepDone near Q angles sel xs (ones_step (suc n) below near angles Q r sel xs)
      ones-done = subst (StepDone near Q angles sel xs) (sym (ones-on below near angles Q r sel xs n ne)) done

    ones_none : (n : ℕ) (sel : List Bool) (xs : List ℕ) → StepReady Q sel xs → count_of sel ≡ 0 → StepDone near Q angles sel xs (ones_step n below near angles Q r sel xs)
    ones_none n sel xs ready e = subst (StepDone near Q angles sel xs) (sym (ones-idle below near angles Q r sel xs n e)) (done-idle near Q angles sel xs ready e)

    pub ones-meets : (n : ℕ) → OnesMeets n
    unfolding OnesGoesOn
    ones-meets zero sel xs ready has_r l = let e : count_of sel ≡ 0 = omega arith in (ones_none 0 sel xs ready e, e)
    ones-meets (suc n) sel xs ready has_r l = go (ℕ_discrete (count_of sel) 0) (ones-meets n)
      where
        go : Dec (count_of sel ≡ 0) → OnesMeets n → StepDone near Q angles sel xs (ones_step (suc n) below near angles Q r sel xs) × OnesGoesOn (suc n) below Below near angles Q r sel xs
        go (yes e) next = (ones_none (suc n) sel xs ready e, λ ne. absurd (ne e))
        go (no ne) next = (
          ones-done n next sel xs ready has_r l ne,
          λ (ne : count_of sel ≢ 0). (neighbour n next sel xs ready has_r l ne, (below-meets n next sel xs ready has_r l ne).1, (next-meets n next sel xs ready has_r l ne).1),
        )

  -- one base step, where the one below meets it
  module _ (q : ℕ) (meets : StepMeets near angles q (base_step q near angles) (BaseGoesOn q near angles)) (Q : ℕ) (sel : List Bool) (xs : List ℕ) (low : Q < 2 ^ 20) (j : Joined near Q) (few : ones Q ≤ suc q)
      (ready : StepReady Q sel xs) (ne : count_of sel ≢ 0) where
    abbrev r : ℕ
    r = sparing near Q sel xs

    two-b : 2 ≤ ones Q
    two-b = ready-two Q sel xs ready ne

    found : spare_of near Q r ≡ true
    found = spare-found near Q low sy j two-b sel xs

    hr-b : In r Q
    hr-b = spare-in near Q low r found

    jr-b : Joined near (without Q r)
    jr-b = subst (Joined near) (sym (rest-is Q r low hr-b)) (spare-joined near Q low sy r found)

    few-b : ones (without Q r) ≤ q
    few-b = omega (arith, few, rest-ones Q r low hr-b)

    abbrev zb : List Bool
    zb = zeros_of r sel xs

    abbrev pb : List Bool
    pb = ones_of r sel xs

    abbrev Bb : Piece
    Bb = base_step q near angles (without Q r) zb xs

    abbrev Ob : Piece
    Ob = ones_step (count_of pb) (base_step q near angles) near angles Q r pb Bb.cols

    below-meets-b : StepDone near (without Q r) angles zb xs Bb × BaseGoesOn q near angles (without Q r) zb xs
    below-meets-b = meets (without Q r) zb xs (rest-low Q r low hr-b) jr-b few-b (zeros-ready near Q angles low r hr-b sel xs ready.places (λ k e. inr (ready.chosen k e)) ready.aside)

    first-b : StepDone near (without Q r) angles zb xs Bb
    first-b = below-meets-b.0

    ones-meets-b : StepDone near Q angles pb Bb.cols Ob × OnesGoesOn (count_of pb) (base_step q near angles) (BaseGoesOn q near angles) near angles Q r pb Bb.cols
    ones-meets-b =
        ones-meets q (base_step q near angles) (BaseGoesOn q near angles) meets Q r low hr-b j jr-b few-b (count_of pb) pb Bb.cols
        (ones-ready near Q angles low r hr-b sel xs ready.places (λ k e. inr (ready.chosen k e)) ready.aside Bb first-b)
        (ones-have near Q angles low r hr-b sel xs ready.places (λ k e. inr (ready.chosen k e)) ready.aside Bb first-b) (omega arith)

    second-b : StepDone near Q angles pb Bb.cols Ob
    second-b = ones-meets-b.0

    bound-b : cnots_of (Bb.laid ++ Ob.laid) ≤ 2 * ones (without Q r) * count_of sel
    bound-b =
        let c = bound-base (ones (without Q r)) (count_of zb) (count_of pb) (count_of sel) (cnots_of Bb.laid) (cnots_of Ob.laid) first-b.cnots
        (subst (λ (u : ℕ). cnots_of Ob.laid ≤ 2 * u * count_of pb) (less_one Q r low hr-b) second-b.cnots) (split-count r sel xs) in
        omega (arith, c, cnots-append Bb.laid Ob.laid)

    done-b : StepDone near Q angles sel xs (base_on near angles Q sel xs q r)
    unfolding base_on followed_by
    done-b =
        record {
          lays = halves-lay near Q angles low r hr-b sel xs ready.places (λ k e. inr (ready.chosen k e)) ready.aside Bb first-b Ob second-b;
          struck = halves-struck near Q angles low r hr-b sel xs ready.places (λ k e. inr (ready.chosen k e)) ready.aside Bb first-b Ob second-b;
          others = halves-others near Q angles low r hr-b sel xs ready.places (λ k e. inr (ready.chosen k e)) ready.aside Bb first-b Ob second-b;
          cnots = subst (λ (u : ℕ). cnots_of (Bb.laid ++ Ob.laid) ≤ 2 * u * count_of sel) (sym (less_one Q r low hr-b)) bound-b;
        }

    base_done : StepDone near Q angles sel xs (base_step (suc q) near angles Q sel xs)
    base_done = subst (StepDone near Q angles sel xs) (sym (base_on_lem near angles Q sel xs q ne)) done-b

  base-none : (q Q : ℕ) (sel : List Bool) (xs : List ℕ) → StepReady Q sel xs → count_of sel ≡ 0 → StepDone near Q angles sel xs (base_step q near angles Q sel xs)
  base-none q Q sel xs ready e = subst (StepDone near Q angles sel xs) (sym (base-idle near angles Q sel xs q e)) (done-idle near Q angles sel xs ready e)

  pub base-meets : (q : ℕ) → StepMeets near angles q (base_step q near angles) (BaseGoesOn q near angles)
  unfolding BaseGoesOn
  base-meets zero Q sel xs low j few ready = go (ℕ_discrete (count_of sel) 0)
    where
      go : Dec (count_of sel ≡ 0) → StepDone near Q angles sel xs (base_step 0 near angles Q sel xs) × (count_of sel ≡ 0)
      go (yes e) = (base-none 0 Q sel xs ready e, e)
      go (no ne) = absurd (omega (arith, ready-two Q sel xs ready ne, few))
  base-meets (suc q) Q sel xs low j few ready = go (ℕ_discrete (count_of sel) 0) (base-meets q)
    where
      go : Dec (count_of sel ≡ 0) → StepMeets near angles q (base_step q near angles) (BaseGoesOn q near angles) → StepDone near Q angles sel xs (base_step (suc q) near angles Q sel xs) × BaseGoesOn (suc q) near angles Q sel xs
      go (yes e) below = (base-none (suc q) Q sel xs ready e, λ ne. absurd (ne e))
      go (no ne) below = (
        base_done q below Q sel xs low j few ready ne,
        λ (ne : count_of sel ≢ 0). (found q below Q sel xs low j few ready ne, (below-meets-b q below Q sel xs low j few ready ne).1, (ones-meets-b q below Q sel xs low j few ready ne).1),
      )
