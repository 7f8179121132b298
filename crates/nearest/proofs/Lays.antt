-- Nearest first lays the terms of a connected set: each round gathers one column and strikes it off. Assumes nothing.
use mathlib.Core.Path.{◌≡◌, refl, sym, ap, ◌∙◌, subst}
use mathlib.Core.Logic.{◌≢◌, inr}
use mathlib.Core.List.{List, ◌++◌}
use Prim.Native.Nat.{ℕ, zero, suc, ◌+◌, ◌-◌, ◌*◌, ◌^◌, ◌≤◌, ◌<◌}
use native.Mathlib.Nat.{mul-le-mul_right, mul_comm}
use native.Mathlib.Omega.{arith}
use native.Mathlib.Decide.{ℕ_discrete, dec_lt}
use lib.Count.{ones}
use lib.ListN.{length, get_or, get_or-eq_default}
use Rattle.sets.specs.Bit.{bit, Sub}
use Rattle.sets.proofs.Bits.{bit-of-zero}
use Rattle.gates.specs.declared.gate.Gate.{Gate}
use Rattle.tallies.specs.Tally.{cnots_of}
use Rattle.chip.specs.Graph.{Symm, Joined}
use Rattle.sets.specs.Tables.{sum_to}
use Rattle.columns.specs.Pieces.{Piece, idle, followed_by}
use Rattle.columns.specs.Striking.{strike_off}
use Rattle.columns.specs.Terms.{LaysTerms, Laying, live, live_one}
use Rattle.gathering.specs.Gather.{Gathers, gather_of}
use Rattle.sets.proofs.Tabling.{sum_less, sum_ones}
use Rattle.columns.proofs.Layings.{live-one, live-none, laying-none, laying-then}
use Rattle.columns.proofs.Laid.{sub-below, lays-terms}
use Rattle.columns.proofs.Struck.{Strikes, strikes-off}
use Rattle.gathering.proofs.GatherWorks.{gathers}
use Rattle.nearest.specs.Choice.{far, chosen}
use Rattle.nearest.specs.Moves.{lay_moves}
use Rattle.nearest.specs.Nearest.{gather_next, rounds, nearest_for}
use Rattle.nearest.proofs.Entry.{rounds-none, rounds-more, rounds-over}
use Rattle.nearest.proofs.Nearness.{chosen-sound, chosen-over}
use Rattle.nearest.proofs.Moved.{ColumnsIn, RoundReady, fits, strike-ready, MovedBy, moves-moved, moves-gone}
use Rattle.tallies.proofs.Tallies.{cnots-none, cnots-append}

-- ---- how many columns are left

one-most : (x : ℕ) → live_one x ≤ 1
one-most zero = omega arith
one-most (suc x) = omega arith

-- one column fewer, and none that was struck off comes back
live-less : (xs ys : List ℕ) (j : ℕ) → length ys ≡ length xs → ((k : ℕ) → get_or xs k 0 ≡ 0 → get_or ys k 0 ≡ 0) → get_or xs j 0 ≢ 0 → get_or ys j 0 ≡ 0 → live ys < live xs
unfolding live
live-less xs ys j e s h z =
    subst (λ (n : ℕ). sum_to n (λ k. live_one (get_or ys k 0)) < sum_to (length xs) (λ k. live_one (get_or xs k 0))) (sym e)
    (sum_less (length xs) (λ k. live_one (get_or ys k 0)) (λ k. live_one (get_or xs k 0)) j (inside (dec_lt j (length xs))) (omega (arith, live-none (get_or ys j 0) z, live-one (get_or xs j 0) h)) (λ k l. at k (ℕ_discrete (get_or xs k 0) 0)))
  where
    inside : Dec (j < length xs) → j < length xs
    inside (yes l) = l
    inside (no l) = absurd (h (get_or-eq_default xs 0 (omega arith)))

    at : (k : ℕ) → Dec (get_or xs k 0 ≡ 0) → live_one (get_or ys k 0) ≤ live_one (get_or xs k 0)
    at k (yes i) = omega (arith, live-none (get_or ys k 0) (s k i))
    at k (no ne) = omega (arith, one-most (get_or ys k 0), live-one (get_or xs k 0) ne)

-- no column left
live-zero : (xs : List ℕ) → live xs ≤ 0 → (k : ℕ) → get_or xs k 0 ≡ 0
unfolding live
live-zero xs h k = go (ℕ_discrete (get_or xs k 0) 0) (dec_lt k (length xs))
  where
    go : Dec (get_or xs k 0 ≡ 0) → Dec (k < length xs) → get_or xs k 0 ≡ 0
    go (yes e) l = e
    go (no ne) (no l) = get_or-eq_default xs 0 (omega arith)
    go (no ne) (yes l) = absurd (omega (arith, h, sum_less (length xs) (λ j. 0) (λ j. live_one (get_or xs j 0)) k l (omega (arith, live-one (get_or xs k 0) ne)) (λ j b. omega arith)))

live-most : (xs : List ℕ) → live xs ≤ length xs
unfolding live
live-most xs = sum_ones (length xs) (λ k. live_one (get_or xs k 0)) (λ k b. one-most (get_or xs k 0))

-- ---- the rounds

module _ (near : List ℕ) (Q : ℕ) (angles : List ℕ) (sy : Symm near) (j : Joined near Q) (low : Q < 2 ^ 20) where
  -- a piece that lays all that is left, at 2 (m - 1) CNOTs for a column
  pub record RoundsDone (xs : List ℕ) (p : Piece) : Type 0 where
    pub lays : Laying near Q angles xs p.laid p.cols
    pub struck : (k : ℕ) → get_or p.cols k 0 ≡ 0
    pub cnots : cnots_of p.laid ≤ live xs * (2 * (ones Q - 1))

  done-idle : (xs : List ℕ) → ((k : ℕ) → get_or xs k 0 ≡ 0) → RoundsDone xs (idle xs)
  done-idle xs z = record { lays = laying-none near Q angles xs; struck = z; cnots = omega (arith, cnots-none) }

  -- one round: a column less, at 2 (m - 1) CNOTs
  module _ (xs : List ℕ) (r : RoundReady Q xs) (found : (chosen near Q xs).moves < far) where
    abbrev k : ℕ
    k = (chosen near Q xs).column

    abbrev v : ℕ
    v = (chosen near Q xs).qubit

    abbrev L : List Gate
    L = gather_of near Q v (get_or xs k 0)

    abbrev round : Piece
    round = gather_next near angles Q k v xs

    round_is : round ≡ lay_moves angles L xs
    unfolding gather_next
    round_is = refl

    some : get_or xs k 0 ≢ 0
    some z = omega (arith, (chosen-sound near Q xs found).0, ap (λ (x : ℕ). bit x v) z, bit-of-zero v)

    brings : Gathers near v Q (get_or xs k 0) L
    brings = gathers near Q v (get_or xs k 0) sy low j (r.part k v (chosen-sound near Q xs found).0) (r.part k) some

    round-moved : MovedBy near Q angles low xs (length L) round
    round-moved = subst (MovedBy near Q angles low xs (length L)) (sym round_is) (moves-moved near Q angles low L brings.coupled xs r)

    round-less : live round.cols < live xs
    round-less =
        live-less xs round.cols k round-moved.lays.size round-moved.stays some
        (ap (λ (p : Piece). get_or p.cols k 0) round_is ∙ moves-gone near Q angles low L brings.coupled xs r k v (get_or xs k 0) (inr refl) brings.done)

  rounds-done : (n : ℕ) (xs : List ℕ) → RoundReady Q xs → live xs ≤ n → RoundsDone xs (rounds n near angles Q xs)
  unfolding followed_by
  rounds-done zero xs r h = subst (RoundsDone xs) (sym (rounds-none near angles Q xs)) (done-idle xs (live-zero xs h))
  rounds-done (suc n) xs r h = go (dec_lt (chosen near Q xs).moves far) (rounds-done n)
    where
      go : Dec ((chosen near Q xs).moves < far) → ((ys : List ℕ) → RoundReady Q ys → live ys ≤ n → RoundsDone ys (rounds n near angles Q ys)) → RoundsDone xs (rounds (suc n) near angles Q xs)
      go (no f) ih =
          let over : far ≤ (chosen near Q xs).moves = omega arith in
          subst (RoundsDone xs) (sym (rounds-over near angles Q (suc n) xs over)) (done-idle xs (chosen-over near Q xs (λ k. sub-below 20 (get_or xs k 0) Q (r.part k) low) over))
      go (yes f) ih =
          let p : Piece = gather_next near angles Q (chosen near Q xs).column (chosen near Q xs).qubit xs in
          let m : MovedBy near Q angles low xs (length (gather_of near Q (chosen near Q xs).qubit (get_or xs (chosen near Q xs).column 0))) p = round-moved xs r f in
          let less : live p.cols < live xs = round-less xs r f in
          let b : RoundsDone p.cols (rounds n near angles Q p.cols) = ih p.cols m.ready (omega arith) in
          subst (RoundsDone xs) (sym (rounds-more near angles Q n xs f))
          (record {
            lays = laying-then near Q angles m.lays b.lays;
            struck = b.struck;
            cnots = paid (length (gather_of near Q (chosen near Q xs).qubit (get_or xs (chosen near Q xs).column 0))) (2 * (ones Q - 1)) (live p.cols) (live xs) (cnots_of p.laid) (cnots_of (rounds n near angles Q p.cols).laid) (cnots_of (p.laid ++ (rounds n near angles Q p.cols).laid))
                (cnots-append p.laid (rounds n near angles Q p.cols).laid) m.cnots b.cnots less (omega (arith, (brings xs r f).short));
          })
        where
          paid : (g a l t p q s : ℕ) → s ≡ p + q → p ≡ g → q ≤ l * a → l < t → g ≤ a → s ≤ t * a
          paid g a l t p q s e f h m c = let z : (suc l) * a ≤ t * a = mul-le-mul_right a m in omega (arith, z)

-- ---- the theorem

module _ (near : List ℕ) (Q : ℕ) (ps angles : List ℕ) (sy : Symm near) (j : Joined near Q) (low : Q < 2 ^ 20) (few : length ps ≤ 256)
    (term : (k : ℕ) → k < length ps → Sub (get_or ps k 0) Q × (get_or ps k 0 ≢ 0)) where
  within : ColumnsIn Q ps
  within k = go (dec_lt k (length ps))
    where
      go : Dec (k < length ps) → Sub (get_or ps k 0) Q
      go (yes l) = (term k l).0
      go (no l) = subst (λ (x : ℕ). Sub x Q) (sym (get_or-eq_default ps 0 (omega arith))) (λ i h. absurd (omega (arith, h, bit-of-zero i)))

  abbrev first : Piece
  first = strike_off angles ps

  singles : Strikes near Q angles ps first
  singles = strikes-off near Q angles ps (fits near Q angles low ps within)

  few-live : live first.cols ≤ length ps
  few-live = omega (arith, singles.lays.rotations, live-most ps)

  rest : RoundsDone near Q angles sy j low first.cols (rounds 256 near angles Q first.cols)
  rest = rounds-done near Q angles sy j low 256 first.cols (strike-ready near Q angles low ps within) (omega (arith, few-live))

  -- every term is laid, as any way has to
  pub nearest-lays : LaysTerms near Q ps angles (nearest_for near Q ps angles).laid
  unfolding nearest_for followed_by
  nearest-lays =
      lays-terms near Q ps angles (first.laid ++ last.laid) last.cols low term (laying-then near Q angles singles.lays rest.lays) rest.struck bound
    where
      last : Piece
      last = rounds 256 near angles Q first.cols

      bound : cnots_of (first.laid ++ last.laid) ≤ 2 * (ones Q - 1) * length ps
      bound =
          let most : live first.cols * (2 * (ones Q - 1)) ≤ length ps * (2 * (ones Q - 1)) = mul-le-mul_right (2 * (ones Q - 1)) few-live in
          omega (arith, most, mul_comm (length ps) (2 * (ones Q - 1)), cnots-append first.laid last.laid, singles.cnots, rest.cnots)
