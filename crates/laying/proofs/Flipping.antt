-- X gates behind the ending of each island: the flips come out as asked, and of parities, sums, CNOTs and rotations nothing changes. Assumes nothing.
use mathlib.Core.Path.{◌≡◌, refl, sym, ap, ap₂, ◌∙◌}
use mathlib.Core.Bool.{Bool, true, false}
use mathlib.Core.List.{List, ◌++◌}
use Prim.Native.Nat.{ℕ, zero, suc, ◌+◌, ◌≤◌, ◌<◌}
use native.Mathlib.Omega.{arith}
use lib.ListN.{get_or}
use Rattle.sets.specs.Bit.{In}
use Rattle.gates.specs.declared.gate.Gate.{Gate}
use Rattle.gates.specs.declared.gate.Gate.TheVariants.{Cnot, Rotation, X, Bad}
use Rattle.sets.specs.Lists.{All}
use Rattle.sets.proofs.Lists.{all_map}
use Rattle.tallies.specs.Tally.{tally}
use Rattle.tallies.proofs.Tallies.{tally-append}
use Rattle.circuit.specs.Circuit.{run, given}
use Rattle.circuit.specs.Flips.{flip_run, no_flips}
use Rattle.circuit.proofs.Circuits.{run-append, given-append}
use Rattle.circuit.proofs.Flips.{flip-append, none-flipped, Flips}
use Rattle.circuit.proofs.Quiet.{Quiet, quiet-append, Calm, calm-flips, calm-quiet}
use Rattle.flips.specs.Xs.{flipped_to, xs_on}
use Rattle.flips.proofs.Xs.{xs-run, xs-given, xs-tally, xs-quiet, xs-right, xs-others}
use Rattle.chip.specs.Inside.{Inside}
use Rattle.laying.specs.Islands.{leads, laid_to}
use Rattle.laying.proofs.Parting.{Parts, leader-below}
use Rattle.laying.proofs.Composing.{laid-led, laid-not, of-laid, on-flips, Settles, wired, fresh-laid}

-- ---- the gates of one island, and X gates behind them

module _ (Q : ℕ) (F : List ℕ) (gs : List Gate) where
  pub behind-run : (W : List ℕ) → run (gs ++ xs_on Q F) W ≡ run gs W
  unfolding xs_on
  behind-run W = run-append gs (xs_on Q F) W ∙ xs-run (flipped_to Q F 20) (run gs W)

  pub behind-given : (p : ℕ) (W : List ℕ) → given p (gs ++ xs_on Q F) W ≡ given p gs W
  unfolding xs_on
  behind-given p W = given-append p gs (xs_on Q F) W ∙ omega (arith, xs-given p (flipped_to Q F 20) (run gs W))

  pub behind-tally : (f : Gate → ℕ) → ((q : ℕ) → f (X q) ≡ 0) → tally f (gs ++ xs_on Q F) ≡ tally f gs
  unfolding xs_on
  behind-tally f z = tally-append f gs (xs_on Q F) ∙ omega (arith, xs-tally f z (flipped_to Q F 20))

-- gates on Q find no flip where its wires are not flipped
inside-calm : (near : List ℕ) (Q : ℕ) (G : List ℕ) → ((i : ℕ) → In i Q → get_or G i 0 ≡ 0) → (g : Gate) → Inside near Q g → Calm G g
unfolding Calm
inside-calm near Q G z (Cnot c t) h = z c h.0
inside-calm near Q G z (Rotation q a) h = z q h
inside-calm near Q G z (X q) h = absurd h
inside-calm near Q G z Bad h = absurd h

-- ---- all islands: `plain q` are the gates of the island that q leads

module _ (n : ℕ) (isl : ℕ → ℕ) (few : n ≤ 20) (parts : Parts n isl) (plain : ℕ → List Gate) (F : List ℕ) where
  abbrev on : ℕ → List Gate
  on q = plain q ++ xs_on (isl q) F

  pub laid-run : (W : List ℕ) (k : ℕ) → run (laid_to isl on k) W ≡ run (laid_to isl plain k) W
  laid-run W zero = unfold laid_to in refl
  laid-run W (suc k) = go (leads isl k) refl (laid-run W k)
    where
      go : (b : Bool) → leads isl k ≡ b → run (laid_to isl on k) W ≡ run (laid_to isl plain k) W → run (laid_to isl on (suc k)) W ≡ run (laid_to isl plain (suc k)) W
      go true e h =
          ap (λ (L : List Gate). run L W) (laid-led n isl few parts on k e) ∙ run-append (laid_to isl on k) (on k) W ∙ behind-run (isl k) F (plain k) (run (laid_to isl on k) W)
          ∙ ap (run (plain k)) h ∙ sym (ap (λ (L : List Gate). run L W) (laid-led n isl few parts plain k e) ∙ run-append (laid_to isl plain k) (plain k) W)
      go false e h = ap (λ (L : List Gate). run L W) (laid-not n isl few parts on k e) ∙ h ∙ sym (ap (λ (L : List Gate). run L W) (laid-not n isl few parts plain k e))

  pub laid-given : (p : ℕ) (W : List ℕ) (k : ℕ) → given p (laid_to isl on k) W ≡ given p (laid_to isl plain k) W
  laid-given p W zero = unfold laid_to in refl
  laid-given p W (suc k) = go (leads isl k) refl (laid-given p W k)
    where
      go : (b : Bool) → leads isl k ≡ b → given p (laid_to isl on k) W ≡ given p (laid_to isl plain k) W → given p (laid_to isl on (suc k)) W ≡ given p (laid_to isl plain (suc k)) W
      go true e h =
          ap (λ (L : List Gate). given p L W) (laid-led n isl few parts on k e) ∙ given-append p (laid_to isl on k) (on k) W
          ∙ ap₂ (λ (a b : ℕ). a + b) h (behind-given (isl k) F (plain k) p (run (laid_to isl on k) W) ∙ ap (given p (plain k)) (laid-run W k))
          ∙ sym (ap (λ (L : List Gate). given p L W) (laid-led n isl few parts plain k e) ∙ given-append p (laid_to isl plain k) (plain k) W)
      go false e h = ap (λ (L : List Gate). given p L W) (laid-not n isl few parts on k e) ∙ h ∙ sym (ap (λ (L : List Gate). given p L W) (laid-not n isl few parts plain k e))

  -- ---- flips

  module _ (flips : Flips F) (nears : ℕ → List ℕ) (inside : (q : ℕ) → q < n → All (Inside (nears q) (isl q)) (plain q)) where
    -- the island's gates before its X gates, where none of its wires is flipped
    module _ (q : ℕ) (l : q < n) (G : List ℕ) (own : (i : ℕ) → In i (isl q) → get_or G i 0 ≡ get_or no_flips i 0) where
      calm : All (Calm G) (plain q)
      calm = all_map (Inside (nears q) (isl q)) (Calm G) (inside-calm (nears q) (isl q) G (λ i m. own i m ∙ none-flipped i)) (plain q) (inside q l)

      after : flip_run (on q) G ≡ flip_run (xs_on (isl q) F) G
      after = flip-append (plain q) (xs_on (isl q) F) G ∙ ap (flip_run (xs_on (isl q) F)) (calm-flips G (plain q) calm)

      quiet : Quiet (on q) G
      unfolding xs_on
      quiet = quiet-append (plain q) (xs_on (isl q) F) G (calm-quiet G (plain q) calm) (xs-quiet (flipped_to (isl q) F 20) (flip_run (plain q) G))

    flips-settle : (q : ℕ) → q < n → leads isl q ≡ true → Settles flip_run no_flips (isl q) (λ i. get_or F i 0) (on q)
    flips-settle q l e = record {
      right = λ G size own i m. ap (λ (H : List ℕ). get_or H i 0) (after q l G own) ∙ xs-right (isl q) F flips G size i (omega (arith, parts.small q i l m)) m (own i m ∙ none-flipped i);
      others = λ G size own i z. ap (λ (H : List ℕ). get_or H i 0) (after q l G own) ∙ xs-others (isl q) F flips G size i z;
    }

    pub laid-flips : (i : ℕ) → i < n → get_or (flip_run (laid_to isl on n) no_flips) i 0 ≡ get_or F i 0
    laid-flips i h = (wired n isl few parts on flip_run no_flips on-flips (λ i. get_or F i 0) flips-settle n (omega arith)).done i h (leader-below n isl few parts i h)

    -- no angle is on a flipped wire
    pub laid-quiet : Quiet (laid_to isl on n) no_flips
    laid-quiet =
        of-laid n isl few parts on (λ L. Quiet L no_flips) (unfold Quiet in tt)
        (λ k l e h. quiet-append (laid_to isl on k) (on k) no_flips h (quiet k l (flip_run (laid_to isl on k) no_flips) (fresh-laid n isl few parts on flip_run no_flips on-flips (λ i. get_or F i 0) flips-settle k l e)))
        n (omega arith)
