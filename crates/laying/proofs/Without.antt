-- A job without X gates means what it means without flips, and gets what it gets without them. Assumes nothing.
use mathlib.Core.Path.{◌≡◌, refl, ap, ◌∙◌}
use mathlib.Core.List.{List, ◌++◌, append-nil}
use Prim.Native.Nat.{ℕ}
use lib.ListN.{get_or}
use Rattle.gates.specs.declared.gate.Gate.{Gate}
use Rattle.gates.specs.declared.gate.Gate.TheVariants.{Cnot, Rotation, X, Bad}
use Rattle.gates.specs.Layout.{gates_of}
use Rattle.sets.specs.Lists.{All}
use Rattle.sets.proofs.Lists.{all_map}
use Rattle.circuit.specs.Flips.{flip_run, no_flips}
use Rattle.circuit.proofs.Flips.{flip_is, none-flipped}
use Rattle.circuit.proofs.Quiet.{Quiet, sum_is, phase-none, Calm, calm-flips, calm-quiet}
use Rattle.flips.specs.Xs.{xs_on, NoX}
use Rattle.flips.proofs.Xs.{xs-none}
use Rattle.chip.specs.Couplers.{near_of}
use Rattle.isles.specs.Islands.{island_of}
use Rattle.laying.specs.Laid.{on_island, with_flips, laid_of}
use Rattle.laying.specs.Answers.{circuit_of}
use Rattle.laying.specs.Without.{WithoutX}
use Rattle.laying.proofs.Archive.{laid-alike}

no-x-calm : (g : Gate) → NoX g → Calm no_flips g
unfolding NoX Calm
no-x-calm (Cnot c t) h = none-flipped c
no-x-calm (Rotation q a) h = none-flipped q
no-x-calm (X q) h = h
no-x-calm Bad h = h

module _ (n : ℕ) (couplers gates : List ℕ) (none : All NoX (gates_of n gates)) where
  abbrev drawn : List Gate
  drawn = gates_of n gates

  abbrev near : List ℕ
  near = near_of n couplers

  calm : All (Calm no_flips) drawn
  calm = all_map NoX (Calm no_flips) no-x-calm drawn none

  unflipped : flip_run drawn no_flips ≡ no_flips
  unflipped = calm-flips no_flips drawn calm

  quiet : Quiet drawn no_flips
  quiet = calm-quiet no_flips drawn calm

  nothing-behind : (q : ℕ) → with_flips near drawn q ≡ on_island near drawn q
  unfolding with_flips
  nothing-behind q =
      ap (λ (F : List ℕ). on_island near drawn q ++ xs_on (island_of near q) F) unflipped
      ∙ ap (λ (gs : List Gate). on_island near drawn q ++ gs) (xs-none (island_of near q) no_flips (λ i m. none-flipped i)) ∙ append-nil (on_island near drawn q)

  pub without-x : WithoutX n couplers gates
  unfolding circuit_of laid_of
  without-x = record {
    flips = λ i. flip_is drawn i ∙ ap (λ (F : List ℕ). get_or F i 0) unflipped ∙ none-flipped i;
    phase = phase-none drawn quiet;
    sums = λ p. sum_is p drawn quiet;
    laid = laid-alike (island_of near) (island_of near) (with_flips near drawn) (on_island near drawn) n (λ q l. refl) (λ q l e. nothing-behind q);
  }
