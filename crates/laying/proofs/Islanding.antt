-- One island laid: the terms' gates and the closing behind them do what composing islands asks for. Assumes nothing.
use mathlib.Core.Path.{◌≡◌, refl, sym, ap, ap₂, ◌∙◌}
use mathlib.Core.List.{List, [], ◌∷◌, ◌++◌}
use Prim.Native.Nat.{ℕ, ◌+◌, ◌-◌, ◌*◌, ◌^◌, ◌≤◌, ◌<◌}
use native.Mathlib.Omega.{arith}
use lib.ListN.{length, get_or}
use lib.Count.{ones}
use Rattle.sets.specs.Bit.{In}
use Rattle.sets.specs.Size.{size_of}
use Rattle.sets.proofs.Members.{in-lt}
use Rattle.sets.proofs.Comb.{get_or-units}
use Rattle.gates.specs.declared.gate.Gate.{Gate}
use Rattle.gates.specs.declared.gate.Gate.TheVariants.{Cnot, Rotation, X, Bad}
use Rattle.circuit.specs.Circuit.{run, start}
use Rattle.sets.specs.Lists.{All}
use Rattle.tallies.specs.Tally.{cnots_of, rotations_of}
use Rattle.circuit.proofs.Circuits.{start-length, run_none}
use Rattle.sets.proofs.Lists.{all_map, all_append}
use Rattle.tallies.proofs.Tallies.{cnots-append, rotations-append}
use Rattle.chip.specs.Graph.{Symm, Joined}
use Rattle.chip.specs.Inside.{Inside, Coupled}
use Rattle.columns.specs.Terms.{Small, LaysTerms, total_of}
use Rattle.columns.proofs.Inside.{inside-length}
use Rattle.chip.proofs.Insides.{coupled-inside}
use Rattle.ending.specs.Ends.{Ready, Closes}
use Rattle.ending.specs.Closing.{closing_of}
use Rattle.ending.proofs.Closings.{closing-closes}
use Rattle.ending.proofs.Behind.{given-before}
use Rattle.share.specs.Own.{Share}
use Rattle.ways.specs.Ways.{with_closing}
use Rattle.laying.proofs.Composing.{Lays}

-- CNOTs have no angle
coupled-small : (near : List ℕ) (Q : ℕ) (gs : List Gate) → All (Coupled near Q) gs → All Small gs
unfolding Small
coupled-small near Q = all_map (Coupled near Q) Small one
  where
    one : (g : Gate) → Coupled near Q g → Small g
    one (Cnot c t) h = tt
    one (Rotation q a) h = absurd h
    one (X q) h = tt
    one Bad h = tt

-- ---- the island

-- what the gates of an island are, beside what they do
pub record Placed (s : Share) (gs : List Gate) : Type 0 where
  pub inside : All (Inside s.near s.set) gs
  pub small : ((k : ℕ) → get_or s.angles k 0 < 65536) → All Small gs
  pub rotations : rotations_of gs ≡ length s.terms
  pub cnots : cnots_of gs ≤ 2 * (ones s.set - 1) * length s.terms + 2 * (ones s.set * (ones s.set - 1))

module _ (s : Share) (L : List Gate) (sy : Symm s.near) (low : s.set < 2 ^ 20) (j : Joined s.near s.set)
    (t : LaysTerms s.near s.set s.terms s.angles L) (r : Ready s.set s.asked s.mirror) where
  abbrev near : List ℕ
  near = s.near

  abbrev Q : ℕ
  Q = s.set

  M : List Gate
  M = closing_of near Q s.asked s.mirror L

  c : Closes near Q s.asked L M
  unfolding M
  c = closing-closes near Q s.asked s.mirror L sy low j r t.inside

  pub closed-lays : Lays Q (λ i. get_or s.asked i 0) (λ p. total_of p s.terms s.angles) (with_closing s L)
  unfolding M with_closing
  closed-lays = record {
    right = c.right;
    others = c.others;
    gives = λ W size own p. given-before near Q p L M W c.coupled ∙ t.sums W size own p;
  }

  pub closed-placed : Placed s (with_closing s L)
  unfolding M with_closing size_of
  closed-placed = record {
    inside = all_append (Inside near Q) L M t.inside (coupled-inside near Q M c.coupled);
    small = λ h. all_append Small L M (t.small h) (coupled-small near Q M c.coupled);
    rotations = rotations-append L M ∙ omega (arith, t.rotations, c.rotations);
    cnots = omega (arith, cnots-append L M, t.cnots, c.cnots, c.short);
  }

  -- no terms, and every wire asked for its own parity: no gates
  pub closed_none : length s.terms ≡ 0 → ((i : ℕ) → In i Q → get_or s.asked i 0 ≡ 2 ^ i) → with_closing s L ≡ []
  unfolding M with_closing
  closed_none z own =
      ap₂ ◌++◌ e
      (c.still start start-length at-start (λ i h. ap (λ (l : List Gate). get_or (run l start) i 0) e ∙ ap (λ (W : List ℕ). get_or W i 0) (run_none start) ∙ at-start i h ∙ sym (own i h)))
    where
      at-start : (i : ℕ) → In i Q → get_or start i 0 ≡ 2 ^ i
      at-start i h = unfold start in get_or-units 20 i (in-lt 20 Q i low h)

      few : cnots_of L ≤ 0
      few = let k : 2 * (ones Q - 1) * length s.terms ≡ 0 = ap (λ (m : ℕ). 2 * (ones Q - 1) * m) z ∙ omega arith in omega (arith, t.cnots)

      empty : (l : List Gate) → length l ≡ 0 → l ≡ []
      empty [] h = refl
      empty (g ∷ l) h = absurd (omega (arith, h))

      e : L ≡ []
      e = empty L (omega (arith, inside-length near Q L t.inside, few, t.rotations))
