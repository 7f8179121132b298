-- The cheapest choice is a choice: the ending of the definition is an ending. Assumes nothing.
use mathlib.Core.Path.{◌≡◌, refl, sym, ap, ◌∙◌, subst}
use mathlib.Core.Bool.{Bool, true, false, not}
use mathlib.Core.List.{List, [], ◌∷◌, ◌++◌, map}
use Prim.Native.Nat.{ℕ, zero, suc, ◌+◌, ◌-◌, ◌^◌, ◌≤◌, ◌<◌}
use native.Mathlib.Omega.{arith}
use native.Mathlib.Decide.{ℕ_discrete}
use lib.Bits.{bit_xor, xor_lt}
use lib.Count.{ones}
use lib.Dec.{ltb}
use lib.ListN.{length, length-append}
use lib.Pow.{pow-lt}
use Rattle.sets.specs.Pick.{pick}
use Rattle.sets.specs.Bit.{In}
use Rattle.sets.specs.Size.{size_of, only_of}
use Rattle.sets.proofs.Members.{in-lt, some-bit}
use Rattle.sets.proofs.Ones.{ones-drop, ones_of_zero}
use Rattle.sets.proofs.Words.{only-is}
use Rattle.chip.specs.Graph.{Symm, Joined}
use Rattle.spares.specs.Spare.{spare_of}
use Rattle.spares.proofs.Spares.{spare-in, spare-joined, spare-other}
use Rattle.gates.specs.declared.gate.Gate.{Gate}
use Rattle.gathering.specs.Gather.{turns, exchanged, most_moves}
use Rattle.gathering.proofs.GatherWorks.{gather-few}
use Rattle.ending.specs.declared.clearing.Clearing.{Clearing}
use Rattle.ending.specs.declared.clearing.Best.{Best}
use Rattle.std.specs.Prelude.{Option, None, Some}
use Rattle.ending.specs.Mirror.{seen}
use Rattle.ending.specs.Clear.{best, row_at, first_moves, second_moves, out_of, cost_of, choices_at, choices_from, cheaper_of, cheapest_in, cheapest_of}
use Rattle.ending.specs.Closing.{ending_from, ending_of}
use Rattle.ending.specs.Ends.{Ready, TakesOut, AnyEnding, last, out}
use Rattle.ending.proofs.Turning.{exchanged-length}
use Rattle.ending.proofs.Taking.{out-takes}
use Rattle.ending.proofs.Endings.{ready-taken}

-- ---- the cheapest

cheapest-append : (cost : Clearing → ℕ) (b : Option Best) (xs ys : List Clearing) → cheapest_in cost b (xs ++ ys) ≡ cheapest_in cost (cheapest_in cost b xs) ys
unfolding cheapest_in
cheapest-append cost b [] ys = refl
cheapest-append cost b (ch ∷ xs) ys = cheapest-append cost (cheaper_of ch (cost ch) b) xs ys

module _ (near : List ℕ) (Q : ℕ) (cost : Clearing → ℕ) where
  pub from_step : (d v : ℕ) (b : Option Best) → cheapest_in cost b (choices_from near Q (suc d) v) ≡ cheapest_in cost (cheapest_in cost b (choices_at near Q v)) (choices_from near Q d (v + 1))
  unfolding choices_from
  from_step d v b = cheapest-append cost b (choices_at near Q v) (choices_from near Q d (v + 1))

  -- where one is taken, its qubit can be spared
  abbrev Spared : Option Best → Type 0
  Spared None = Unit {0}
  Spared (Some b) = (b.choice.qubit < 20) × (spare_of near Q b.choice.qubit ≡ true)

  cheaper-fit : (ch : Clearing) (b : Option Best) → ch.qubit < 20 → spare_of near Q ch.qubit ≡ true → Spared b → Spared (cheaper_of ch (cost ch) b)
  cheaper-fit ch None l e h = (l, e)
  cheaper-fit ch (Some b) l e h = go (ltb (cost ch) b.cost)
    where
      go : (t : Bool) → Spared (pick t (Some (best ch (cost ch))) (Some b))
      go true = (l, e)
      go false = h

  at-fit : (v : ℕ) (b : Option Best) → v < 20 → Spared b → Spared (cheapest_in cost b (choices_at near Q v))
  unfolding choices_at cheapest_in
  at-fit v b l h = go (spare_of near Q v) refl
    where
      rows : Clearing
      rows = record { qubit = v; mirrored = false }

      mirror : Clearing
      mirror = record { qubit = v; mirrored = true }

      go : (s : Bool) → spare_of near Q v ≡ s → Spared (cheapest_in cost b (pick s (rows ∷ mirror ∷ []) []))
      go true e = cheaper-fit mirror (cheaper_of rows (cost rows) b) l e (cheaper-fit rows b l e h)
      go false e = h

  from-fit : (d v : ℕ) (b : Option Best) → v + d ≤ 20 → Spared b → Spared (cheapest_in cost b (choices_from near Q d v))
  unfolding choices_from cheapest_in
  from-fit zero v b l h = h
  from-fit (suc d) v b l h = subst Spared (sym (from_step d v b)) (from-fit d (v + 1) (cheapest_in cost b (choices_at near Q v)) (omega arith) (at-fit v b (omega arith) h))

  -- one is taken
  abbrev SomeTaken : Option Best → Type 0
  SomeTaken b = (c : Best) × (b ≡ Some c)

  cheaper-some : (ch : Clearing) (b : Option Best) → SomeTaken (cheaper_of ch (cost ch) b)
  cheaper-some ch None = (best ch (cost ch), refl)
  cheaper-some ch (Some b) = go (ltb (cost ch) b.cost)
    where
      go : (t : Bool) → SomeTaken (pick t (Some (best ch (cost ch))) (Some b))
      go true = (best ch (cost ch), refl)
      go false = (b, refl)

  in_some : (b : Option Best) (chs : List Clearing) → SomeTaken b → SomeTaken (cheapest_in cost b chs)
  unfolding cheapest_in
  in_some b [] h = h
  in_some b (ch ∷ chs) h = in_some (cheaper_of ch (cost ch) b) chs (cheaper-some ch b)

  at_some : (v : ℕ) (b : Option Best) → spare_of near Q v ≡ true → SomeTaken (cheapest_in cost b (choices_at near Q v))
  unfolding choices_at cheapest_in
  at_some v b e = rw e (cheaper-some (record { qubit = v; mirrored = true }) (cheaper_of (record { qubit = v; mirrored = false }) (cost (record { qubit = v; mirrored = false })) b))

  from_some : (w d v : ℕ) (b : Option Best) → spare_of near Q w ≡ true → v ≤ w → w < v + d → SomeTaken (cheapest_in cost b (choices_from near Q d v))
  from_some w zero v b e l m = absurd (omega arith)
  from_some w (suc d) v b e l m = subst SomeTaken (sym (from_step d v b)) (go (ℕ_discrete v w) (from_some w d (v + 1) (cheapest_in cost b (choices_at near Q v)) e))
    where
      go : Dec (v ≡ w) → (v + 1 ≤ w → w < v + 1 + d → SomeTaken (cheapest_in cost (cheapest_in cost b (choices_at near Q v)) (choices_from near Q d (v + 1))))
          → SomeTaken (cheapest_in cost (cheapest_in cost b (choices_at near Q v)) (choices_from near Q d (v + 1)))
      go (yes i) ih = in_some (cheapest_in cost b (choices_at near Q v)) (choices_from near Q d (v + 1)) (at_some v b (ap (spare_of near Q) i ∙ e))
      go (no i) ih = ih (omega arith) (omega arith)

-- ---- what a choice costs, whatever the sets

pub seen-length : (b : Bool) (gs : List Gate) → length (seen b gs) ≡ length gs
seen-length true gs = exchanged-length gs
seen-length false gs = refl

module _ (near : List ℕ) (Q : ℕ) (N C : List ℕ) (ch : Clearing) where
  pub out-length : length (out_of near Q N C ch) ≡ length (first_moves near Q N C ch) + length (second_moves near Q N C ch)
  unfolding out_of
  out-length =
      let F : List Gate = first_moves near Q N C ch in
      let S : List Gate = second_moves near Q N C ch in
      seen-length ch.mirrored (F ++ exchanged S) ∙ length-append F (exchanged S) ∙ ap (λ (n : ℕ). length F + n) (exchanged-length S)

  pub first-few : length (first_moves near Q N C ch) ≤ most_moves
  unfolding first_moves
  first-few = gather-few near Q ch.qubit (row_at N C ch.qubit ch.mirrored)

  pub second-few : length (second_moves near Q N C ch) ≤ most_moves
  unfolding second_moves
  second-few = gather-few near Q ch.qubit (turns (exchanged (first_moves near Q N C ch)) (row_at N C ch.qubit (not ch.mirrored)))

  pub out-few : length (out_of near Q N C ch) ≤ 76
  out-few = omega (arith, out-length, first-few, second-few)

-- ---- the definition's choice

-- what is taken can be spared
pub cheapest-fit : (near : List ℕ) (Q : ℕ) (N C : List ℕ) (b : Best) → Some b ≡ cheapest_of near Q N C → (b.choice.qubit < 20) × (spare_of near Q b.choice.qubit ≡ true)
unfolding cheapest_of
cheapest-fit near Q N C b e =
    let cost : Clearing → ℕ = cost_of near Q N C in
    subst (Spared near Q cost) (sym e) (from-fit near Q cost 20 0 None (omega arith) tt)

cheapest-some : (near : List ℕ) (Q : ℕ) → Symm near → Q < 2 ^ 20 → Joined near Q → (N C : List ℕ) → 2 ≤ ones Q → (b : Best) × (cheapest_of near Q N C ≡ Some b)
unfolding cheapest_of
cheapest-some near Q sy low j N C two =
    let s = some-bit Q (λ (z : Q ≡ 0). omega (arith, ap ones z, ones_of_zero)) in
    let r = spare-other near Q low sy j s.0 s.1 two in
    from_some near Q (cost_of near Q N C) r.0 20 0 None r.2 (omega arith) (omega (arith, in-lt 20 Q r.0 low (spare-in near Q low r.0 r.2)))

pub ending-zero : (near : List ℕ) (Q : ℕ) (N C : List ℕ) → ending_from near 0 Q N C ≡ []
unfolding ending_from
ending-zero near Q N C = refl

module _ (near : List ℕ) (f Q : ℕ) (N C : List ℕ) where
  pub ending-stays : None ≡ cheapest_of near Q N C → ending_from near (suc f) Q N C ≡ []
  unfolding ending_from
  ending-stays e = rw (sym e)

  pub ending-takes : (b : Best) → Some b ≡ cheapest_of near Q N C → ending_from near (suc f) Q N C
      ≡ out_of near Q N C b.choice
      ++ ending_from near f (bit_xor Q (only_of b.choice.qubit)) (map (turns (out_of near Q N C b.choice)) N) (map (turns (exchanged (out_of near Q N C b.choice))) C)
  unfolding ending_from
  ending-takes b e = rw (sym e)

from-ends : (near : List ℕ) → Symm near → (f Q : ℕ) (N C : List ℕ) → Q < 2 ^ 20 → Joined near Q → Ready Q N C → ones Q - 1 ≡ f → AnyEnding near Q N C (ending_from near f Q N C)
from-ends near sy zero Q N C low j r e = last {Q = Q} (omega arith) (ending-zero near Q N C)
from-ends near sy (suc f) Q N C low j r e =
    out v L M hv j_p t
    (subst (λ (M' : List Gate). AnyEnding near P (map (turns L) N) (map (turns (exchanged L)) C) M') (sym same)
    (from-ends near sy f P (map (turns L) N) (map (turns (exchanged L)) C) low_p j_p (ready-taken near Q low v N C L hv t r) (omega (arith, ones-drop v Q hv))))
    list
  where
    c : (b : Best) × (cheapest_of near Q N C ≡ Some b)
    c = cheapest-some near Q sy low j N C (omega arith)

    ch : Clearing
    ch = c.0.choice

    v : ℕ
    v = ch.qubit

    spare : spare_of near Q v ≡ true
    spare = (cheapest-fit near Q N C c.0 (sym c.1)).1

    hv : In v Q
    hv = spare-in near Q low v spare

    P : ℕ
    P = bit_xor Q (2 ^ v)

    j_p : Joined near P
    j_p = spare-joined near Q low sy v spare

    low_p : P < 2 ^ 20
    low_p = xor_lt 20 Q (2 ^ v) low (pow-lt (in-lt 20 Q v low hv))

    L : List Gate
    L = out_of near Q N C ch

    t : TakesOut near Q v N C L
    t = out-takes near Q sy low j N C ch hv r

    M : List Gate
    M = ending_from near f (bit_xor Q (only_of v)) (map (turns L) N) (map (turns (exchanged L)) C)

    only : only_of v ≡ 2 ^ v
    only = only-is v (omega (arith, in-lt 20 Q v low hv))

    same : M ≡ ending_from near f P (map (turns L) N) (map (turns (exchanged L)) C)
    same = ap (λ (m : ℕ). ending_from near f (bit_xor Q m) (map (turns L) N) (map (turns (exchanged L)) C)) only

    list : ending_from near (suc f) Q N C ≡ L ++ M
    list = ending-takes near f Q N C c.0 (sym c.1)

-- the ending of the definition is one
pub ending-ends : (near : List ℕ) (Q : ℕ) (N C : List ℕ) → Symm near → Q < 2 ^ 20 → Joined near Q → Ready Q N C → AnyEnding near Q N C (ending_of near Q N C)
unfolding ending_of size_of
ending-ends near Q N C sy low j r = from-ends near sy (ones Q - 1) Q N C low j r refl
