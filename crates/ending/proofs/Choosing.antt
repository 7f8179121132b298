-- The choices as the code computes and holds them. Assumes nothing.
use mathlib.Core.Path.{◌≡◌, refl, sym, ap, ap₂, ◌∙◌}
use mathlib.Core.Bool.{Bool, true, false, not}
use mathlib.Core.List.{List, ◌++◌, map}
use Prim.Native.Nat.{ℕ, suc, ◌+◌, ◌-◌, ◌≤◌, ◌<◌}
use native.Mathlib.Omega.{arith}
use lib.Bits.{bit_xor}
use lib.ListN.{length, length-append, length-map}
use Rattle.std.specs.Prelude.{Option, None}
use Rattle.sets.specs.Size.{only_of}
use Rattle.spares.specs.Spare.{spare_of}
use Rattle.gates.specs.declared.gate.Gate.{Gate}
use Rattle.gathering.specs.declared.gather.Order.{Order}
use Rattle.gathering.specs.declared.gather.Moves.{Moves}
use Rattle.gathering.specs.Order.{order_of, order_in}
use Rattle.gathering.specs.Gather.{exchanged, gather_of, along_of, cnot_of, cnots_of, moves_of, moves_in, turns}
use Rattle.gathering.proofs.GatherCode.{along-order, along-back}
use Rattle.ending.specs.declared.clearing.Clearing.{Clearing}
use Rattle.ending.specs.declared.clearing.Best.{Best}
use Rattle.ending.specs.declared.clearing.Taking.{Taking}
use Rattle.ending.specs.declared.clearing.Island.{Island}
use Rattle.ending.specs.Mirror.{seen}
use Rattle.ending.specs.Clear.{row_at, first_moves, second_moves, out_of, cost_of, choices_at, choices_from, cheaper_of, cheapest_in, cheapest_of}
use Rattle.ending.specs.Held.{gates_in, without_of}
use Rattle.ending.proofs.Turning.{exchanged-twice, exchanged-length, exchanged-append}
use Rattle.ending.proofs.Loops.{turns-twice}
use Rattle.ending.proofs.Choice.{from_step, seen-length}

-- ---- both gatherings of a choice

-- m and r are gathered along the order from its qubit
module _ (near : List ℕ) (Q : ℕ) (N C : List ℕ) (ch : Clearing) (o : Order) (eo : o ≡ order_in (order_of near Q ch.qubit)) where
  along-held : (x : ℕ) (m : Moves) → m ≡ moves_in (along_of near Q o x) → cnots_of (moves_of m) ≡ gather_of near Q ch.qubit x
  along-held x m e = ap (λ (m : Moves). cnots_of (moves_of m)) e ∙ along-back near Q o x ∙ along-order near Q ch.qubit x o eo

  pub out-is : (m r : Moves) (x y z : ℕ) → x ≡ row_at N C ch.qubit ch.mirrored → m ≡ moves_in (along_of near Q o x) → y ≡ row_at N C ch.qubit (not ch.mirrored)
      → z ≡ turns (exchanged (cnots_of (moves_of m))) y → r ≡ moves_in (along_of near Q o z) → seen ch.mirrored (cnots_of (moves_of m) ++ exchanged (cnots_of (moves_of r))) ≡ out_of near Q N C ch
  unfolding out_of second_moves first_moves
  out-is m r x y z ex em ey ez er = ap₂ (λ (F S : List Gate). seen ch.mirrored (F ++ exchanged S)) first second
    where
      first : cnots_of (moves_of m) ≡ gather_of near Q ch.qubit (row_at N C ch.qubit ch.mirrored)
      first = along-held x m em ∙ ap (gather_of near Q ch.qubit) ex

      second : cnots_of (moves_of r) ≡ gather_of near Q ch.qubit (turns (exchanged (gather_of near Q ch.qubit (row_at N C ch.qubit ch.mirrored))) (row_at N C ch.qubit (not ch.mirrored)))
      second = along-held z r er ∙ ap (gather_of near Q ch.qubit) (ez ∙ ap₂ (λ (g : List Gate) (w : ℕ). turns (exchanged g) w) first ey)

module _ (t : Taking) where
  abbrev b : Bool
  b = t.mirrored

  abbrev F : List Gate
  F = cnots_of (moves_of t.first)

  abbrev S : List Gate
  S = cnots_of (moves_of t.second)

  pub gates-both : gates_in t ≡ seen b F ++ seen (not b) S
  unfolding gates_in
  gates-both = go b
    where
      go : (b : Bool) → seen b (F ++ exchanged S) ≡ seen b F ++ seen (not b) S
      go true = exchanged-append F (exchanged S) ∙ ap (λ (l : List Gate). exchanged F ++ l) (exchanged-twice S)
      go false = refl

  gates-exchanged : exchanged (gates_in t) ≡ seen (not b) F ++ seen b S
  unfolding gates_in
  gates-exchanged = go b
    where
      go : (b : Bool) → exchanged (seen b (F ++ exchanged S)) ≡ seen (not b) F ++ seen b S
      go true = exchanged-twice (F ++ exchanged S)
      go false = exchanged-append F (exchanged S) ∙ ap (λ (l : List Gate). exchanged F ++ l) (exchanged-twice S)

  pub gates-length : length (gates_in t) ≡ length (moves_of t.first) + length (moves_of t.second)
  unfolding gates_in
  gates-length =
      seen-length b (F ++ exchanged S) ∙ length-append F (exchanged S)
      ∙ ap₂ ◌+◌ (length-map (moves_of t.first) cnot_of) (exchanged-length S ∙ length-map (moves_of t.second) cnot_of)

  -- both kinds of rows after one gathering and then the other
  pub without-is : (i : Island) (q d : ℕ) (n1 n2 c1 c2 : List ℕ) → d ≡ only_of q → n1 ≡ map (turns (seen b F)) i.asked → n2 ≡ map (turns (seen (not b) S)) n1
      → c1 ≡ map (turns (seen (not b) F)) i.mirror → c2 ≡ map (turns (seen b S)) c1
      → (record { near = i.near; set = bit_xor i.set d; asked = n2; mirror = c2 }) ≡ without_of i q (gates_in t)
  unfolding without_of
  without-is i q d n1 n2 c1 c2 ed en1 en2 ec1 ec2 = fields (ap (bit_xor i.set) ed) asked mirror
    where
      asked : n2 ≡ map (turns (gates_in t)) i.asked
      asked = en2 ∙ ap (map (turns (seen (not b) S))) en1 ∙ turns-twice (seen b F) (seen (not b) S) i.asked ∙ ap (λ (g : List Gate). map (turns g) i.asked) (sym gates-both)

      mirror : c2 ≡ map (turns (exchanged (gates_in t))) i.mirror
      mirror = ec2 ∙ ap (map (turns (seen b S))) ec1 ∙ turns-twice (seen (not b) F) (seen b S) i.mirror ∙ ap (λ (g : List Gate). map (turns g) i.mirror) (sym gates-exchanged)

      fields : {s s' : ℕ} {n n' c c' : List ℕ} → s ≡ s' → n ≡ n' → c ≡ c'
          → ◌≡◌ {A = Island} (record { near = i.near; set = s; asked = n; mirror = c }) (record { near = i.near; set = s'; asked = n'; mirror = c' })
      fields es en ec = cc

-- ---- the better of both choices at v

module _ (near : List ℕ) (Q : ℕ) (N C : List ℕ) (v : ℕ) (b : Option Best) where
  pub better-not : spare_of near Q v ≡ false → b ≡ cheapest_in (cost_of near Q N C) b (choices_at near Q v)
  unfolding choices_at cheapest_in
  better-not s = rw s

  pub better-spare : spare_of near Q v ≡ true → (n m : ℕ) → n ≡ cost_of near Q N C (record { qubit = v; mirrored = false }) → m ≡ cost_of near Q N C (record { qubit = v; mirrored = true })
      → cheaper_of (record { qubit = v; mirrored = true }) m (cheaper_of (record { qubit = v; mirrored = false }) n b) ≡ cheapest_in (cost_of near Q N C) b (choices_at near Q v)
  unfolding choices_at cheapest_in
  better-spare s n m en em = rw (s, en, em)

-- ---- the cheapest

module _ (near : List ℕ) (Q : ℕ) (N C : List ℕ) where
  -- the choice that is left to make from v on is the whole choice
  pub Cheapest : ℕ → Option Best → Type 0
  Cheapest v b = cheapest_in (cost_of near Q N C) b (choices_from near Q (20 - v) v) ≡ cheapest_of near Q N C

  pub cheapest-start : Cheapest 0 None
  unfolding Cheapest cheapest_of
  cheapest-start = refl

  pub cheapest-next : (v : ℕ) (b c : Option Best) → v < 20 → c ≡ cheapest_in (cost_of near Q N C) b (choices_at near Q v) → Cheapest v b → Cheapest (v + 1) c
  unfolding Cheapest
  cheapest-next v b c l e h =
      let more : suc (20 - (v + 1)) ≡ 20 - v = omega arith in
      ap (λ (w : Option Best). cheapest_in (cost_of near Q N C) w (choices_from near Q (20 - (v + 1)) (v + 1))) e
      ∙ sym (from_step near Q (cost_of near Q N C) (20 - (v + 1)) v b) ∙ ap (λ (d : ℕ). cheapest_in (cost_of near Q N C) b (choices_from near Q d v)) more ∙ h

  pub cheapest-end : (v : ℕ) (b : Option Best) → 20 ≤ v → Cheapest v b → b ≡ cheapest_of near Q N C
  unfolding Cheapest choices_from cheapest_in
  cheapest-end v b l h = let z : 20 - v ≡ 0 = omega arith in sym (ap (λ (d : ℕ). cheapest_in (cost_of near Q N C) b (choices_from near Q d v)) z) ∙ h
