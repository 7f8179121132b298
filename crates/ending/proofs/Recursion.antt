-- The ending's recursion, for any input: the island's size falls by one at each call. Assumes nothing.
use mathlib.Core.Path.{◌≡◌, refl, sym, ap, ap₂, ◌∙◌}
use mathlib.Core.Bool.{Bool, true, false}
use mathlib.Core.List.{List, [], ◌∷◌, ◌++◌, map}
use Prim.Native.Nat.{ℕ, zero, suc, ◌+◌, ◌*◌, ◌-◌, ◌^◌, ◌≤◌, ◌<◌}
use native.Mathlib.Omega.{arith}
use lib.Bits.{bit_xor}
use lib.Count.{ones, ones-le}
use lib.Dec.{ltb}
use lib.ListN.{length, length-append}
use borrow.Author.Tests.{lt-ltb, le-ltb, ltb-true, ltb-false}
use Rattle.sets.specs.Pick.{pick, both}
use Rattle.sets.specs.Bit.{has, In}
use Rattle.sets.specs.Size.{size_of, only_of}
use Rattle.sets.proofs.Ones.{ones-drop}
use Rattle.sets.proofs.Words.{only-is, has-true}
use Rattle.spares.specs.Spare.{connected_of, spare_of}
use Rattle.gates.specs.declared.gate.Gate.{Gate}
use Rattle.gates.specs.declared.gate.Gate.TheVariants.{Cnot, Rotation, X, Bad}
use Rattle.tallies.specs.Tally.{tally, cnots_of}
use Rattle.emitting.specs.Emit.{emit_at}
use Rattle.emitting.proofs.Emitting.{emit-at-room}
use Rattle.gathering.specs.Gather.{exchanged, turns}
use Rattle.ending.specs.declared.clearing.Best.{Best}
use Rattle.std.specs.Prelude.{Option, None, Some}
use Rattle.ending.specs.declared.clearing.Island.{Island}
use Rattle.ending.specs.Mirror.{seen}
use Rattle.ending.specs.Clear.{out_of, cheapest_of}
use Rattle.ending.specs.Held.{without_of}
use Rattle.ending.specs.Closing.{ending_from, ending_of, onward_of, back_of, back_first, closing_of}
use Rattle.ending.proofs.Choice.{cheapest-fit, out-few, ending-zero, ending-stays, ending-takes}

member : (near : List ℕ) (Q q : ℕ) → spare_of near Q q ≡ true → In q Q
unfolding spare_of
member near Q q e = has-true Q q (go (has Q q) e)
  where
    go : (b : Bool) → both b (connected_of near (bit_xor Q (2 ^ q))) ≡ true → b ≡ true
    go true h = refl
    go false h = h

module _ (near : List ℕ) (Q : ℕ) (N C : List ℕ) where
  pub size-falls : (b : Best) → Some b ≡ cheapest_of near Q N C → size_of Q ≡ suc (size_of (bit_xor Q (only_of b.choice.qubit)))
  unfolding size_of
  size-falls b e =
      let fit = cheapest-fit near Q N C b e in
      ones-drop b.choice.qubit Q (member near Q b.choice.qubit fit.1)
      ∙ ap (λ (m : ℕ). suc (ones (bit_xor Q m))) (sym (only-is b.choice.qubit (omega (arith, fit.0))))

  pub ending-done : (s : ℕ) → s ≡ size_of Q → s < 2 → ending_of near Q N C ≡ []
  unfolding ending_of
  ending-done s e l = ap (λ (f : ℕ). ending_from near f Q N C) (omega arith) ∙ ending-zero near Q N C

  pub ending-stops : (s : ℕ) → s ≡ size_of Q → 2 ≤ s → None ≡ cheapest_of near Q N C → ending_of near Q N C ≡ []
  unfolding ending_of
  ending-stops s es l e =
      let more : size_of Q - 1 ≡ suc (size_of Q - 2) = omega arith in
      ap (λ (f : ℕ). ending_from near f Q N C) more ∙ ending-stays near (size_of Q - 2) Q N C e

module _ (i : Island) (b : Best) (e : Some b ≡ cheapest_of i.near i.set i.asked i.mirror) (gs : List Gate) (r : Island) (er : r ≡ without_of i b.choice.qubit gs) where
  pub without-falls : size_of i.set ≡ suc (size_of r.set)
  unfolding without_of
  without-falls = size-falls i.near i.set i.asked i.mirror b e ∙ sym (ap (λ (w : Island). suc (size_of w.set)) er)

  pub ending-goes : gs ≡ out_of i.near i.set i.asked i.mirror b.choice → (s : ℕ) → s ≡ size_of i.set → 2 ≤ s
      → ending_of i.near i.set i.asked i.mirror ≡ gs ++ ending_of r.near r.set r.asked r.mirror
  unfolding ending_of without_of
  ending-goes eg s es l =
      let f : ℕ = size_of (bit_xor i.set (only_of b.choice.qubit)) - 1 in
      let more : size_of i.set - 1 ≡ suc f = omega (arith, size-falls i.near i.set i.asked i.mirror b e) in
      ap (λ (f : ℕ). ending_from i.near f i.set i.asked i.mirror) more ∙ ending-takes i.near f i.set i.asked i.mirror b e
      ∙ ap (λ (L : List Gate). L ++ ending_from i.near f (bit_xor i.set (only_of b.choice.qubit)) (map (turns L) i.asked) (map (turns (exchanged L)) i.mirror)) (sym eg)
      ∙ sym (ap (λ (w : Island). gs ++ ending_of w.near w.set w.asked w.mirror) er)

-- ---- how long an ending is, whatever the input

from-few : (near : List ℕ) (f Q : ℕ) (N C : List ℕ) → length (ending_from near f Q N C) ≤ 76 * f
from-few near zero Q N C = omega (arith, ap length (ending-zero near Q N C))
from-few near (suc f) Q N C = go (cheapest_of near Q N C) refl (λ Q N C. from-few near f Q N C)
  where
    go : (b : Option Best) → b ≡ cheapest_of near Q N C → ((Q : ℕ) (N C : List ℕ) → length (ending_from near f Q N C) ≤ 76 * f) → length (ending_from near (suc f) Q N C) ≤ 76 * suc f
    go None e ih = omega (arith, ap length (ending-stays near f Q N C e))
    go (Some b) e ih =
        let L : List Gate = out_of near Q N C b.choice in
        let P : ℕ = bit_xor Q (only_of b.choice.qubit) in
        let rest : List Gate = ending_from near f P (map (turns L) N) (map (turns (exchanged L)) C) in
        omega (arith, ap length (ending-takes near f Q N C b e), length-append L rest, out-few near Q N C b.choice, ih P (map (turns L) N) (map (turns (exchanged L)) C))

pub ending-few : (near : List ℕ) (Q : ℕ) (N C : List ℕ) → Q < 4294967296 → length (ending_of near Q N C) ≤ 2356
unfolding ending_of size_of
ending-few near Q N C l = omega (arith, from-few near (ones Q - 1) Q N C, ones-le 32 Q l)

-- memory of its own has room for it, so the next place tells how many there are
pub length-told : (near : List ℕ) (Q : ℕ) (N C own : List ℕ) (r : ℕ) → Q < 4294967296 → length own ≡ 2356 → r ≡ emit_at own 0 (ending_of near Q N C) → r ≡ length (ending_of near Q N C)
length-told near Q N C own r l e h = h ∙ emit-at-room own 0 (ending_of near Q N C) (omega (arith, ending-few near Q N C l)) ∙ omega arith

-- ---- the closing

-- the way back has as many CNOTs as were laid
pub back-count : (gs : List Gate) → cnots_of gs ≡ length (back_of gs)
unfolding cnots_of tally
back-count [] = refl
back-count (Cnot c t ∷ gs) = omega (arith, back-count gs, length-append (back_of gs) (Cnot c t ∷ []))
back-count (Rotation q a ∷ gs) = omega (arith, back-count gs)
back-count (X q ∷ gs) = omega (arith, back-count gs)
back-count (Bad ∷ gs) = omega (arith, back-count gs)

module _ (near : List ℕ) (Q : ℕ) (N C : List ℕ) (gs : List Gate) (b n : ℕ) (eb : b ≡ length (back_of gs)) where
  back-length : length (back_first near Q N C gs) ≡ b + length (ending_of near Q N C)
  unfolding back_first
  back-length = omega (arith, eb, length-append (back_of gs) (ending_of near Q N C))

  pub back-shorter : (r : ℕ) → r ≡ length (ending_of near Q N C) → b < n → ltb r (n - b) ≡ ltb (length (back_first near Q N C gs)) n
  back-shorter r er l = go (ltb r (n - b)) refl
    where
      go : (t : Bool) → ltb r (n - b) ≡ t → t ≡ ltb (length (back_first near Q N C gs)) n
      go true e = sym (lt-ltb (length (back_first near Q N C gs)) n (omega (arith, back-length, er, ltb-true r (n - b) e)))
      go false e = sym (le-ltb (length (back_first near Q N C gs)) n (omega (arith, back-length, er, ltb-false r (n - b) e)))

  pub back-longer : n ≤ b → false ≡ ltb (length (back_first near Q N C gs)) n
  back-longer l = sym (le-ltb (length (back_first near Q N C gs)) n (omega (arith, back-length)))

module _ (near : List ℕ) (Q : ℕ) (N C : List ℕ) (gs : List Gate) (N' C' : List ℕ) (en : N' ≡ map (turns (seen false gs)) N) (ec : C' ≡ map (turns (seen true gs)) C)
    (n : ℕ) (eo : n ≡ length (ending_of near Q N' C')) (t : Bool) (et : t ≡ ltb (length (back_first near Q N C gs)) n) where
  onward-is : onward_of near Q N C gs ≡ ending_of near Q N' C'
  unfolding onward_of
  onward-is = ap₂ (ending_of near Q) (sym en) (sym ec)

  closing-is : closing_of near Q N C gs ≡ pick t (back_first near Q N C gs) (onward_of near Q N C gs)
  unfolding closing_of
  closing-is = ap (λ (s : Bool). pick s (back_first near Q N C gs) (onward_of near Q N C gs)) (ap (ltb (length (back_first near Q N C gs))) (ap length onward-is ∙ sym eo) ∙ sym et)

  pub closing-back : t ≡ true → closing_of near Q N C gs ≡ back_of gs ++ ending_of near Q N C
  unfolding back_first
  closing-back e = closing-is ∙ ap (λ (s : Bool). pick s (back_of gs ++ ending_of near Q N C) (onward_of near Q N C gs)) e

  pub closing-onward : t ≡ false → closing_of near Q N C gs ≡ ending_of near Q N' C'
  closing-onward e = closing-is ∙ ap (λ (s : Bool). pick s (back_first near Q N C gs) (onward_of near Q N C gs)) e ∙ onward-is
