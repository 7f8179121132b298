-- The closing of an island: every wire bears what was asked, for either closing and any ending in it. Assumes nothing.
use mathlib.Core.Path.{◌≡◌, refl, sym, ap, ap₂, ◌∙◌}
use mathlib.Core.Bool.{Bool, true, false}
use mathlib.Core.List.{List, [], ◌∷◌, ◌++◌, map}
use Prim.Native.Nat.{ℕ, ◌^◌, ◌≤◌, ◌<◌}
use native.Mathlib.Omega.{arith}
use native.Mathlib.Decide.{ℕ_discrete}
use lib.Bits.{bit_xor, xor_self, xor_zero_l}
use lib.Count.{ones}
use lib.Dec.{ltb}
use lib.ListN.{length, get_or}
use borrow.Author.Tests.{ltb-true}
use Rattle.sets.specs.Pick.{pick}
use Rattle.sets.specs.Bit.{bit, In, Sub}
use Rattle.sets.specs.Size.{size_of}
use Rattle.sets.specs.Columns.{turn, comb, dot}
use Rattle.sets.proofs.Bits.{bit-pow-same, xor-cancel}
use Rattle.sets.proofs.Comb.{comb-pow, comb-xor}
use Rattle.sets.proofs.Dot.{dot-pow}
use Rattle.sets.proofs.Turn.{turn-back}
use Rattle.sets.proofs.Members.{in-lt, sub-eq, xor-sub}
use Rattle.chip.specs.Graph.{Symm, Joined}
use Rattle.chip.proofs.Growth.{pow-sub}
use Rattle.gates.specs.declared.gate.Gate.{Gate}
use Rattle.gates.specs.declared.gate.Gate.TheVariants.{Cnot, Rotation, X, Bad}
use Rattle.gates.specs.Layout.{Good}
use Rattle.circuit.specs.Circuit.{run}
use Rattle.sets.specs.Lists.{All}
use Rattle.tallies.specs.Tally.{tally, one_cnot, one_rotation, cnots_of, rotations_of}
use Rattle.chip.specs.Inside.{Coupled, Inside}
use Rattle.gathering.specs.Gather.{turns, exchanged}
use Rattle.sets.proofs.Lists.{all_append}
use Rattle.chip.proofs.Insides.{coupled-inside}
use Rattle.gathering.proofs.GatherWorks.{turns-append}
use Rattle.columns.proofs.Inside.{outside-keeps}
use Rattle.gathering.proofs.OrderParts.{sub-lt}
use Rattle.ending.specs.Closing.{ending_of, onward_of, back_of, back_first, closing_of}
use Rattle.ending.specs.Ends.{Ready, AnyEnding, Ended, Closes}
use Rattle.ending.proofs.Turning.{turns-sub, comb-turns, turns-zero, row-turned, comb-own}
use Rattle.ending.proofs.Endings.{ready-turns, ends-right, ends-none, spent-is}
use Rattle.ending.proofs.Choice.{ending-ends}

-- behind the gates gs, the CNOTs M bring each row of Q to its own wire
pub record BringsHome (near : List ℕ) (Q : ℕ) (N : List ℕ) (gs M : List Gate) : Type 0 where
  pub coupled : All (Coupled near Q) M
  pub right : (i : ℕ) → In i Q → turns (gs ++ M) (get_or N i 0) ≡ 2 ^ i

-- ---- CNOTs in reverse undo themselves

module _ (near : List ℕ) (Q : ℕ) where
  pub back-undoes : (gs : List Gate) (x : ℕ) → All (Inside near Q) gs → turns (back_of gs) (turns gs x) ≡ x
  unfolding All
  back-undoes [] x h = refl
  back-undoes (Cnot c t ∷ gs) x h =
      turns-append (back_of gs) (Cnot c t ∷ []) (turns gs (turn c t x)) ∙ ap (turn c t) (back-undoes gs (turn c t x) h.1) ∙ turn-back x c t h.0.2
  back-undoes (Rotation q a ∷ gs) x h = back-undoes gs x h.1
  back-undoes (X q ∷ gs) x h = absurd h.0
  back-undoes (Bad ∷ gs) x h = absurd h.0

  undoes-back : (gs : List Gate) (x : ℕ) → All (Inside near Q) gs → turns gs (turns (back_of gs) x) ≡ x
  unfolding All
  undoes-back [] x h = refl
  undoes-back (Cnot c t ∷ gs) x h =
      ap (λ (m : ℕ). turns gs (turn c t m)) (turns-append (back_of gs) (Cnot c t ∷ []) x) ∙ ap (turns gs) (turn-back (turns (back_of gs) x) c t h.0.2) ∙ undoes-back gs x h.1
  undoes-back (Rotation q a ∷ gs) x h = undoes-back gs x h.1
  undoes-back (X q ∷ gs) x h = absurd h.0
  undoes-back (Bad ∷ gs) x h = absurd h.0

  pub back-coupled : (gs : List Gate) → All (Inside near Q) gs → All (Coupled near Q) (back_of gs)
  unfolding All
  back-coupled [] h = tt
  back-coupled (Cnot c t ∷ gs) h = all_append (Coupled near Q) (back_of gs) (Cnot c t ∷ []) (back-coupled gs h.1) (h.0, tt)
  back-coupled (Rotation q a ∷ gs) h = back-coupled gs h.1
  back-coupled (X q ∷ gs) h = absurd h.0
  back-coupled (Bad ∷ gs) h = absurd h.0

  -- ---- either closing, with any ending

  -- the ending from where the wires stand
  pub onward-brings : Q < 2 ^ 20 → (N C : List ℕ) (gs E : List Gate) → All (Inside near Q) gs → Ready Q N C → AnyEnding near Q (map (turns gs) N) (map (turns (exchanged gs)) C) E → BringsHome near Q N gs E
  onward-brings low N C gs E h r d =
      let e : Ended near Q (map (turns gs) N) E = ends-right low (ready-turns near Q low N C gs h r) d in
      record {
        coupled = e.coupled;
        right = λ i k. turns-append gs E (get_or N i 0) ∙ ap (turns E) (sym (row-turned gs N i)) ∙ e.right i k;
      }

  -- the laid CNOTs in reverse, then the ending from the start
  pub back-brings : Q < 2 ^ 20 → (N C : List ℕ) (gs E : List Gate) → All (Inside near Q) gs → Ready Q N C → AnyEnding near Q N C E → BringsHome near Q N gs (back_of gs ++ E)
  back-brings low N C gs E h r d =
      let e : Ended near Q N E = ends-right low r d in
      record {
        coupled = all_append (Coupled near Q) (back_of gs) E (back-coupled gs h) e.coupled;
        right = λ i k. turns-append gs (back_of gs ++ E) (get_or N i 0) ∙ turns-append (back_of gs) E (turns gs (get_or N i 0))
            ∙ ap (turns E) (back-undoes gs (get_or N i 0) h) ∙ e.right i k;
      }

  -- ---- gates on couplers inside Q are CNOTs on 20 qubits

  coupled-good : Q < 2 ^ 20 → (L : List Gate) → All (Coupled near Q) L → All (Good 20) L
  unfolding All Good
  coupled-good low [] h = tt
  coupled-good low (Cnot c t ∷ gs) h = ((in-lt 20 Q c low h.0.0, in-lt 20 Q t low h.0.1, h.0.2), coupled-good low gs h.1)
  coupled-good low (Rotation q a ∷ gs) h = absurd h.0
  coupled-good low (X q ∷ gs) h = absurd h.0
  coupled-good low (Bad ∷ gs) h = absurd h.0

  coupled-rotations : (L : List Gate) → All (Coupled near Q) L → tally one_rotation L ≡ 0
  unfolding All tally
  coupled-rotations [] h = refl
  coupled-rotations (Cnot c t ∷ gs) h = omega (arith, coupled-rotations gs h.1)
  coupled-rotations (Rotation q a ∷ gs) h = absurd h.0
  coupled-rotations (X q ∷ gs) h = absurd h.0
  coupled-rotations (Bad ∷ gs) h = absurd h.0

  coupled-cnots : (L : List Gate) → All (Coupled near Q) L → tally one_cnot L ≡ length L
  unfolding All tally
  coupled-cnots [] h = refl
  coupled-cnots (Cnot c t ∷ gs) h = omega (arith, coupled-cnots gs h.1)
  coupled-cnots (Rotation q a ∷ gs) h = absurd h.0
  coupled-cnots (X q ∷ gs) h = absurd h.0
  coupled-cnots (Bad ∷ gs) h = absurd h.0

-- ---- rows and wires

module _ (near : List ℕ) (Q : ℕ) (low : Q < 2 ^ 20) (W : List ℕ) (size : length W ≡ 20) (own : (i : ℕ) → In i Q → get_or W i 0 ≡ 2 ^ i) where
  reach : (i : ℕ) → In i Q → i < length W
  reach i h = omega (arith, in-lt 20 Q i low h)

  stood : (x : ℕ) → Sub x Q → comb x W ≡ x
  stood x f = comb-own 20 x W size (sub-lt x Q 20 f low) (λ i h. own i (f i h))

  -- rows that came to their own wires: every wire bears the parity asked for
  pub wires-right : (N : List ℕ) (gs M : List Gate) → All (Inside near Q) gs → BringsHome near Q N gs M → (i : ℕ) → In i Q → Sub (get_or N i 0) Q
      → get_or (run (gs ++ M) W) i 0 ≡ get_or N i 0
  wires-right N gs M h b i k f =
      let g : List Gate = gs ++ M in
      sym (comb-pow (run g W) i) ∙ ap (λ (m : ℕ). comb m (run g W)) (sym (b.right i k))
      ∙ comb-turns near Q low g (get_or N i 0) W (all_append (Inside near Q) gs M h (coupled-inside near Q M b.coupled)) reach ∙ stood (get_or N i 0) f

  -- and the other way: a wire that bears the parity asked for has its row at home
  row-home : (x : ℕ) (gs : List Gate) (i : ℕ) → All (Inside near Q) gs → In i Q → Sub x Q → get_or (run gs W) i 0 ≡ x → turns gs x ≡ 2 ^ i
  row-home x gs i h k f e =
      sym (xor-cancel (turns gs x) (2 ^ i)) ∙ ap (λ (m : ℕ). bit_xor m (2 ^ i)) zero-y ∙ xor_zero_l (2 ^ i)
    where
      y : ℕ
      y = bit_xor (turns gs x) (2 ^ i)

      sub-y : Sub y Q
      sub-y = xor-sub (turns gs x) (2 ^ i) Q (turns-sub near Q gs x h f) (pow-sub Q i k)

      none : comb y (run gs W) ≡ 0
      none =
          comb-xor (run gs W) (turns gs x) (2 ^ i)
          ∙ ap₂ bit_xor (comb-turns near Q low gs x W h reach ∙ stood x f) (comb-pow (run gs W) i ∙ e) ∙ xor_self x

      z : ℕ
      z = turns (back_of gs) y

      zero-z : z ≡ 0
      zero-z =
          sym (stood z (turns-sub near Q (back_of gs) y (coupled-inside near Q (back_of gs) (back-coupled near Q gs h)) sub-y))
          ∙ sym (comb-turns near Q low gs z W h reach) ∙ ap (λ (m : ℕ). comb m (run gs W)) (undoes-back near Q gs y h) ∙ none

      zero-y : y ≡ 0
      zero-y = sym (undoes-back near Q gs y h) ∙ ap (turns gs) zero-z ∙ turns-zero gs

-- rows at home have their mirror rows at home
mirror-home : (Q : ℕ) (N C : List ℕ) → Ready Q N C → ((i : ℕ) → In i Q → get_or N i 0 ≡ 2 ^ i) → (i : ℕ) → In i Q → get_or C i 0 ≡ 2 ^ i
mirror-home Q N C r own j h =
    sub-eq (get_or C j 0) (2 ^ j) (λ k m. at k (r.mirror j h k m) m (ℕ_discrete k j)) (pow-sub (get_or C j 0) j (meets j h ∙ r.one j h))
  where
    meets : (i : ℕ) → In i Q → bit (get_or C j 0) i ≡ dot (get_or N i 0) (get_or C j 0)
    meets i k = sym (dot-pow i (get_or C j 0)) ∙ ap (λ (m : ℕ). dot m (get_or C j 0)) (sym (own i k))

    at : (k : ℕ) → In k Q → In k (get_or C j 0) → Dec (k ≡ j) → In k (2 ^ j)
    at k q m (yes d) = ap (bit (2 ^ j)) d ∙ bit-pow-same j
    at k q m (no n) = absurd (omega (arith, m, meets k q, r.nul k j q h n))

-- ---- the definition

module _ (near : List ℕ) (Q : ℕ) (N C : List ℕ) (gs : List Gate) (sy : Symm near) (low : Q < 2 ^ 20) (j : Joined near Q) (r : Ready Q N C) (h : All (Inside near Q) gs) where
  onward-ends : AnyEnding near Q (map (turns gs) N) (map (turns (exchanged gs)) C) (onward_of near Q N C gs)
  unfolding onward_of
  onward-ends = ending-ends near Q (map (turns gs) N) (map (turns (exchanged gs)) C) sy low j (ready-turns near Q low N C gs h r)

  closing-brings : BringsHome near Q N gs (closing_of near Q N C gs)
  unfolding closing_of back_first
  closing-brings = go (ltb (length (back_first near Q N C gs)) (length (onward_of near Q N C gs)))
    where
      go : (b : Bool) → BringsHome near Q N gs (pick b (back_first near Q N C gs) (onward_of near Q N C gs))
      go true = back-brings near Q low N C gs (ending_of near Q N C) h r (ending-ends near Q N C sy low j r)
      go false = onward-brings near Q low N C gs (onward_of near Q N C gs) h r onward-ends

  -- "onward in a tie, so the bound holds"
  closing-least : length (closing_of near Q N C gs) ≤ length (onward_of near Q N C gs)
  unfolding closing_of
  closing-least = go (ltb (length (back_first near Q N C gs)) (length (onward_of near Q N C gs))) refl
    where
      go : (b : Bool) → ltb (length (back_first near Q N C gs)) (length (onward_of near Q N C gs)) ≡ b
          → length (pick b (back_first near Q N C gs) (onward_of near Q N C gs)) ≤ length (onward_of near Q N C gs)
      go true e = omega (arith, ltb-true (length (back_first near Q N C gs)) (length (onward_of near Q N C gs)) e)
      go false e = omega arith

  closing-still : ((i : ℕ) → In i Q → turns gs (get_or N i 0) ≡ 2 ^ i) → closing_of near Q N C gs ≡ []
  closing-still own =
      let at : (i : ℕ) → In i Q → get_or (map (turns gs) N) i 0 ≡ 2 ^ i = λ i k. row-turned gs N i ∙ own i k in
      let e : onward_of near Q N C gs ≡ [] = ends-none onward-ends at (mirror-home Q (map (turns gs) N) (map (turns (exchanged gs)) C) (ready-turns near Q low N C gs h r) at) in
      empty (closing_of near Q N C gs) (omega (arith, closing-least, ap length e))
    where
      empty : (l : List Gate) → length l ≤ 0 → l ≡ []
      empty [] z = refl
      empty (g ∷ l) z = absurd (omega arith)

  -- MAIN THEOREM of the ending
  pub closing-closes : Closes near Q N gs (closing_of near Q N C gs)
  unfolding rotations_of cnots_of size_of
  closing-closes =
      record {
        coupled = b.coupled;
        right = λ W size own i k. wires-right near Q low W size own N gs M h b i k (r.rows i k);
        others = λ W i z. outside-keeps near Q i z (gs ++ M) W (all_append (Inside near Q) gs M h (coupled-inside near Q M b.coupled));
        good = coupled-good near Q low M b.coupled;
        rotations = coupled-rotations near Q M b.coupled;
        cnots = coupled-cnots near Q M b.coupled;
        short = omega (arith, closing-least, e.short, spent-is (ones Q));
        still = λ W size own right. closing-still (λ i k. row-home near Q low W size own (get_or N i 0) gs i h k (r.rows i k) (right i k));
      }
    where
      M : List Gate
      M = closing_of near Q N C gs

      b : BringsHome near Q N gs M
      b = closing-brings

      e : Ended near Q (map (turns gs) N) (onward_of near Q N C gs)
      e = ends-right low (ready-turns near Q low N C gs h r) onward-ends
