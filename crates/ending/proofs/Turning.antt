-- What laid gates keep: rows inside the island, their products with mirror rows, and the parities they stand for.
-- Assumes nothing.
use mathlib.Core.Path.{◌≡◌, refl, sym, ap, ◌∙◌}
use mathlib.Core.List.{List, [], ◌∷◌, ◌++◌, map}
use Prim.Native.Nat.{ℕ, suc, ◌^◌, ◌<◌}
use native.Mathlib.Omega.{arith}
use lib.ListN.{length, get_or, get_or-map}
use Rattle.sets.specs.Bit.{bit, In, Sub}
use Rattle.sets.specs.Columns.{turn, comb, dot, units}
use Rattle.sets.proofs.Bits.{bit-pow-other}
use Rattle.sets.proofs.Turn.{turn-sub, turn-off, turn-none}
use Rattle.sets.proofs.Dot.{dot-turn}
use Rattle.sets.proofs.Comb.{comb-turn, comb-units, length-units, get_or-units, comb-agree}
use Rattle.sets.proofs.Members.{in-lt}
use Rattle.chip.specs.Graph.{Symm}
use Rattle.gates.specs.declared.gate.Gate.{Gate}
use Rattle.gates.specs.declared.gate.Gate.TheVariants.{Cnot, Rotation, X, Bad}
use Rattle.circuit.specs.Circuit.{step, run}
use Rattle.circuit.proofs.Steps.{step-cnot, step-rotation, step-length}
use Rattle.circuit.proofs.Circuits.{run_none, run-cons}
use Rattle.chip.specs.Inside.{Coupled, Inside}
use Rattle.gathering.specs.Gather.{turns, exchanged, Spares}
use Rattle.sets.specs.Lists.{All}

-- ---- control and target changed over

pub exchanged-twice : (L : List Gate) → exchanged (exchanged L) ≡ L
exchanged-twice [] = refl
exchanged-twice (Cnot c t ∷ gs) = ap (λ (l : List Gate). Cnot c t ∷ l) (exchanged-twice gs)
exchanged-twice (Rotation q a ∷ gs) = ap (λ (l : List Gate). Rotation q a ∷ l) (exchanged-twice gs)
exchanged-twice (X q ∷ gs) = ap (λ (l : List Gate). X q ∷ l) (exchanged-twice gs)
exchanged-twice (Bad ∷ gs) = ap (λ (l : List Gate). Bad ∷ l) (exchanged-twice gs)

pub exchanged-append : (L M : List Gate) → exchanged (L ++ M) ≡ exchanged L ++ exchanged M
exchanged-append [] M = refl
exchanged-append (Cnot c t ∷ gs) M = ap (λ (l : List Gate). Cnot t c ∷ l) (exchanged-append gs M)
exchanged-append (Rotation q a ∷ gs) M = ap (λ (l : List Gate). Rotation q a ∷ l) (exchanged-append gs M)
exchanged-append (X q ∷ gs) M = ap (λ (l : List Gate). X q ∷ l) (exchanged-append gs M)
exchanged-append (Bad ∷ gs) M = ap (λ (l : List Gate). Bad ∷ l) (exchanged-append gs M)

pub exchanged-length : (L : List Gate) → length (exchanged L) ≡ length L
exchanged-length [] = refl
exchanged-length (Cnot c t ∷ gs) = ap suc (exchanged-length gs)
exchanged-length (Rotation q a ∷ gs) = ap suc (exchanged-length gs)
exchanged-length (X q ∷ gs) = ap suc (exchanged-length gs)
exchanged-length (Bad ∷ gs) = ap suc (exchanged-length gs)

module _ (near : List ℕ) (Q : ℕ) (sy : Symm near) where
  pub exchanged-coupled : (L : List Gate) → All (Coupled near Q) L → All (Coupled near Q) (exchanged L)
  unfolding All
  exchanged-coupled [] h = tt
  exchanged-coupled (Cnot c t ∷ gs) h = ((h.0.1, h.0.0, (λ d. h.0.2 (sym d)), sy c t h.0.3), exchanged-coupled gs h.1)
  exchanged-coupled (Rotation q a ∷ gs) h = absurd h.0
  exchanged-coupled (X q ∷ gs) h = absurd h.0
  exchanged-coupled (Bad ∷ gs) h = absurd h.0

module _ (near : List ℕ) (Q : ℕ) where
  -- ---- rows

  pub turns-sub : (L : List Gate) (x : ℕ) → All (Inside near Q) L → Sub x Q → Sub (turns L x) Q
  unfolding All
  turns-sub [] x h f = f
  turns-sub (Cnot c t ∷ gs) x h f = turns-sub gs (turn c t x) h.1 (turn-sub Q x c t h.0.0 f)
  turns-sub (Rotation q a ∷ gs) x h f = turns-sub gs x h.1 f
  turns-sub (X q ∷ gs) x h f = absurd h.0
  turns-sub (Bad ∷ gs) x h f = absurd h.0

  pub back-sub : (L : List Gate) (x : ℕ) → All (Inside near Q) L → Sub x Q → Sub (turns (exchanged L) x) Q
  unfolding All
  back-sub [] x h f = f
  back-sub (Cnot c t ∷ gs) x h f = back-sub gs (turn t c x) h.1 (turn-sub Q x t c h.0.1 f)
  back-sub (Rotation q a ∷ gs) x h f = back-sub gs x h.1 f
  back-sub (X q ∷ gs) x h f = absurd h.0
  back-sub (Bad ∷ gs) x h f = absurd h.0

  -- a row of one wire outside is left alone
  pub turns-out : (L : List Gate) (i : ℕ) → All (Inside near Q) L → bit Q i ≡ 0 → turns L (2 ^ i) ≡ 2 ^ i
  unfolding All
  turns-out [] i h z = refl
  turns-out (Cnot c t ∷ gs) i h z =
      ap (turns gs) (turn-off (2 ^ i) c t (bit-pow-other i t (λ (d : i ≡ t). omega (arith, h.0.1, ap (bit Q) d)))) ∙ turns-out gs i h.1 z
  turns-out (Rotation q a ∷ gs) i h z = turns-out gs i h.1 z
  turns-out (X q ∷ gs) i h z = absurd h.0
  turns-out (Bad ∷ gs) i h z = absurd h.0

  module _ (low : Q < 2 ^ 20) where
    below : (i : ℕ) → In i Q → i < 32
    below i h = omega (arith, in-lt 20 Q i low h)

    -- Law 2, gate after gate
    pub dot-turns : (L : List Gate) (x y : ℕ) → All (Inside near Q) L → dot (turns L x) (turns (exchanged L) y) ≡ dot x y
    unfolding All
    dot-turns [] x y h = refl
    dot-turns (Cnot c t ∷ gs) x y h = dot-turns gs (turn c t x) (turn t c y) h.1 ∙ dot-turn x y c t (below c h.0.0) (below t h.0.1) h.0.2
    dot-turns (Rotation q a ∷ gs) x y h = dot-turns gs x y h.1
    dot-turns (X q ∷ gs) x y h = absurd h.0
    dot-turns (Bad ∷ gs) x y h = absurd h.0

    -- Law 1, gate after gate: the parity that a row stands for stays
    pub comb-turns : (L : List Gate) (x : ℕ) (W : List ℕ) → All (Inside near Q) L → ((i : ℕ) → In i Q → i < length W) → comb (turns L x) (run L W) ≡ comb x W
    unfolding All
    comb-turns [] x W h l = ap (comb x) (run_none W)
    comb-turns (Cnot c t ∷ gs) x W h l =
        ap (comb (turns gs (turn c t x))) (run-cons (Cnot c t) gs W)
        ∙ comb-turns gs (turn c t x) (step (Cnot c t) W) h.1 (λ i k. omega (arith, l i k, step-length (Cnot c t) W))
        ∙ ap (comb (turn c t x)) (step-cnot c t W) ∙ comb-turn W x c t (below c h.0.0) h.0.2 (l t h.0.1)
    comb-turns (Rotation q a ∷ gs) x W h l =
        ap (comb (turns gs x)) (run-cons (Rotation q a) gs W ∙ ap (run gs) (step-rotation q a W)) ∙ comb-turns gs x W h.1 l
    comb-turns (X q ∷ gs) x W h l = absurd h.0
    comb-turns (Bad ∷ gs) x W h l = absurd h.0

-- ---- a list of rows

pub turns-zero : (L : List Gate) → turns L 0 ≡ 0
turns-zero [] = refl
turns-zero (Cnot c t ∷ gs) = ap (turns gs) (turn-none c t) ∙ turns-zero gs
turns-zero (Rotation q a ∷ gs) = turns-zero gs
turns-zero (X q ∷ gs) = turns-zero gs
turns-zero (Bad ∷ gs) = turns-zero gs

pub row-turned : (L : List Gate) (N : List ℕ) (i : ℕ) → get_or (map (turns L) N) i 0 ≡ turns L (get_or N i 0)
row-turned L N i = ap (get_or (map (turns L) N) i) (sym (turns-zero L)) ∙ get_or-map (turns L) N i 0

-- ---- {v} is kept by CNOTs that do not have v as target

pub exchanged-spares : (v : ℕ) (L : List Gate) → All (Spares v) L → turns (exchanged L) (2 ^ v) ≡ 2 ^ v
unfolding All
exchanged-spares v [] h = refl
exchanged-spares v (Cnot c t ∷ gs) h = ap (turns (exchanged gs)) (turn-off (2 ^ v) t c (bit-pow-other v c (λ d. h.0 (sym d)))) ∙ exchanged-spares v gs h.1
exchanged-spares v (Rotation q a ∷ gs) h = exchanged-spares v gs h.1
exchanged-spares v (X q ∷ gs) h = exchanged-spares v gs h.1
exchanged-spares v (Bad ∷ gs) h = exchanged-spares v gs h.1

-- ---- wires that bear their own qubits

pub comb-own : (n x : ℕ) (W : List ℕ) → length W ≡ n → x < 2 ^ n → ((i : ℕ) → In i x → get_or W i 0 ≡ 2 ^ i) → comb x W ≡ x
comb-own n x W e l h =
    comb-agree W (units n) x (e ∙ sym (length-units n)) (λ i k. h i k ∙ sym (get_or-units n i (in-lt n x i l k))) ∙ comb-units n x l
