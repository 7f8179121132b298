-- Gates on the qubits of a set Q: what laying needs to know of them besides their sums. Assumes nothing.
use mathlib.Core.Path.{◌≡◌, ap, ◌∙◌}
use mathlib.Core.List.{List, [], ◌∷◌}
use Prim.Native.Nat.{ℕ, ◌+◌, ◌<◌}
use native.Mathlib.Omega.{arith}
use lib.ListN.{length, get_or}
use Rattle.sets.specs.Bit.{bit, In}
use Rattle.gates.specs.declared.gate.Gate.{Gate}
use Rattle.gates.specs.declared.gate.Gate.TheVariants.{Cnot, Rotation, X, Bad}
use Rattle.gates.specs.Layout.{Good}
use Rattle.circuit.specs.Circuit.{step, run}
use Rattle.sets.specs.Lists.{All}
use Rattle.tallies.specs.Tally.{tally, cnots_of, rotations_of}
use Rattle.circuit.proofs.Steps.{step-cnot, step-rotation, cnot-other}
use Rattle.circuit.proofs.Circuits.{run_none, run-cons}
use Rattle.chip.specs.Inside.{Inside}
use Rattle.columns.specs.Terms.{Small}

-- no bad gate: the list is as long as its CNOTs and rotations are many
pub inside-length : (near : List ℕ) (Q : ℕ) (gs : List Gate) → All (Inside near Q) gs → length gs ≡ cnots_of gs + rotations_of gs
unfolding All cnots_of rotations_of tally
inside-length near Q [] a = omega arith
inside-length near Q (Cnot c t ∷ gs) a = omega (arith, inside-length near Q gs a.1)
inside-length near Q (Rotation q v ∷ gs) a = omega (arith, inside-length near Q gs a.1)
inside-length near Q (X q ∷ gs) a = absurd a.0
inside-length near Q (Bad ∷ gs) a = absurd a.0

-- gates of n qubits, where Q has no others
pub inside-good : (near : List ℕ) (n Q : ℕ) → ((i : ℕ) → In i Q → i < n) → (gs : List Gate) → All (Inside near Q) gs → All Small gs → All (Good n) gs
unfolding All Small Good
inside-good near n Q low [] a b = tt
inside-good near n Q low (Cnot c t ∷ gs) ((hc, ht, ne, e), a) b = ((low c hc, low t ht, ne), inside-good near n Q low gs a b.1)
inside-good near n Q low (Rotation q v ∷ gs) a b = ((low q a.0, b.0), inside-good near n Q low gs a.1 b.1)
inside-good near n Q low (X q ∷ gs) a b = absurd a.0
inside-good near n Q low (Bad ∷ gs) a b = absurd a.0

-- a wire outside Q keeps its parity
pub outside-keeps : (near : List ℕ) (Q i : ℕ) → bit Q i ≡ 0 → (gs : List Gate) (W : List ℕ) → All (Inside near Q) gs → get_or (run gs W) i 0 ≡ get_or W i 0
unfolding All
outside-keeps near Q i z [] W a = ap (λ (w : List ℕ). get_or w i 0) (run_none W)
outside-keeps near Q i z (Cnot c t ∷ gs) W ((hc, ht, ne, e), a) =
    ap (λ (w : List ℕ). get_or w i 0) (run-cons (Cnot c t) gs W) ∙ outside-keeps near Q i z gs (step (Cnot c t) W) a
    ∙ ap (λ (w : List ℕ). get_or w i 0) (step-cnot c t W) ∙ cnot-other c t i W (λ (d : i ≡ t). omega (arith, ht, z, ap (bit Q) d))
outside-keeps near Q i z (Rotation q v ∷ gs) W a =
    ap (λ (w : List ℕ). get_or w i 0) (run-cons (Rotation q v) gs W) ∙ outside-keeps near Q i z gs (step (Rotation q v) W) a.1
    ∙ ap (λ (w : List ℕ). get_or w i 0) (step-rotation q v W)
outside-keeps near Q i z (X q ∷ gs) W a = absurd a.0
outside-keeps near Q i z (Bad ∷ gs) W a = absurd a.0
