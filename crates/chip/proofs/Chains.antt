-- Chains: their ends, joined and turned round. Assumes nothing.
use mathlib.Core.Path.{◌≡◌}
use mathlib.Core.Logic.{◌⊎◌, inl, inr}
use mathlib.Core.List.{List}
use Prim.Native.Nat.{ℕ}
use native.Mathlib.Omega.{arith}
use Rattle.sets.specs.Bit.{bit, In}
use Rattle.sets.proofs.Bits.{bit-cases}
use Rattle.chip.specs.Graph.{Near, Symm, Chain, here, next}

pub chain-end : {near : List ℕ} {Q u v : ℕ} → Chain near Q u v → In v Q
chain-end (here h) = h
chain-end (next c n h) = h

pub chain-start : {near : List ℕ} {Q u v : ℕ} → Chain near Q u v → In u Q
chain-start (here h) = h
chain-start (next c n h) = chain-start c

pub chain-cat : {near : List ℕ} {Q u v w : ℕ} → Chain near Q u v → Chain near Q v w → Chain near Q u w
chain-cat c (here h) = c
chain-cat c (next d n h) = next (chain-cat c d) n h

pub chain-rev : {near : List ℕ} {Q u v : ℕ} → Symm near → Chain near Q u v → Chain near Q v u
chain-rev sy (here h) = here h
chain-rev sy (next {v = v} {w = w} c n h) = chain-cat (next (here h) (sy v w n) (chain-end c)) (chain-rev sy c)

-- a chain from S to a qubit outside leaves S somewhere
pub leave : {near : List ℕ} {Q v w : ℕ} (S : ℕ) → Chain near Q v w → In v S → bit S w ≡ 0 → (a u : ℕ) × In a S × (bit S u ≡ 0) × Near near a u × In u Q
leave S (here q) h z = absurd (omega arith)
leave {near} {Q} {v} S (next {v = a} {w = w} c n q) h z = go (bit-cases S a) (leave S c h)
  where
    go : (bit S a ≡ 0) ⊎ (bit S a ≡ 1) → (bit S a ≡ 0 → (a u : ℕ) × In a S × (bit S u ≡ 0) × Near near a u × In u Q)
        → (a u : ℕ) × In a S × (bit S u ≡ 0) × Near near a u × In u Q
    go (inl y) ih = ih y
    go (inr y) ih = (a, w, y, z, n, q)
