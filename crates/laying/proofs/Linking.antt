-- Chains of listed couplers and the islands that the chip finds are the same. Assumes nothing.
use mathlib.Core.Path.{◌≡◌}
use mathlib.Core.List.{List}
use Prim.Native.Nat.{ℕ, ◌≤◌, ◌<◌}
use native.Mathlib.Omega.{arith}
use Rattle.std.specs.Prelude.{Ok}
use Rattle.sets.specs.Bit.{In}
use Rattle.sets.proofs.Members.{sub-eq}
use Rattle.verdicts.specs.Verdicts.{judged_couplers}
use Rattle.chip.specs.Graph.{Chain, here, next}
use Rattle.chip.specs.Couplers.{near_of}
use Rattle.isles.specs.Islands.{every_qubit, island_of}
use Rattle.chip.proofs.Neighbours.{near-below, near-listed, accepted-near}
use Rattle.isles.proofs.Isles.{every_in, island-chain, chain-island}
use Rattle.laying.specs.Demands.{Linked, same, more, Island}

module _ (n : ℕ) (xs : List ℕ) (few : n ≤ 20) (ok : judged_couplers n xs ≡ Ok tt) where
  linked-below : {q j : ℕ} → Linked xs n q j → j < n
  linked-below (same h) = h
  linked-below (more l h k) = h

  linked-chain : {q j : ℕ} → Linked xs n q j → Chain (near_of n xs) every_qubit q j
  linked-chain {q} (same h) = here (every_in q (omega arith))
  linked-chain (more {v} {w} l h k) = next (linked-chain l) (accepted-near n xs few ok v w (linked-below l) h k) (every_in w (omega arith))

  chain-linked : {q j : ℕ} → q < n → Chain (near_of n xs) every_qubit q j → Linked xs n q j
  chain-linked h (here m) = same h
  chain-linked h (next {v} {w} l k m) = more (chain-linked h l) (near-below n xs v w k).1 (near-listed n xs v w k)

  pub linked-in : (q j : ℕ) → Linked xs n q j → In j (island_of (near_of n xs) q)
  linked-in q j l = chain-island (near_of n xs) q j (linked-chain l)

  pub in-linked : (q j : ℕ) → q < n → In j (island_of (near_of n xs) q) → Linked xs n q j
  in-linked q j h m = chain-linked h (island-chain (near_of n xs) q j (omega arith) m)

  -- "two qubits are on one island when a chain of couplers joins them": what is found is the island
  pub island-found : (S q : ℕ) → Island n xs S q → S ≡ island_of (near_of n xs) q
  island-found S q s = sub-eq S (island_of (near_of n xs) q) (λ j m. linked-in q j (s.only j m)) (λ j m. s.all j (in-linked q j s.below m))
