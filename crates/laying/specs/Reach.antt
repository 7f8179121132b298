-- "A job's meaning is reachable exactly when each wire's final parity is inside that wire's island and each term is inside one island" (document 01, "Islands").
use Rattle.std.specs.Prelude.{List, ℕ, ◌<◌}
use Rattle.sets.specs.Bit.{Sub}
use Rattle.gates.specs.declared.gate.Gate.{Gate}
use Rattle.circuit.specs.Circuit.{final_of, Term}

-- the meaning of the gates is inside the islands of n qubits; `isl i` is the island of i
pub record MeaningInside (n : ℕ) (isl : ℕ → ℕ) (gates : List Gate) : Type 0 where
  pub finals : (i : ℕ) → i < n → Sub (final_of gates i) (isl i)
  pub terms : (p : ℕ) → Term gates p → (i : ℕ) × (i < n) × Sub p (isl i)
