-- Document 01's table, "Records and refusals", of laying: each row as one statement, "When, and exactly then", and the place. An earlier row decides before a later one.
use Rattle.std.specs.Prelude.{List, ℕ, ◌+◌, ◌≤◌, ◌<◌, length, take}
use Rattle.gates.specs.declared.gate.Gate.{Gate}
use Rattle.gates.specs.Limits.{most_couplers, most_parities, most_gates}
use Rattle.gates.specs.Layout.{gates_of}
use Rattle.verdicts.specs.Verdicts.{Verdict}
use Rattle.verdicts.specs.Rows.{Row, Nowhere, Some, First, Passes1, Passes2, WrongRecord, Passes3, BadRecord, Passes5}
use Rattle.tallies.specs.Tally.{bound_of}
use Rattle.meaning.specs.Borne.{borne, terms}
use Rattle.meaning.specs.Same.{Reachable}
use Rattle.laying.specs.Demands.{Strays}

-- 4: "more than 4,096 gates"
abbrev pub Passes4 : List ℕ → Type 0
Passes4 gates = length gates ≤ most_gates

-- 6: "more than 256 different parities bear a rotation (sum 0 and angle 0 included)"
abbrev pub Passes6 : List Gate → Type 0
Passes6 drawn = length (borne drawn) ≤ most_parities

-- "gate that brings the 257th, from 0"
pub record Brings (drawn : List Gate) (k : ℕ) : Type 0 where
  pub within : k < length drawn
  pub before : length (borne (take k drawn)) ≤ most_parities
  pub here : most_parities < length (borne (take (k + 1) drawn))

-- 8: "lent output too short": "laying needs B .. output records and answers 8 exactly when fewer are lent"
abbrev pub Passes8 : ℕ → List Gate → ℕ → Type 0
Passes8 n drawn room = bound_of n (length (terms drawn)) ≤ room

-- the table: v is what laying answers
pub record Rows (n : ℕ) (couplers gates : List ℕ) (room : ℕ) (v : Verdict) : Type 0 where
  pub row_0 : Row v 0 (Passes1 n × (Passes2 couplers × (Passes3 n couplers × (Passes4 gates × (Passes5 n gates × (Passes6 (gates_of n gates) × (Reachable n couplers (gates_of n gates) × Passes8 n (gates_of n gates) room))))))) Nowhere
  pub row_1 : Row v 1 (Passes1 n → ⊥) Nowhere
  pub row_2 : Row v 2 (Passes1 n × (most_couplers < length couplers)) Nowhere
  pub row_3 : Row v 3 (Passes1 n × (Passes2 couplers × Some (WrongRecord n) couplers)) (First (WrongRecord n) couplers)
  pub row_4 : Row v 4 (Passes1 n × (Passes2 couplers × (Passes3 n couplers × (most_gates < length gates)))) Nowhere
  pub row_5 : Row v 5 (Passes1 n × (Passes2 couplers × (Passes3 n couplers × (Passes4 gates × Some (BadRecord n) gates)))) (First (BadRecord n) gates)
  pub row_6 : Row v 6 (Passes1 n × (Passes2 couplers × (Passes3 n couplers × (Passes4 gates × (Passes5 n gates × (most_parities < length (borne (gates_of n gates)))))))) (Brings (gates_of n gates))
  pub row_7 : Row v 7 (Passes1 n × (Passes2 couplers × (Passes3 n couplers × (Passes4 gates × (Passes5 n gates × (Passes6 (gates_of n gates) × (Reachable n couplers (gates_of n gates) → ⊥))))))) (Strays n couplers (gates_of n gates))
  pub row_8 : Row v 8 (Passes1 n × (Passes2 couplers × (Passes3 n couplers × (Passes4 gates × (Passes5 n gates × (Passes6 (gates_of n gates) × (Reachable n couplers (gates_of n gates) × (room < bound_of n (length (terms (gates_of n gates))))))))))) Nowhere
