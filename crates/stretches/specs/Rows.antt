-- Document 01's table, "Records and refusals", of a job: each row as one statement, "When, and exactly then", and the place. An earlier row decides before a later one.
use Rattle.std.specs.Prelude.{◌≡◌, ◌⊎◌, List, [], ◌∷◌, ℕ, ◌+◌, ◌≤◌, ◌<◌, length}
use Rattle.gates.specs.Limits.{most_couplers, most_gates}
use Rattle.gates.specs.Layout.{gates_of}
use Rattle.verdicts.specs.Verdicts.{Verdict}
use Rattle.verdicts.specs.Rows.{Row, Nowhere, Some, First, Passes1, Passes2, WrongRecord, Passes3, BadDrawn, PassesDrawn}
use Rattle.meaning.specs.Same.{Reachable}
use Rattle.laying.specs.Demands.{Strays}
use Rattle.laying.specs.Rows.{Passes4, Passes6, Brings}
use Rattle.sets.specs.Lists.{All}
use Rattle.stretches.specs.Stretches.{stretches_of, hadamards_of}
use Rattle.stretches.specs.Tests.{job_bound}
use Rattle.stretches.specs.Meaning.{ReachableJob}

-- 6: every stretch has at most 256 parities that bear a rotation
abbrev pub PassesSix : ℕ → List (List ℕ) → Type 0
PassesSix n ss = All (λ s. Passes6 (gates_of n s)) ss

-- the place p of the gate that brings the 257th parity of the first stretch with so many; the first of the stretches begins at k, and a Hadamard stands between each and the next
unfoldable pub BringsFrom : ℕ → ℕ → List (List ℕ) → ℕ → Type 0
BringsFrom n k [] p = ⊥
BringsFrom n k (s ∷ ss) p = ((i : ℕ) × (p ≡ k + i) × Brings (gates_of n s) i) ⊎ (Passes6 (gates_of n s) × BringsFrom n (k + length s + 1) ss p)

-- the place p of the first gate of the first stretch that cannot be reached
unfoldable pub UnreachedFrom : ℕ → List ℕ → ℕ → List (List ℕ) → ℕ → Type 0
UnreachedFrom n couplers k [] p = ⊥
UnreachedFrom n couplers k (s ∷ ss) p =
    ((p ≡ k) × (Reachable n couplers (gates_of n s) → ⊥)) ⊎ (Reachable n couplers (gates_of n s) × UnreachedFrom n couplers (k + length s + 1) ss p)

-- 7: "returns, if the job has a Hadamard, the place of the first gate of the first unreachable stretch"; else the lowest wire that leaves its island, or n
pub record Unreached (n : ℕ) (couplers gates : List ℕ) (p : ℕ) : Type 0 where
  pub one : hadamards_of n gates ≡ [] → Strays n couplers (gates_of n gates) p
  pub more : (hadamards_of n gates ≡ [] → ⊥) → UnreachedFrom n couplers 0 (stretches_of n gates) p

-- the table: v is what laying answers
pub record JobRows (n : ℕ) (couplers gates : List ℕ) (room : ℕ) (v : Verdict) : Type 0 where
  pub row_0 : Row v 0 (Passes1 n × (Passes2 couplers × (Passes3 n couplers × (Passes4 gates × (PassesDrawn n gates × (PassesSix n (stretches_of n gates) × (ReachableJob n couplers gates × (job_bound n gates ≤ room)))))))) Nowhere
  pub row_1 : Row v 1 (Passes1 n → ⊥) Nowhere
  pub row_2 : Row v 2 (Passes1 n × (most_couplers < length couplers)) Nowhere
  pub row_3 : Row v 3 (Passes1 n × (Passes2 couplers × Some (WrongRecord n) couplers)) (First (WrongRecord n) couplers)
  pub row_4 : Row v 4 (Passes1 n × (Passes2 couplers × (Passes3 n couplers × (most_gates < length gates)))) Nowhere
  pub row_5 : Row v 5 (Passes1 n × (Passes2 couplers × (Passes3 n couplers × (Passes4 gates × Some (BadDrawn n) gates)))) (First (BadDrawn n) gates)
  pub row_6 : Row v 6 (Passes1 n × (Passes2 couplers × (Passes3 n couplers × (Passes4 gates × (PassesDrawn n gates × (PassesSix n (stretches_of n gates) → ⊥)))))) (BringsFrom n 0 (stretches_of n gates))
  pub row_7 : Row v 7 (Passes1 n × (Passes2 couplers × (Passes3 n couplers × (Passes4 gates × (PassesDrawn n gates × (PassesSix n (stretches_of n gates) × (ReachableJob n couplers gates → ⊥))))))) (Unreached n couplers gates)
  pub row_8 : Row v 8 (Passes1 n × (Passes2 couplers × (Passes3 n couplers × (Passes4 gates × (PassesDrawn n gates × (PassesSix n (stretches_of n gates) × (ReachableJob n couplers gates × (room < job_bound n gates)))))))) Nowhere
