-- Gates that keep to a set of qubits and to the couplers inside it: for one island what "every CNOT on a listed coupler" (document 01) is for a job.
use Rattle.std.specs.Prelude.{◌≢◌, List, ℕ}
use Rattle.sets.specs.Bit.{In}
use Rattle.gates.specs.declared.gate.Gate.{Gate}
use Rattle.gates.specs.declared.gate.Gate.TheVariants.{Cnot, Rotation, X, Bad}
use Rattle.chip.specs.Graph.{Near}

-- CNOT c,t is on a coupler whose ends are in Q
abbrev pub On : List ℕ → ℕ → ℕ → ℕ → Type 0
On near Q c t = In c Q × In t Q × (c ≢ t) × Near near c t

-- a gate inside Q: such a CNOT, or a rotation on a qubit of Q. An X is none of them: flips are laid behind all else
abbrev pub Inside : List ℕ → ℕ → Gate → Type 0
Inside near Q (Cnot c t) = On near Q c t
Inside near Q (Rotation q a) = In q Q
Inside near Q (X q) = ⊥
Inside near Q Bad = ⊥

-- such a CNOT, and no other gate
abbrev pub Coupled : List ℕ → ℕ → Gate → Type 0
Coupled near Q (Cnot c t) = On near Q c t
Coupled near Q (Rotation q a) = ⊥
Coupled near Q (X q) = ⊥
Coupled near Q Bad = ⊥
