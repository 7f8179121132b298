-- The limit of qubits and sizes in a circuit's text (request E1). Those of angles stand in the crate `angles`.
use Rattle.std.specs.Prelude.{ℕ}

-- 13: "a qubit or size over 255"
abbrev pub most_qubit : ℕ
most_qubit = 255
