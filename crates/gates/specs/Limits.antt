-- The limits of a job (document 01, "Records and refusals"): what `Job`'s constants are.
use Rattle.std.specs.Prelude.{ℕ}

abbrev pub most_qubits : ℕ
most_qubits = 20

abbrev pub most_couplers : ℕ
most_couplers = 190

abbrev pub most_parities : ℕ
most_parities = 256

abbrev pub most_gates : ℕ
most_gates = 4096
