-- The examples marked P of document 01, "Examples by number". Each crate lists those that it can state; the last one joins the lists.
use Rattle.std.specs.Prelude.{◌≡◌, List, [], ◌∷◌, ℕ}
use Rattle.gates.specs.declared.gate.Gate.{Gate}
use Rattle.gates.specs.Example.{Example}
use Rattle.gates.specs.Layout.{packed, gates_of}
use Rattle.circuit.specs.Circuit.{final_of, sum_of}
use Rattle.circuit.specs.Flips.{flip_of}
use Rattle.circuit.specs.Phase.{phase_of}
use Rattle.meaning.specs.Borne.{terms}
use Rattle.tallies.specs.Tally.{depth_of, bound_of}

-- records of gates, control first
abbrev pub cnot_record : ℕ → ℕ → ℕ
cnot_record c t = packed 1 c t

abbrev pub rotation_record : ℕ → ℕ → ℕ
rotation_record q a = packed 2 q a

-- 1. "n=2, CNOTs 0-1, 1-0, 0-1 (control first): final parities 2, 1."
abbrev pub gates1 : List Gate
gates1 = gates_of 2 (cnot_record 0 1 ∷ cnot_record 1 0 ∷ cnot_record 0 1 ∷ [])

-- 2. "n=2, rotation 5 on 1, CNOT 0-1, rotation 5 on 1: sums 5 for parity 2, 5 for parity 3."
abbrev pub gates2 : List Gate
gates2 = gates_of 2 (rotation_record 1 5 ∷ cnot_record 0 1 ∷ rotation_record 1 5 ∷ [])

-- 3. "n=1, angles 65,535 and 1 on 0: no term."
abbrev pub gates3 : List Gate
gates3 = gates_of 1 (rotation_record 0 65535 ∷ rotation_record 0 1 ∷ [])

-- 5. "CNOT 0-2, angle 40 on 2, CNOT 0-2", on three qubits
abbrev pub records5 : List ℕ
records5 = cnot_record 0 2 ∷ rotation_record 2 40 ∷ cnot_record 0 2 ∷ []

-- 6. "the same with angles 40 and 65,496 between: .. no term."
abbrev pub records6 : List ℕ
records6 = cnot_record 0 2 ∷ rotation_record 2 40 ∷ rotation_record 2 65496 ∷ cnot_record 0 2 ∷ []

-- 10. "depth of CNOT 0-1, rotation on 1, CNOT 0-1", where only CNOTs take a layer: "the answer is 2"
abbrev pub gates10 : List Gate
gates10 = gates_of 2 (cnot_record 0 1 ∷ rotation_record 1 1 ∷ cnot_record 0 1 ∷ [])

-- of request E3: X gates, kind 3 with b = 0

abbrev pub x_record : ℕ → ℕ
x_record q = packed 3 q 0

-- 12. "X, rotation 5, X on one wire": the angle is taken from the sum and goes to the common phase, 10 half units
abbrev pub gates12 : List Gate
gates12 = gates_of 1 (x_record 0 ∷ rotation_record 0 5 ∷ x_record 0 ∷ [])

-- 13. "A CNOT adds its control's flip to its target's", on two qubits
abbrev pub gates13 : List Gate
gates13 = gates_of 2 (x_record 0 ∷ cnot_record 0 1 ∷ [])

-- 14. two X gates on one wire are none
abbrev pub gates14 : List Gate
gates14 = gates_of 1 (x_record 0 ∷ x_record 0 ∷ [])

-- what the examples say of meaning, sums, depth and B
unfoldable pub meaning_examples : List Example
meaning_examples =
    record { number = 1; says = (final_of gates1 0 ≡ 2) × (final_of gates1 1 ≡ 1) }
    ∷ record { number = 2; says = (sum_of 2 gates2 ≡ 5) × (sum_of 3 gates2 ≡ 5) × (terms gates2 ≡ 2 ∷ 3 ∷ []) }
    ∷ record { number = 3; says = terms gates3 ≡ [] }
    ∷ record { number = 5; says = (sum_of 5 (gates_of 3 records5) ≡ 40) × (terms (gates_of 3 records5) ≡ 5 ∷ []) }
    ∷ record { number = 6; says = terms (gates_of 3 records6) ≡ [] }
    ∷ record { number = 9; says = (bound_of 2 1 ≡ 9) × (bound_of 1 1 ≡ 2) × (bound_of 4 3 ≡ 49) × (bound_of 16 10 ≡ 806) × (bound_of 20 256 ≡ 10764) }
    ∷ record { number = 10; says = depth_of gates10 ≡ 2 }
    ∷ record { number = 12; says = (sum_of 1 gates12 ≡ 65531) × (phase_of gates12 ≡ 10) × (flip_of gates12 0 ≡ 0) × (depth_of gates12 ≡ 0) }
    ∷ record { number = 13; says = (flip_of gates13 0 ≡ 1) × (flip_of gates13 1 ≡ 1) × (final_of gates13 1 ≡ 3) }
    ∷ record { number = 14; says = (flip_of gates14 0 ≡ 0) × (terms gates14 ≡ []) × (phase_of gates14 ≡ 0) × (depth_of gates14 ≡ 0) }
    ∷ []
