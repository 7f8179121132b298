-- Examples 4 to 9 of document 01, "Examples by number", of the entry point's verdict; and the list of all that are marked P.
use Rattle.std.specs.Prelude.{◌≡◌, ◌≢◌, List, [], ◌∷◌, ◌++◌, ℕ, ◌≤◌}
use Rattle.gates.specs.Limits.{most_qubits}
use Rattle.gates.specs.Layout.{packed, gates_of}
use Rattle.meaning.specs.Same.{Reachable}
use Rattle.verdicts.specs.Verdicts.{number_of, place_of}
use Rattle.gates.specs.Example.{Example}
use Rattle.meaning.specs.Examples.{cnot_record, rotation_record, records5, records6, meaning_examples}
use Rattle.judging.specs.Tests.{verdict_of}

-- "coupler 0-1"
abbrev pub couplers4 : List ℕ
couplers4 = packed 0 0 1 ∷ []

-- "CNOT 0-2 once", "twice"
abbrev pub once4 : List ℕ
once4 = cnot_record 0 2 ∷ []

abbrev pub twice4 : List ℕ
twice4 = cnot_record 0 2 ∷ cnot_record 0 2 ∷ []

-- "n=3, coupler 0-1, CNOT 0-2 twice: reachable; CNOT 0-2 once: 7, place 2", whatever the room
abbrev pub fourth : Example
fourth = record {
  number = 4;
  says = Reachable 3 couplers4 (gates_of 3 twice4) × (number_of (verdict_of 3 couplers4 twice4 15) ≡ 0)
      × ((room : ℕ) → (number_of (verdict_of 3 couplers4 once4 room) ≡ 7) × (place_of (verdict_of 3 couplers4 once4 room) ≡ 2));
}

-- "same couplers, CNOT 0-2, angle 40 on 2, CNOT 0-2: 7, place 3"
abbrev pub fifth : Example
fifth = record { number = 5; says = (room : ℕ) → (number_of (verdict_of 3 couplers4 records5 room) ≡ 7) × (place_of (verdict_of 3 couplers4 records5 room) ≡ 3) }

-- "the same with angles 40 and 65,496 between: reachable, no term"
abbrev pub sixth : Example
sixth = record { number = 6; says = Reachable 3 couplers4 (gates_of 3 records6) × (number_of (verdict_of 3 couplers4 records6 15) ≡ 0) }

-- "n=0 and n=21: 1. n=1 and 20 pass that test", whatever the rest of the job
abbrev pub seventh : Example
seventh = record {
  number = 7;
  says = (couplers gates : List ℕ) (room : ℕ) → (number_of (verdict_of 0 couplers gates room) ≡ 1) × (number_of (verdict_of 21 couplers gates room) ≡ 1)
      × (number_of (verdict_of 1 couplers gates room) ≢ 1) × (number_of (verdict_of 20 couplers gates room) ≢ 1);
}

-- "coupler 0-0: 3, place 0", whatever the number of qubits and the gates
abbrev pub loop8 : List ℕ
loop8 = packed 0 0 0 ∷ []

abbrev pub eighth : Example
eighth = record {
  number = 8;
  says = (n : ℕ) → 1 ≤ n → n ≤ most_qubits → (gates : List ℕ) (room : ℕ) → (number_of (verdict_of n loop8 gates room) ≡ 3) × (place_of (verdict_of n loop8 gates room) ≡ 0);
}

-- "n=2, t=1: B is 7; 6 records lent give 8"; by request E3 "example 9: 9": 8 records lent give 8, 9 do not
abbrev pub gates9 : List ℕ
gates9 = rotation_record 0 5 ∷ []

abbrev pub ninth : Example
ninth = record {
  number = 9;
  says = (number_of (verdict_of 2 couplers4 gates9 8) ≡ 8) × (place_of (verdict_of 2 couplers4 gates9 8) ≡ 0) × (number_of (verdict_of 2 couplers4 gates9 9) ≡ 0);
}

abbrev pub laying_examples : List Example
laying_examples = fourth ∷ fifth ∷ sixth ∷ seventh ∷ eighth ∷ ninth ∷ []

-- all that are marked P
abbrev pub proved_examples : List Example
proved_examples = meaning_examples ++ laying_examples
