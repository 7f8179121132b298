-- Laid gates as records in a lent list: "the first records of the output are the circuit and all later ones stay" (document 01, "Records and refusals").
use Rattle.std.specs.Prelude.{◌≡◌, List, map, ℕ, ◌+◌, max, min, ltb, length}
use Rattle.std.proofs.lemmas.List.Edits.{sets}
use Rattle.sets.specs.Pick.{pick}
use Rattle.gates.specs.Layout.{record_of}
use Rattle.gates.specs.declared.gate.Gate.{Gate}

-- the place behind one record more, where there is room for it
unfoldable pub next_at : List ℕ → ℕ → ℕ
next_at out at = pick (ltb at (length out)) (at + 1) at

-- the list after the gates gs are written from `at` on, as many as there is room for
unfoldable pub emit : List ℕ → ℕ → List Gate → List ℕ
emit out at gs = sets out at (map record_of gs)

-- the next place then
unfoldable pub emit_at : List ℕ → ℕ → List Gate → ℕ
emit_at out at gs = max at (min (at + length gs) (length out))

-- the gates gs are laid: `out` is the list before and `out'` the list after, and r is the next place
abbrev pub Emits : List ℕ → ℕ → List Gate → List ℕ → ℕ → Type 0
Emits out at gs out' r = (out' ≡ emit out at gs) × (r ≡ emit_at out at gs)
