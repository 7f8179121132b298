-- The lines of gates one behind another. Assumes nothing.
use mathlib.Core.Path.{◌≡◌, refl}
use mathlib.Core.List.{List, ◌++◌}
use Prim.Native.Nat.{ℕ, ◌+◌, ◌≤◌}
use lib.ListN.{length}
use lib.Seq.{sets}
use Rattle.std.specs.List.{flat_map}
use Rattle.std.proofs.lemmas.List.Recursion.{same_from_clauses}
use Rattle.lines.specs.Lent.{lines_end, lines_at}
use Rattle.lines.proofs.Joined.{joined-append}
use Rattle.lines.proofs.Recorded.{lines_fit}
use Rattle.versions.specs.declared.Version.{Version}
use Rattle.qasm_lines.specs.Spelling.{gate_text, gates_text}

module _ (v : Version) where
  pub gates-append : (xs ys : List ℕ) → gates_text v (xs ++ ys) ≡ gates_text v xs ++ gates_text v ys
  unfolding gates_text
  gates-append = joined-append (gate_text v) (gates_text v) refl (λ x xs. refl)

  -- where all of them fit they are the gates' text
  pub gates-lines-fit : (xs : List ℕ) (from : ℕ) (text : List ℕ) → from + length (gates_text v xs) ≤ length text
      → (lines_end (gate_text v) xs from (length text) ≡ from + length (gates_text v xs)) × (lines_at (gate_text v) xs from text ≡ sets text from (gates_text v xs))
  unfolding gates_text
  gates-lines-fit = lines_fit (gate_text v) (gates_text v) refl (λ x xs. refl)

  pub gates_joined : (xs : List ℕ) → gates_text v xs ≡ flat_map (gate_text v) xs
  unfolding gates_text
  gates_joined = same_from_clauses (gates_text v) (flat_map (gate_text v)) (λ x l. gate_text v x ++ l) refl (λ _ _. refl) (λ _ _. refl)
