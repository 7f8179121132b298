-- Lines one behind another, each where it fits, and those of records. Assumes nothing.
use mathlib.Core.Path.{◌≡◌, refl, sym, ap, ◌∙◌}
use mathlib.Core.List.{List, [], ◌∷◌, ◌++◌}
use Prim.Native.Nat.{ℕ, ◌+◌, ◌≤◌}
use native.Mathlib.Omega.{arith}
use lib.ListN.{length, length-append}
use lib.Seq.{sets, length-sets}
use Rattle.std.specs.List.{flat_map}
use Rattle.std.proofs.lemmas.List.Recursion.{same_from_clauses}
use Rattle.lines.specs.Lines.{record_text, records_text}
use Rattle.lines.specs.Lent.{fitted_end, fitted_at, lines_end, lines_at, Wrote}
use Rattle.lines.proofs.Writes.{wrote_then, wrote_nothing, fitted-wrote}

module _ (line : ℕ → List ℕ) where
  -- where all of them fit they are the lines joined
  module _ (whole : List ℕ → List ℕ) (none : whole [] ≡ []) (more : (x : ℕ) (xs : List ℕ) → whole (x ∷ xs) ≡ line x ++ whole xs) where
    pub lines_fit : (xs : List ℕ) (from : ℕ) (text : List ℕ) → from + length (whole xs) ≤ length text
        → (lines_end line xs from (length text) ≡ from + length (whole xs)) × (lines_at line xs from text ≡ sets text from (whole xs))
    lines_fit [] from text h = rw none (wrote_nothing text from)
    lines_fit (x ∷ xs) from text h =
        let e = fitted_end (line x) from (length text) in
        let m = fitted_at (line x) from text in
        let sum : length (line x) + length (whole xs) ≡ length (whole (x ∷ xs)) = sym (ap length (more x xs) ∙ length-append (line x) (whole xs)) in
        let one : Wrote text from (line x) m e = fitted-wrote text from (line x) (omega arith) (refl, refl) in
        let same : length m ≡ length text = ap length one.1 ∙ length-sets text from (line x) in
        let rest = lines_fit xs e m (omega (arith, one.0)) in
        rw (more x xs) (wrote_then text from (line x) (whole xs) one (ap (lines_end line xs e) (sym same) ∙ rest.0, rest.1))

-- ---- records

pub records_joined : (xs : List ℕ) → records_text xs ≡ flat_map record_text xs
unfolding records_text
records_joined = same_from_clauses records_text (flat_map record_text) (λ x l. record_text x ++ l) refl (λ _ _. refl) (λ _ _. refl)

pub records-fit : (xs : List ℕ) (from : ℕ) (text : List ℕ) → from + length (records_text xs) ≤ length text
    → (lines_end record_text xs from (length text) ≡ from + length (records_text xs)) × (lines_at record_text xs from text ≡ sets text from (records_text xs))
unfolding records_text
records-fit = lines_fit record_text records_text refl (λ x xs. refl)
