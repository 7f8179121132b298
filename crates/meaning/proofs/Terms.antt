-- The terms of the table of a meaning are the terms of the meaning. Assumes nothing.
use mathlib.Core.Path.{◌≡◌, refl, sym, ap, ◌∙◌}
use mathlib.Core.List.{List}
use lib.ListN.{length, take, length-map}
use Rattle.gates.specs.Limits.{most_parities}
use Rattle.gates.specs.declared.gate.Gate.{Gate}
use Rattle.table.specs.declared.sums.Sums.{Sums}
use Rattle.circuit.specs.Circuit.{sum_of}
use Rattle.meaning.specs.Borne.{borne, sums_of, is_term, terms}
use Rattle.table.specs.Table.{kept, padded, kept_table, terms_in}
use Rattle.meaning.specs.Told.{table_of}
use Rattle.table.proofs.Keeping.{kept-those, kept_map, take-padded}

-- the terms with their sums, as a table
unfoldable pub term_table : List Gate → Sums
term_table gs = record { parity = padded most_parities (terms gs); sum = padded most_parities (sums_of gs (terms gs)); len = length (terms gs) }

-- what the code finds in its table are the terms: "the table's terms are exactly the parities whose sum is not 0, ascending, each once"
pub terms-table : (gs : List Gate) → terms_in (table_of gs) ≡ term_table gs
unfolding terms_in kept_table table_of term_table
terms-table gs =
    let a : take (length (borne gs)) (padded 256 (borne gs)) ≡ borne gs = take-padded 256 (length (borne gs)) (borne gs) refl in
    let b : take (length (borne gs)) (padded 256 (sums_of gs (borne gs))) ≡ sums_of gs (borne gs) =
    take-padded 256 (length (borne gs)) (sums_of gs (borne gs)) (sym (length-map (borne gs) (λ p. sum_of p gs))) in
    let k : kept (borne gs) (sums_of gs (borne gs)) ≡ terms gs = unfold terms is_term in kept-those (λ p. sum_of p gs) (borne gs) in
    let c : kept (sums_of gs (borne gs)) (sums_of gs (borne gs)) ≡ sums_of gs (terms gs) = kept_map (λ p. sum_of p gs) (borne gs) ∙ ap (sums_of gs) k in
    rw (a, b, c, k, length-map (terms gs) (λ p. sum_of p gs))
