-- `stretches::cut::stretch_at` meets its contract. Assumes nothing.
use Rattle.std.proofs.Common.{ℕ, List, sym, ap, ap₂, ◌∙◌, length, take, subst, ◌≤◌}
use Rattle.gates.specs.Hadamards.{is_hadamard}
use Rattle.stretches.specs.Cut.{first_at}
use Rattle.stretches.proofs.Cutting.{first-le}
use Rattle.stretches.proofs.Going.{end-size}
use lib.Seq.{length-take-le}
use Rattle.stretches.proofs.cut.stretch_at.Goals as goal

pub slice_bounds-result-end : goal.slice_bounds-result-end
slice_bounds-result-end c = let rest = c.gates_from-rest.result.now in
    sym (length-take-le _ rest (subst (λ (m : ℕ). m ≤ length rest) (sym c.len_of-end.ensures) (first-le (is_hadamard c.args.n) rest)))

pub returns : goal.returns
returns c =
    ap₂ (λ (m : ℕ) (l : List ℕ). take m l) (c.len_of-end.ensures ∙ ap (first_at (is_hadamard c.args.n)) c.gates_from-rest.ensures ∙ end-size c.args.n c.args.gates.now c.args.from) c.gates_from-rest.ensures
