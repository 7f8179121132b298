-- `stretches::cut::hadamard_at` meets its contract. Assumes nothing.
use Rattle.std.proofs.Common.{◌≡◌, ℕ, List, rules, ap, ap₂, ◌∙◌, take, drop}
use Rattle.gates.specs.Hadamards.{is_hadamard}
use Rattle.stretches.specs.Cut.{first_at}
use Rattle.stretches.proofs.Going.{end-drop}
use Rattle.stretches.proofs.cut.hadamard_at.Goals as goal

pub returns : goal.returns
returns c =
    let one : c.unwrap_or.result.now ≡ take 1 c.gates_from-behind.result.now = search rules in
    one
    ∙ ap (take 1)
    (c.gates_from-behind.ensures ∙ ap₂ (λ (m : ℕ) (l : List ℕ). drop m l) (c.len_of-end.ensures ∙ ap (first_at (is_hadamard c.args.n)) c.gates_from-rest.ensures) c.gates_from-rest.ensures
    ∙ end-drop c.args.n c.args.gates.now c.args.from)
