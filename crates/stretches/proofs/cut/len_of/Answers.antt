-- `stretches::cut::len_of` meets its contract. Assumes nothing.
use Rattle.std.proofs.Common.{ℕ, Option, rules, tests, ap, ◌∙◌, length}
use Rattle.std.specs.Option.{unwrap_or}
use Rattle.std.proofs.lemmas.Iterator.{YieldsList-from_slice}
use Rattle.std.proofs.lemmas.Iterator.Search.{position_from_yields_List}
use Rattle.gates.specs.Hadamards.{is_hadamard}
use Rattle.stretches.proofs.Cutting.{found-first}
use Rattle.stretches.proofs.cut.len_of.Goals as goal

pub returns : goal.returns
returns c =
    c.unwrap_or.ensures
    ∙ ap (λ (r : Option ℕ). unwrap_or r (length c.args.gates.now))
    (position_from_yields_List (is_hadamard c.args.n) _ _ _ c.position.ensures.ran (YieldsList-from_slice c.args.gates.now cc) (λ x b q k. search (rules, tests)))
    ∙ found-first (is_hadamard c.args.n) c.args.gates.now
