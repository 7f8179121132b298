-- `verdicts::verdict::judge_drawn` meets its contract: the search finds the first record that fails. Assumes nothing.
use Rattle.std.proofs.Common.{ℕ, Bool, rules, tests, sym, ◌∙◌}
use Rattle.std.proofs.lemmas.Iterator.{YieldsList-from_slice}
use Rattle.std.proofs.lemmas.Iterator.Search.{position_from_yields_List}
use Rattle.verdicts.specs.declared.verdict.Refusal.TheVariants.{BadGate}
use Rattle.verdicts.specs.Verdicts.{judged_drawn, neither_at, is_neither}
use Rattle.verdicts.proofs.First.{some_first, none_first}
use Rattle.verdicts.proofs.verdict.judge_drawn.Goals as goal

pub returns-in-Some : goal.returns-in-Some
unfolding judged_drawn neither_at
returns-in-Some c =
    let fails : ℕ → Bool = is_neither c.args.n in
    some_first BadGate fails c.args.gates.now
    (sym (position_from_yields_List fails _ _ _ c.position.ensures.ran (YieldsList-from_slice c.args.gates.now cc) (λ x b q k. search (rules, tests))) ∙ c.in-Some.is)

pub returns-in-None : goal.returns-in-None
unfolding judged_drawn neither_at
returns-in-None c =
    let fails : ℕ → Bool = is_neither c.args.n in
    none_first BadGate fails c.args.gates.now
    (sym (position_from_yields_List fails _ _ _ c.position.ensures.ran (YieldsList-from_slice c.args.gates.now cc) (λ x b q k. search (rules, tests))) ∙ c.in-None.is)
