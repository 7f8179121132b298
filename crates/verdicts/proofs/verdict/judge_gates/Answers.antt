-- `verdicts::verdict::judge_gates` meets its contract: the search finds the first record that fails. Assumes nothing.
use Rattle.std.proofs.Common.{ℕ, Bool, rules, tests, sym, ◌∙◌}
use Rattle.std.proofs.lemmas.Iterator.{YieldsList-from_slice}
use Rattle.std.proofs.lemmas.Iterator.Search.{position_from_yields_List}
use Rattle.gates.specs.Layout.{gate_of, is_bad}
use Rattle.verdicts.specs.declared.verdict.Refusal.TheVariants.{BadGate}
use Rattle.verdicts.specs.Verdicts.{judged_gates, bad_at}
use Rattle.verdicts.proofs.First.{some_first, none_first}
use Rattle.verdicts.proofs.verdict.judge_gates.Goals as goal

pub returns-in-Some : goal.returns-in-Some
unfolding judged_gates bad_at
returns-in-Some c =
    let fails : ℕ → Bool = λ x. is_bad (gate_of c.args.n x) in
    some_first BadGate fails c.args.gates.now
    (sym (position_from_yields_List fails _ _ _ c.position.ensures.ran (YieldsList-from_slice c.args.gates.now cc) (λ x b q k. search (rules, tests))) ∙ c.in-Some.is)

pub returns-in-None : goal.returns-in-None
unfolding judged_gates bad_at
returns-in-None c =
    let fails : ℕ → Bool = λ x. is_bad (gate_of c.args.n x) in
    none_first BadGate fails c.args.gates.now
    (sym (position_from_yields_List fails _ _ _ c.position.ensures.ran (YieldsList-from_slice c.args.gates.now cc) (λ x b q k. search (rules, tests))) ∙ c.in-None.is)
