-- `verdicts::verdict::judge_couplers` meets its contract: the search finds the first record that fails. Assumes nothing.
use Rattle.std.proofs.Common.{ℕ, Bool, rules, tests, sym, ◌∙◌}
use Rattle.std.proofs.lemmas.Iterator.{YieldsList-from_slice}
use Rattle.std.proofs.lemmas.Iterator.Search.{position_from_yields_List}
use borrow.Author.Tests.{le-ltb, lt-ltb}
use Rattle.gates.specs.Layout.{coupler_of, is_wrong}
use Rattle.verdicts.specs.declared.verdict.Refusal.TheVariants.{WrongCoupler}
use Rattle.verdicts.specs.Verdicts.{judged_couplers, wrong_at}
use Rattle.verdicts.proofs.First.{some_first, none_first}
use Rattle.verdicts.proofs.verdict.judge_couplers.Goals as goal

pub returns-then-couplers-gt-COUPLERS : goal.returns-then-couplers-gt-COUPLERS
unfolding judged_couplers
returns-then-couplers-gt-COUPLERS c = rw (lt-ltb _ _ c.if-couplers-gt-COUPLERS.true)

pub returns-in-Some : goal.returns-in-Some
unfolding judged_couplers wrong_at
returns-in-Some c =
    let fails : ℕ → Bool = λ x. is_wrong (coupler_of c.args.n x) in
    rw (le-ltb _ _ c.if-couplers-gt-COUPLERS.false)
    (some_first WrongCoupler fails c.args.couplers.now
    (sym (position_from_yields_List fails _ _ _ c.position.ensures.ran (YieldsList-from_slice c.args.couplers.now cc) (λ x b q k. search (rules, tests))) ∙ c.in-Some.is))

pub returns-in-None : goal.returns-in-None
unfolding judged_couplers wrong_at
returns-in-None c =
    let fails : ℕ → Bool = λ x. is_wrong (coupler_of c.args.n x) in
    rw (le-ltb _ _ c.if-couplers-gt-COUPLERS.false)
    (none_first WrongCoupler fails c.args.couplers.now
    (sym (position_from_yields_List fails _ _ _ c.position.ensures.ran (YieldsList-from_slice c.args.couplers.now cc) (λ x b q k. search (rules, tests))) ∙ c.in-None.is))
