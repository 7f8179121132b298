-- `stretches::judge::judge` meets its contract: the first refusal decides. Assumes nothing.
use mathlib.Core.Path.{◌≡◌, ◌∙◌}
use Rattle.std.proofs.Common.{rules}
use Rattle.verdicts.proofs.Judged.{went, stopped}
use Rattle.stretches.proofs.Passing.{only-reaches}
use Rattle.stretches.proofs.Answering.{judge-drawing, judge-parities, judge-reaches}
use Rattle.stretches.proofs.judge.judge.Goals as goal

pub returns-in_err-judge_drawing : goal.returns-in_err-judge_drawing
returns-in_err-judge_drawing c =
    let passed-on : c.from_residual.result ≡ c.judge_drawing.result = search rules in
    passed-on ∙ c.judge_drawing.ensures ∙ judge-drawing _ c.args.couplers.now c.args.gates.now (stopped c.judge_drawing.ensures c.in_err-judge_drawing.was)

pub returns-in_err-judge_parities : goal.returns-in_err-judge_parities
returns-in_err-judge_parities c =
    let passed-on : c.from_residual-in_err-judge_parities.result ≡ c.judge_parities.result = search rules in
    passed-on ∙ c.judge_parities.ensures ∙ judge-parities _ c.args.couplers.now c.args.gates.now (went c.judge_drawing.ensures c.in_ok-judge_drawing.was) (stopped c.judge_parities.ensures c.in_err-judge_parities.was)

pub judge_reaches-requires : goal.judge_reaches-requires
judge_reaches-requires c = only-reaches _ _ _ (went c.judge_drawing.ensures c.in_ok-judge_drawing.was) (went c.judge_parities.ensures c.in_ok-judge_parities.was)

pub returns : goal.returns
returns c = c.judge_reaches.ensures ∙ judge-reaches _ c.args.couplers.now c.args.gates.now (went c.judge_drawing.ensures c.in_ok-judge_drawing.was) (went c.judge_parities.ensures c.in_ok-judge_parities.was)
