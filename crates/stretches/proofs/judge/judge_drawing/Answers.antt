-- `stretches::judge::judge_drawing` meets its contract: the first refusal decides. Assumes nothing.
use mathlib.Core.Path.{◌≡◌, ◌∙◌}
use Rattle.std.proofs.Common.{rules}
use Rattle.verdicts.proofs.Judged.{went, stopped}
use Rattle.stretches.proofs.Drawing.{drawing-qubits, drawing-couplers, drawing-many, drawing-drawn}
use Rattle.stretches.proofs.judge.judge_drawing.Goals as goal

pub returns-in_err-judge_qubits : goal.returns-in_err-judge_qubits
returns-in_err-judge_qubits c =
    let passed-on : c.from_residual.result ≡ c.judge_qubits.result = search rules in
    passed-on ∙ c.judge_qubits.ensures ∙ drawing-qubits _ c.args.couplers.now c.args.gates.now (stopped c.judge_qubits.ensures c.in_err-judge_qubits.was)

pub returns-in_err-judge_couplers : goal.returns-in_err-judge_couplers
returns-in_err-judge_couplers c =
    let passed-on : c.from_residual-in_err-judge_couplers.result ≡ c.judge_couplers.result = search rules in
    passed-on ∙ c.judge_couplers.ensures ∙ drawing-couplers _ _ c.args.gates.now (went c.judge_qubits.ensures c.in_ok-judge_qubits.was) (stopped c.judge_couplers.ensures c.in_err-judge_couplers.was)

pub returns-then-gates-gt-GATES : goal.returns-then-gates-gt-GATES
returns-then-gates-gt-GATES c = drawing-many _ _ _ (went c.judge_qubits.ensures c.in_ok-judge_qubits.was) (went c.judge_couplers.ensures c.in_ok-judge_couplers.was) c.if-gates-gt-GATES.true

pub returns : goal.returns
returns c = c.judge_drawn.ensures ∙ drawing-drawn _ _ _ (went c.judge_qubits.ensures c.in_ok-judge_qubits.was) (went c.judge_couplers.ensures c.in_ok-judge_couplers.was) c.if-gates-gt-GATES.false
