-- `judging::judge::judge_on` meets its contract: the first refusal decides. Assumes nothing.
use Rattle.std.proofs.Common.{rules}
use mathlib.Core.Path.{◌≡◌, ◌∙◌}
use Rattle.verdicts.proofs.Judged.{went, stopped}
use Rattle.judging.proofs.Judging.{qubits-few, job-qubits, job-couplers, job-count, job-gates, job-inside}
use Rattle.judging.proofs.judge.judge_on.Goals as goal

pub returns-in_err-judge_qubits : goal.returns-in_err-judge_qubits
returns-in_err-judge_qubits c = let a = c.args in
    let passed-on : c.from_residual.result ≡ c.judge_qubits.result = search rules in
    passed-on ∙ c.judge_qubits.ensures ∙ job-qubits _ a.couplers.now a.islands a.gates.now a.room (stopped c.judge_qubits.ensures c.in_err-judge_qubits.was)

pub returns-in_err-judge_couplers : goal.returns-in_err-judge_couplers
returns-in_err-judge_couplers c = let a = c.args in
    let passed-on : c.from_residual-in_err-judge_couplers.result ≡ c.judge_couplers.result = search rules in
    passed-on ∙ c.judge_couplers.ensures ∙ job-couplers _ _ a.islands a.gates.now a.room (went c.judge_qubits.ensures c.in_ok-judge_qubits.was) (stopped c.judge_couplers.ensures c.in_err-judge_couplers.was)

pub returns-then-is_many : goal.returns-then-is_many
returns-then-is_many c = let a = c.args in
    job-count _ _ a.islands _ a.room (went c.judge_qubits.ensures c.in_ok-judge_qubits.was) (went c.judge_couplers.ensures c.in_ok-judge_couplers.was) c.if-is_many.true

pub returns-in_err-judge_gates : goal.returns-in_err-judge_gates
returns-in_err-judge_gates c = let a = c.args in
    let passed-on : c.from_residual-in_err-judge_gates.result ≡ c.judge_gates.result = search rules in
    passed-on ∙ c.judge_gates.ensures ∙ job-gates _ _ a.islands _ a.room (went c.judge_qubits.ensures c.in_ok-judge_qubits.was) (went c.judge_couplers.ensures c.in_ok-judge_couplers.was) c.if-is_many.false (stopped c.judge_gates.ensures c.in_err-judge_gates.was)

pub judge_inside-requires : goal.judge_inside-requires
judge_inside-requires c = (qubits-few _ (went c.judge_qubits.ensures c.in_ok-judge_qubits.was)).1

pub returns : goal.returns
returns c = let a = c.args in
    c.judge_inside.ensures ∙ job-inside _ _ a.islands _ a.room (went c.judge_qubits.ensures c.in_ok-judge_qubits.was) (went c.judge_couplers.ensures c.in_ok-judge_couplers.was) c.if-is_many.false (went c.judge_gates.ensures c.in_ok-judge_gates.was)
