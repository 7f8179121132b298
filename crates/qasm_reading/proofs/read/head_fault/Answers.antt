-- `qasm_reading::read::head_fault` meets its contract. Assumes nothing.
use mathlib.Core.Path.{sym, ap, ◌∙◌}
use lib.ListN.{drop}
use Rattle.std.specs.Option.{unwrap_or}
use Rattle.words.specs.Words.{words}
use Rattle.qasm_reading.proofs.Answers.{head-has, head-not}
use Rattle.qasm_reading.proofs.read.head_fault.Goals as goal

pub returns-then-has_end : goal.returns-then-has_end
returns-then-has_end c =
    head-has c.args.text.now (words (drop c.args.at c.args.text.now)) (sym c.has_end.ensures ∙ c.if-has_end.true) (c.unwrap_or.ensures ∙ ap (λ o. unwrap_or o 0) c.line_of.ensures)

pub returns : goal.returns
returns c = head-not c.args.text.now (words (drop c.args.at c.args.text.now)) (sym c.has_end.ensures ∙ c.if-has_end.false)
