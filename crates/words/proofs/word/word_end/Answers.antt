-- `words::word::word_end` meets its contract. Assumes nothing.
use mathlib.Core.Path.{sym, ◌∙◌}
use Rattle.words.proofs.Steps.{run_step}
use Rattle.words.proofs.word.word_end.Goals as goal

pub loop-i-preserved : goal.loop-i-preserved
loop-i-preserved c = run_step c.args.text.now c.args.from c.loop-i.i c.loop-i.invariant c.loop-i-test.true (sym c.goes_on.ensures ∙ c.if-goes_on.true)
