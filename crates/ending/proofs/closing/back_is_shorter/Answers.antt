-- `ending::closing::back_is_shorter` meets its contract. Assumes nothing.
use mathlib.Core.Path.{◌∙◌}
use borrow.Author.Tests.{le-ltb}
use Rattle.gates.specs.Layout.{gates_of}
use Rattle.ending.proofs.Recursion.{back-count, back-shorter, back-longer}
use Rattle.ending.proofs.closing.back_is_shorter.Goals as goal

pub returns-then-back-onward : goal.returns-then-back-onward
returns-then-back-onward c = back-shorter _ _ _ _ (gates_of 20 c.args.laid.now) _ _ (c.cnots-back.ensures ∙ back-count _) _ c.length_of.ensures c.if-back-onward.true

pub returns-else-back-onward : goal.returns-else-back-onward
returns-else-back-onward c = le-ltb _ _ c.if-back-onward.false ∙ back-longer _ _ _ _ (gates_of 20 c.args.laid.now) _ _ (c.cnots-back.ensures ∙ back-count _) c.if-back-onward.false
