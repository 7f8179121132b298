-- `judging::reach::stray` meets its contract: no wire passed leaves its island. Assumes nothing.
use mathlib.Core.Path.{sym, ◌∙◌}
use Rattle.sets.proofs.Finding.{first-all, first-here, first_next, first-end, found-here, found-none}
use borrow.Author.Rules.{rules}
use Rattle.judging.proofs.reach.stray.Goals as goal

pub loop-i-init : goal.loop-i-init
loop-i-init c = first-all _ _

pub returns-then-leaves : goal.returns-then-leaves
returns-then-leaves c =
    let at = c.loop-i in
    found-here _ _ at.i (search rules) (sym at.invariant ∙ first-here _ _ at.i (search rules) (sym c.leaves.ensures ∙ c.if-leaves.true))

pub loop-i-preserved : goal.loop-i-preserved
loop-i-preserved c =
    let at = c.loop-i in
    sym (first_next _ _ at.i (search rules) (sym c.leaves.ensures ∙ c.if-leaves.false)) ∙ at.invariant

pub returns : goal.returns
returns c =
    let at = c.loop-i in
    found-none _ _ at.i (search rules) (sym at.invariant ∙ first-end _ _ at.i (search rules))
