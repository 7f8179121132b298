-- `console::parts::print_part` meets its contract. Assumes nothing.
use borrow.Author.Rules.{rules}
use mathlib.Core.Path.{refl, ◌∙◌}
use Rattle.stretches.proofs.Judging.{lent-within}
use Rattle.console.proofs.Choosing.{prints-same}
use Rattle.console.proofs.Partly.{past-text, past-fitted, past_next, past-share, part-text, part-fitted, part-next, part-share, prints-none}
use Rattle.console.proofs.parts.print_part.Goals as goal

pub returns-then-gates-from-clause-fitted : goal.returns-then-gates-from-clause-fitted
returns-then-gates-from-clause-fitted g c = past-fitted (g.F.Form.line c.args.form) _ _ _ c.args.from c.if-gates-from.true (refl, refl)

pub returns-then-gates-from-clause-prints : goal.returns-then-gates-from-clause-prints
returns-then-gates-from-clause-prints g c _ = prints-same (past-text (g.F.Form.text c.args.form) _ _ _ c.args.from c.if-gates-from.true) (prints-none _ _ _ (search rules) (refl, refl))

pub returns-then-gates-from-clause-next : goal.returns-then-gates-from-clause-next
returns-then-gates-from-clause-next g c = past_next _ c.args.couplers.now _ c.args.from c.if-gates-from.true

pub returns-then-gates-from-clause-share : goal.returns-then-gates-from-clause-share
returns-then-gates-from-clause-share g c = past-share _ _ _ c.args.from c.if-gates-from.true

pub overflow_add-result : goal.overflow_add-result
overflow_add-result g c = search (rules, lent-within _ _ c.args.from _ c.stretch_at-stretch.ensures c.if-gates-from.false)

pub overflow_add-result-2 : goal.overflow_add-result-2
overflow_add-result-2 g c = search (rules, lent-within _ _ c.args.from _ c.stretch_at-stretch.ensures c.if-gates-from.false)

pub returns-clause-fitted : goal.returns-clause-fitted
returns-clause-fitted g c = part-fitted (g.F.Form.line c.args.form) _ _ _ c.args.from c.if-gates-from.false _ _ c.stretch_at-stretch.ensures c.hadamard_at-hadamard.ensures c.print_stretch-printed.ensures.fitted

pub returns-clause-prints : goal.returns-clause-prints
returns-clause-prints g c room = prints-same (part-text (g.F.Form.text c.args.form) _ _ _ c.args.from c.if-gates-from.false _ _ c.stretch_at-stretch.ensures c.hadamard_at-hadamard.ensures) (c.print_stretch-printed.ensures.prints room)

pub returns-clause-next : goal.returns-clause-next
returns-clause-next g c = part-next _ c.args.couplers.now _ c.args.from c.if-gates-from.false _ _ c.stretch_at-stretch.ensures c.hadamard_at-hadamard.ensures

pub returns-clause-share : goal.returns-clause-share
returns-clause-share g c = c.print_stretch-printed.ensures.phase ∙ part-share _ _ _ c.args.from c.if-gates-from.false _ _ c.stretch_at-stretch.ensures c.hadamard_at-hadamard.ensures
