-- `console::refusing::print_refusal` meets its contract. Assumes nothing.
use borrow.Author.Rules.{rules}
use Rattle.console.proofs.Whole.{refusal-fitted, refusal-whole}
use Rattle.console.proofs.refusing.print_refusal.Goals as goal

pub returns-clause-fitted : goal.returns-clause-fitted
returns-clause-fitted g c = refusal-fitted c.args.out.now _ _ c.args.v _ _ c.number.ensures c.place.ensures c.refusal.ensures

pub returns-clause-prints : goal.returns-clause-prints
returns-clause-prints g c m = refusal-whole _ c.args.out.now _ _ (search rules) c.args.v _ _ m c.number.ensures c.place.ensures c.place.type_inv c.refusal.ensures
