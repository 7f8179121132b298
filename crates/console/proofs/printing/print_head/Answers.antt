-- `console::printing::print_head` meets its contract: the couplers are those in order, and the writer accepts. Assumes nothing.
use borrow.Author.Rules.{rules}
use mathlib.Core.Path.{ap, ◌∙◌}
use Rattle.tallies.specs.Tally.{bound_of}
use Rattle.chip.specs.Ordered.{ordered_of}
use Rattle.console.proofs.Writing.{order_is, order-long, job-written, never-refused}
use Rattle.console.proofs.printing.print_head.Goals as goal

pub slice_bounds-write-end : goal.slice_bounds-write-end
slice_bounds-write-end c = order-long _ _ c.in_order-ordered.ensures

pub returns-in-Ok : goal.returns-in-Ok
unfolding bound_of
returns-in-Ok c = job-written _ _ _ _ _ _ _ (order_is _ _ (c.in_order-ordered.ensures ∙ ap ordered_of c.near.ensures)) (search rules) c.requires c.write.ensures.0 c.write.ensures.1 _ c.in-Ok.is

pub returns-in-Err : goal.returns-in-Err
unfolding bound_of
returns-in-Err c = absurd (never-refused _ _ _ _ _ _ _ (order_is _ _ (c.in_order-ordered.ensures ∙ ap ordered_of c.near.ensures)) (search rules) c.requires c.write.ensures.0 c.write.ensures.1 _ c.in-Err.is)
