-- `console::printing::lay_part` meets its contract. Assumes nothing.
use Rattle.tallies.specs.Tally.{bound_of}
use Rattle.console.proofs.printing.lay_part.Goals as goal

pub returns : goal.returns
unfolding bound_of
returns c = (c.print_whole_part.ensures.prints, c.print_whole_part.ensures.next, c.print_whole_part.ensures.share)
