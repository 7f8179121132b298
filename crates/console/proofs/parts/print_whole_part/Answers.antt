-- `console::parts::print_whole_part` meets its contract: the form says that there is room. Assumes nothing.
use Rattle.console.proofs.parts.print_whole_part.Goals as goal

pub returns-clause-prints : goal.returns-clause-prints
returns-clause-prints g c = c.print_part.ensures.prints (g.met.F.Fitting.fits c.args.form)
