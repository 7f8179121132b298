-- `angles::pi` meets its contract. Assumes nothing.
use Rattle.angles.proofs.pi.Goals as goal

pub returns-in-Units : goal.returns-in-Units
returns-in-Units c = rw c.in-Units.is

pub returns-in-Halves : goal.returns-in-Halves
returns-in-Halves c = rw c.in-Halves.is
