-- `ending::clearing::Taking::len` meets its contract. Assumes nothing.
use mathlib.Core.Path.{ap}
use native.Mathlib.Omega.{arith}
use lib.ListN.{length}
use Rattle.ending.proofs.Choosing.{gates-length}
use Rattle.ending.proofs.clearing.Taking.len.Goals as goal

pub returns : goal.returns
returns c = omega (arith, gates-length c.args.self.now, ap length c.as_slice.ensures, ap length c.as_slice-2.ensures)
