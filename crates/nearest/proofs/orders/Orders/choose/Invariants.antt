use mathlib.Core.Path.{◌≡◌}
use Prim.Native.Nat.{◌-◌}
use lib.ListN.{length}
use Rattle.nearest.specs.Choice.{over_columns, chosen}
use Rattle.nearest.proofs.orders.Orders.choose.Given as goal

abbrev pub invariant-loop-k : goal.invariant-loop-k
invariant-loop-k l = over_columns l.self.near l.self.set l.cols (length l.cols - l.k) l.k l.best ≡ chosen l.self.near l.self.set l.cols
