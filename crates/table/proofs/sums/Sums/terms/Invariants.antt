use lib.ListN.{length}
use Rattle.table.proofs.Keeping.{Keeping}
use Rattle.table.proofs.sums.Sums.terms.Given as goal

abbrev pub invariant-loop-p : goal.invariant-loop-p
invariant-loop-p l =
    (goal.iterator-loop-p).can_next l.p-iterator × (goal.iterator-loop-p).is_finite l.p-iterator
    × Keeping l.fn.self.parity l.fn.self.sum l.fn.self.len (length l.yielded) l.terms
