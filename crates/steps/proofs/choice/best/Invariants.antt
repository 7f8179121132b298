use mathlib.Core.Path.{◌≡◌}
use Prim.Native.Nat.{◌-◌, ◌≤◌}
use Rattle.sets.specs.Search.{first_of}
use Rattle.steps.specs.Choice.{worth_at, best_of}
use Rattle.steps.proofs.Choosing.{fits}
use Rattle.steps.proofs.choice.best.Given as goal

abbrev pub invariant-loop-q : goal.invariant-loop-q
invariant-loop-q l = (l.q ≤ 20) × (first_of (fits l.may l.worth l.w) (20 - l.q) l.q ≡ worth_at l.may l.worth l.w) × (l.found ≡ 20)

abbrev pub decreases-loop-q : goal.decreases-loop-q
decreases-loop-q l = 20 - l.q

abbrev pub invariant-search : goal.invariant-search
invariant-search l = (l.w ≤ l.over) × (best_of l.may l.worth l.w ≡ best_of l.may l.worth l.over) × (l.found ≡ 20)

abbrev pub decreases-search : goal.decreases-search
decreases-search l = l.w
