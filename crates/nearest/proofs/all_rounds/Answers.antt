-- `nearest::all_rounds` meets its contract: the rounds left lead to the same memory. Assumes nothing.
use mathlib.Core.Path.{refl, sym, ◌∙◌}
use native.Mathlib.Omega.{arith}
use Rattle.columns.proofs.Working.{same-still, same-then}
use Rattle.nearest.proofs.Entry.{round-next, round-over, round-end}
use Rattle.nearest.proofs.all_rounds.Goals as goal

pub loop-init : goal.loop-init
loop-init c = (same-still _, refl)

pub returns-in-None : goal.returns-in-None
returns-in-None c =
    record { same = c.«loop».invariant.0; memory = round-over _ _ _ _ _ _ _ (rw c.columns.ensures at (sym c.in-None.is ∙ c.choose.ensures)) ∙ c.«loop».invariant.1 }

pub loop-preserved : goal.loop-preserved
loop-preserved c =
    let w = c.gather_next.ensures in
    (same-then c.«loop».invariant.0 w.same, rw w.same.angles (round-next _ _ _ _ _ _ _ _ _ _ _ _ (omega arith) (rw c.columns.ensures at (sym c.in-Some.is ∙ c.choose.ensures)) w.memory ∙ c.«loop».invariant.1))

pub returns : goal.returns
returns c = record { same = c.«loop».invariant.0; memory = round-end _ _ _ _ _ _ _ (omega arith) ∙ c.«loop».invariant.1 }
