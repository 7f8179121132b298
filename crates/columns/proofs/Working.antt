-- Pieces laid one after another on the same columns and records. Assumes nothing.
use mathlib.Core.Path.{refl, ◌∙◌}
use Rattle.columns.specs.Worked.{Same}
use Rattle.columns.specs.declared.work.Work.{Work}

pub same-still : (w : Work) → Same w w
same-still w = record { cols = refl; out = refl; angles = refl }

pub same-then : {w v u : Work} → Same w v → Same v u → Same w u
same-then s t = record { cols = t.cols ∙ s.cols; out = t.out ∙ s.out; angles = t.angles ∙ s.angles }
