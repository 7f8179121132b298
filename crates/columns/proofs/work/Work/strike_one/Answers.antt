-- `columns::work::Work::strike_one` meets its contract. Assumes nothing.
use mathlib.Core.Path.{refl, sym, ◌∙◌}
use Rattle.columns.proofs.Strikes.{struck, not-struck, past-struck}
use Rattle.columns.proofs.Working.{same-still}
use Rattle.columns.proofs.work.Work.strike_one.Goals.{else-k-self-via-then-k-self+else-is_lone, else-k-self-via-else-k-self}
use Rattle.columns.proofs.work.Work.strike_one.Goals as goal

pub returns-then-is_lone : goal.returns-then-is_lone
returns-then-is_lone c = record {
  same = record { cols = refl; out = refl; angles = refl };
  memory = struck _ _ _ _ _ _ (sym c.is_lone.ensures ∙ c.if-is_lone.true) c.entry.ensures c.put_rotation-self.ensures.0 c.put_rotation-self.ensures.1;
}

pub returns-else-k-self : goal.returns-else-k-self
returns-else-k-self c = record {
  same = same-still _;
  memory = elim c.else-k-self.branch [
    | else-k-self-via-then-k-self+else-is_lone w ↦ not-struck _ _ _ _ _ _ (sym w.is_lone.ensures ∙ w.if-is_lone.false)
    | else-k-self-via-else-k-self w ↦ past-struck _ _ _ _ _ _ w.if-k-self.false
  ];
}
