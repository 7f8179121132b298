-- `columns::work::Work::lay_cnot` meets its contract. Assumes nothing.
use mathlib.Core.Path.{refl}
use Rattle.columns.proofs.Turns.{cnot-wrote}
use Rattle.columns.proofs.work.Work.lay_cnot.Goals as goal

pub returns : goal.returns
returns c = record {
  same = record { cols = refl; out = refl; angles = refl };
  memory = cnot-wrote _ _ _ _ _ _ _ _ c.turn_all.ensures c.put_cnot-self.ensures.0 c.put_cnot-self.ensures.1;
}
