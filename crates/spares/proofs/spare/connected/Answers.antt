-- `spares::spare::connected` meets its contract. Assumes nothing.
use mathlib.Core.Path.{ap, ◌∙◌}
use Rattle.sets.specs.Size.{only_of}
use Rattle.spares.proofs.Spares.{reached-connected}
use borrow.Author.Rules.{rules}
use Rattle.spares.proofs.spare.connected.Goals as goal

pub returns : goal.returns
returns c =
    let a = c.args in
    reached-connected a.near a.set _ _ (search rules) (c.only.ensures ∙ ap only_of c.lowest.ensures) c.reached.ensures
