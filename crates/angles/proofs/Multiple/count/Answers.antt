-- `angles::Multiple::count` meets its contract. Assumes nothing.
use mathlib.Core.Path.{ap, ◌∙◌}
use mir.Syntax.{w64}
use mir.ValLaws.{to_z-of_z}
use Rattle.angles.specs.Units.{angle_in, reduced_of}
use Rattle.angles.proofs.Multiple.count.Goals as goal

pub returns : goal.returns
unfolding angle_in
returns c =
    let s = c.signed in
    c.reduced.ensures ∙ ap reduced_of (to_z-of_z w64 s.result (record { sfits = s.type_inv }) ∙ s.ensures)
