-- `columns::way::lay_terms` meets its contract: the columns are the terms counted. Assumes nothing.
use mathlib.Core.Path.{sym, ap₂, ◌∙◌}
use Rattle.columns.specs.Pieces.{wrote}
use Rattle.columns.proofs.Parts.{part-is}
use Rattle.columns.proofs.Piecing.{wrote-out, wrote_at}
use borrow.Author.Rules.{rules}
use Rattle.columns.proofs.way.lay_terms.Goals as goal

pub returns : goal.returns
returns g c =
    let a = c.args in
    let same = sym c.lay.ensures.same.out in
    let e = c.lay.ensures.memory ∙ ap₂ (λ ps rs. wrote a.out.now 0 (g.W.Way.piece_for a.near a.set ps rs)) (part-is a.count a.parity (search rules) _ (search rules)) (part-is a.count a.angle (search rules) _ (search rules)) in
    (search rules ∙ wrote-out a.out.now 0 _ e, wrote_at a.out.now 0 _ e)
