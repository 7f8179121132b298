-- `ending::clearing::Island::better` meets its contract. Assumes nothing.
use mathlib.Core.Path.{sym, ap, ◌∙◌}
use lib.ListN.{length}
use Rattle.ending.specs.Clear.{cheaper_of, cost_of}
use Rattle.ending.proofs.Choosing.{better-not, better-spare}
use Rattle.ending.proofs.clearing.Island.better.Goals as goal

pub returns-then-not-spare : goal.returns-then-not-spare
returns-then-not-spare c = let i = c.args.self.now in better-not i.near i.set i.asked i.mirror _ _ (sym c.spare.ensures ∙ c.if-not-spare.true)

pub returns : goal.returns
unfolding cost_of
returns c =
    let i = c.args.self.now in
    c.cheaper-2.ensures ∙ ap (cheaper_of _ _) c.cheaper.ensures
    ∙ better-spare i.near i.set i.asked i.mirror _ _ (sym c.spare.ensures ∙ c.if-not-spare.false) _ _ (c.len-n.ensures ∙ ap length c.along.ensures) (c.len-m.ensures ∙ ap length c.along-2.ensures)
