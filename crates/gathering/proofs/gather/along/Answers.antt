-- `gathering::gather::along` meets its contract. The loop's invariant is `Gathered`. Assumes nothing.
use mathlib.Core.Path.{sym, ap, ◌∙◌}
use Rattle.gathering.specs.Order.{members_of}
use Rattle.gathering.specs.Gather.{moves_in}
use Rattle.gathering.proofs.GatherCode.{gathered-start, gathered_next, gathered-end, along-none, behind-first, later-one, all-later}
use Rattle.std.proofs.lemmas.List.{length_push}
use Rattle.std.proofs.lemmas.Iterator.Adapters.{YieldsList-from_rev_slice}
use Rattle.std.proofs.lemmas.Iterator.Consumers.{YieldsList-turn, YieldsList-end}
use borrow.Author.Rules.{rules}
use native.Mathlib.Omega.{arith}
use lib.ListN.{length, drop}
use Rattle.gathering.proofs.gather.along.Goals as goal

pub loop-u-init : goal.loop-u-init
loop-u-init c = (tt, tt, gathered-start _ _ c.args.order.now _ (search rules) _ _ (omega arith) c.new-moves.ensures)

pub loop-u-preserved : goal.loop-u-preserved
loop-u-preserved c =
    let first = behind-first _ _ c.as_slice.ensures in
    let road = YieldsList-from_rev_slice {s = c.into_iter-u-iterator.result} (drop 1 (members_of c.args.order.now)) (cc) in
    let t = YieldsList-turn road c.loop-u.yielded _ c.loop-u.yielded_by _ _ c.in-Some.field-0 c.in-Some.is c.next.ensures.steps in
    let u = later-one _ _ _ t in
    (tt, tt, gathered_next _ _ _ _ _ _ _ c.loop-u.invariant.2 _ _ _ _ _ _ u.0 (omega (arith, length_push c.loop-u.yielded c.in-Some.field-0)) u.1 c.only-earlier.ensures c.neighbours.ensures c.step-left.ensures.moves c.step-left.ensures.left)

pub returns-in_default : goal.returns-in_default
returns-in_default c = c.new-moves.ensures ∙ ap moves_in (sym (along-none _ _ c.args.order.now _ (search rules) (omega (arith, ap length c.as_slice.ensures))))

pub returns-in-None : goal.returns-in-None
returns-in-None c =
    let first = behind-first _ _ c.as_slice.ensures in
    let road = YieldsList-from_rev_slice {s = c.into_iter-u-iterator.result} (drop 1 (members_of c.args.order.now)) (cc) in
    let t = YieldsList-end road c.loop-u.yielded _ c.loop-u.yielded_by _ _ c.in-None.is c.next.ensures.steps in
    gathered-end _ _ _ _ _ _ _ c.loop-u.invariant.2 (all-later _ _ t.1)
