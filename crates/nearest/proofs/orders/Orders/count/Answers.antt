-- `nearest::orders::Orders::count` meets its contract: what is counted and what is still to come. Assumes nothing.
use mathlib.Core.Path.{refl, ap}
use native.Mathlib.Omega.{arith}
use lib.ListN.{length, drop}
use Rattle.std.proofs.lemmas.List.{length_push}
use Rattle.std.proofs.lemmas.Iterator.Adapters.{YieldsList-from_rev_slice}
use Rattle.std.proofs.lemmas.Iterator.Consumers.{YieldsList-turn, YieldsList-end}
use Rattle.gathering.specs.Order.{order_of}
use Rattle.gathering.proofs.OrderGrows.{order-few}
use Rattle.gathering.proofs.GatherCode.{behind-first, later-one, all-later}
use Rattle.nearest.proofs.Tabled.{row-is}
use Rattle.nearest.proofs.Counting.{counting-start, counting-next, counting-few, counting-all}
use Rattle.nearest.proofs.Wholes.{whole-start, detour-few, bound-few, bound-most, bound-next, whole-next}
use borrow.Author.Rules.{rules}
use Rattle.nearest.proofs.orders.Orders.count.Goals as goal

pub returns-in_default : goal.returns-in_default
returns-in_default c =
    let o = c.args.self.now in
    let e = row-is _ _ _ o.orderly _ _ _ c.requires.0 c.as_slice.ensures in
    absurd (omega (arith, ap length e, order-few o.near o.set c.args.v))

pub loop-u-init : goal.loop-u-init
loop-u-init c = (tt, tt, counting-start _ _ _ _ _ (omega arith), record { sure = c.works.result; works = whole-start _ _ _ _ _ _ (omega arith) c.works.ensures c.requires.1; least = search rules })

pub returns-then-most-bound : goal.returns-then-most-bound
returns-then-most-bound c = bound-most _ _ _ _ _ _ c.loop-u.invariant.3.works _ _ _ c.loop-u.invariant.2 c.loop-u.invariant.3.least _ c.if-most-bound.true

pub overflow_add-n : goal.overflow_add-n
overflow_add-n c = omega (arith, c.loop-u.invariant.2.few, counting-few _ _ _ _ _ _ _ c.loop-u.invariant.2 _ _ _ c.out_of-out.ensures)

pub overflow_add-bound : goal.overflow_add-bound
overflow_add-bound c = omega (arith, bound-few _ _ _ _ _ _ c.loop-u.invariant.3.works _ _ _ c.loop-u.invariant.2 c.loop-u.invariant.3.least, c.detour-bound.ensures, detour-few c.out_of-out.result.moves, counting-few _ _ _ _ _ _ _ c.loop-u.invariant.2 _ _ _ c.out_of-out.ensures)

pub loop-u-preserved : goal.loop-u-preserved
loop-u-preserved c =
    let o = c.args.self.now in
    let first = behind-first _ _ (row-is _ _ _ o.orderly _ _ _ c.requires.0 c.as_slice.ensures) in
    let road = YieldsList-from_rev_slice {s = c.into_iter-u-iterator.result} (drop 1 (order_of o.near o.set c.args.v)) (cc) in
    let t = YieldsList-turn road c.loop-u.yielded _ c.loop-u.yielded_by _ _ c.in-Some.field-0 c.in-Some.is c.next.ensures.steps in
    let u = later-one _ _ _ t in
    let n = length_push c.loop-u.yielded c.in-Some.field-0 in (
      tt,
      tt,
      counting-next _ _ _ _ _ _ _ c.loop-u.invariant.2 _ _ _ _ _ u.0 (omega (arith, n)) u.1 c.only-earlier.ensures c.entry.ensures c.out_of-out.ensures,
      record {
        sure = c.loop-u.invariant.3.sure;
        works = whole-next _ _ _ _ _ _ c.loop-u.invariant.3.works _ _ _ _ _ u.0 (omega (arith, n)) u.1 c.only-earlier.ensures c.entry.ensures c.out_of-out.ensures;
        least = bound-next _ _ _ _ _ _ c.loop-u.invariant.3.works _ _ _ _ _ u.0 refl u.1 c.only-earlier.ensures c.entry.ensures c.out_of-out.ensures _ _ _ c.loop-u.invariant.3.least c.detour-bound.ensures;
      },
    )

pub returns : goal.returns
returns c =
    let o = c.args.self.now in
    let first = behind-first _ _ (row-is _ _ _ o.orderly _ _ _ c.requires.0 c.as_slice.ensures) in
    let road = YieldsList-from_rev_slice {s = c.into_iter-u-iterator.result} (drop 1 (order_of o.near o.set c.args.v)) (cc) in
    let t = YieldsList-end road c.loop-u.yielded _ c.loop-u.yielded_by _ _ c.in-None.is c.next.ensures.steps in
    omega (arith, c.min.ensures, counting-all _ _ _ _ _ _ _ c.loop-u.invariant.2 (all-later _ _ t.1))
