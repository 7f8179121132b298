-- `console::counting::count_stretches` meets its contract: what is counted already, and what is still to come. Assumes nothing.
use native.Mathlib.Omega.{arith}
use Rattle.stretches.proofs.Judging.{lent-within}
use Rattle.console.proofs.Tallying.{counting-none, counting-accepts, counting-fits, counting-next, counting-end}
use borrow.Author.Rules.{rules}
use Rattle.console.proofs.counting.count_stretches.Goals as goal

pub loop-from-init : goal.loop-from-init
loop-from-init c = counting-none _ _ _ c.requires.0 _ c.none.ensures

pub count_stretch-counts-requires : goal.count_stretch-counts-requires
count_stretch-counts-requires c = let l = c.loop-from in let f = counting-fits _ _ _ l.from l.counts.cnots l.counts.rotations l.counts.layers.last l.invariant c.loop-from-test.true _ c.stretch_at-stretch.ensures c.requires.1 in (counting-accepts _ _ _ l.from l.counts.cnots l.counts.rotations l.counts.layers.last l.invariant c.loop-from-test.true _ c.stretch_at-stretch.ensures, f.0, f.1)

pub overflow_add-from : goal.overflow_add-from
overflow_add-from c = search (rules, lent-within _ _ c.loop-from.from _ c.stretch_at-stretch.ensures c.loop-from-test.true)

pub overflow_add-from-in-loop-from : goal.overflow_add-from-in-loop-from
overflow_add-from-in-loop-from c = search (rules, lent-within _ _ c.loop-from.from _ c.stretch_at-stretch.ensures c.loop-from-test.true)

pub loop-from-smaller : goal.loop-from-smaller
loop-from-smaller c = omega (arith, lent-within _ _ c.loop-from.from _ c.stretch_at-stretch.ensures c.loop-from-test.true)

pub loop-from-preserved : goal.loop-from-preserved
loop-from-preserved c = let l = c.loop-from in counting-next _ _ _ l.from l.counts.cnots l.counts.rotations l.counts.layers.last l.invariant c.loop-from-test.true _ c.stretch_at-stretch.ensures c.requires.1 _ _ _ c.count_stretch-counts.ensures.0 c.count_stretch-counts.ensures.1 c.count_stretch-counts.ensures.2

pub returns : goal.returns
returns c = counting-end _ _ _ c.loop-from.from _ _ _ (search rules) c.loop-from.invariant
