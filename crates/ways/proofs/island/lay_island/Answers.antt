-- `ways::island::lay_island` meets its contract: the shorter list is read back and laid. Assumes nothing.
use native.Mathlib.Omega.{arith}
use Rattle.tallies.specs.Tally.{bound_of}
use Rattle.share.specs.OwnTable.{share_in}
use Rattle.ways.specs.Ways.{by_steps, by_nearest}
use Rattle.ways.specs.Memory.{in_memory}
use Rattle.ways.proofs.Owned.{first, second, part-fits, part-long, part_held, part_count, laid_on, memory-first, memory-second}
use Rattle.ways.proofs.island.lay_island.Goals as goal

pub slice_bounds-second-end : goal.slice_bounds-second-end
unfolding bound_of by_steps by_nearest
slice_bounds-second-end c = part-fits (second (share_in c.args.own)) _ _ c.by_way-b.ensures.0 c.by_way-b.ensures.1

pub slice_bounds-replay-end : goal.slice_bounds-replay-end
unfolding bound_of by_steps by_nearest
slice_bounds-replay-end c = part-long (second (share_in c.args.own)) _ _ c.by_way-b.ensures.0 c.by_way-b.ensures.1

pub returns-then-is_shorter : goal.returns-then-is_shorter
unfolding bound_of by_steps by_nearest
returns-then-is_shorter c = let s = share_in c.args.own in
    let a = c.by_way-a.ensures in
    let b = c.by_way-b.ensures in
    laid_on s _ _ _ _ (in_memory (second s)) _ (memory-second s (omega (arith, part_count (first s) _ _ a.0 a.1, part_count (second s) _ _ b.0 b.1, c.if-is_shorter.true)))
    (part_held (second s) _ _ b.0 b.1) c.replay.ensures.0 c.replay.ensures.1

pub slice_bounds-first-end : goal.slice_bounds-first-end
unfolding bound_of by_steps by_nearest
slice_bounds-first-end c = part-fits (first (share_in c.args.own)) _ _ c.by_way-a.ensures.0 c.by_way-a.ensures.1

pub slice_bounds-replay-end-2 : goal.slice_bounds-replay-end-2
unfolding bound_of by_steps by_nearest
slice_bounds-replay-end-2 c = part-long (first (share_in c.args.own)) _ _ c.by_way-a.ensures.0 c.by_way-a.ensures.1

pub returns : goal.returns
unfolding bound_of by_steps by_nearest
returns c = let s = share_in c.args.own in
    let a = c.by_way-a.ensures in
    let b = c.by_way-b.ensures in
    laid_on s _ _ _ _ (in_memory (first s)) _ (memory-first s (omega (arith, part_count (first s) _ _ a.0 a.1, part_count (second s) _ _ b.0 b.1, c.if-is_shorter.false)))
    (part_held (first s) _ _ a.0 a.1) c.replay-2.ensures.0 c.replay-2.ensures.1
