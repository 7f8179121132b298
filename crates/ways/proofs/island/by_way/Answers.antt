-- `ways::island::by_way` meets its contract: what was laid is read back as it is closed. Assumes nothing.
use mathlib.Core.Path.{ap, ◌∙◌}
use mathlib.Core.List.{List}
use Rattle.gates.specs.declared.gate.Gate.{Gate}
use Rattle.tallies.specs.Tally.{bound_of}
use Rattle.emitting.specs.Emit.{emit, emit_at}
use Rattle.share.specs.OwnTable.{share_in}
use Rattle.ways.specs.Ways.{by_way, with_closing}
use Rattle.ways.proofs.Owned.{part-fits, part-long, part_held}
use Rattle.ways.proofs.island.by_way.Goals as goal

pub slice_bounds-laid-end : goal.slice_bounds-laid-end
unfolding bound_of
slice_bounds-laid-end g c = part-fits (by_way g.W.Way.piece_for (share_in c.args.own)) _ _ c.lay_terms-k.ensures.0 c.lay_terms-k.ensures.1

pub slice_bounds-closed-end : goal.slice_bounds-closed-end
unfolding bound_of
slice_bounds-closed-end g c = part-long (by_way g.W.Way.piece_for (share_in c.args.own)) _ _ c.lay_terms-k.ensures.0 c.lay_terms-k.ensures.1

pub returns : goal.returns
unfolding bound_of
returns g c =
    let s = share_in c.args.own in
    let back = part_held (by_way g.W.Way.piece_for s) _ _ c.lay_terms-k.ensures.0 c.lay_terms-k.ensures.1 in (
      c.closed.ensures.0 ∙ ap (λ (gs : List Gate). emit c.args.out.now 0 (with_closing s gs)) back,
      c.closed.ensures.1 ∙ ap (λ (gs : List Gate). emit_at c.args.out.now 0 (with_closing s gs)) back,
    )
