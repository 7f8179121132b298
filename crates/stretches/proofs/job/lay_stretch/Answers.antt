-- `stretches::job::lay_stretch` meets its contract: laid aside, then stored. Assumes nothing.
use mathlib.Core.Path.{sym, ap, subst, ◌∙◌}
use mathlib.Core.List.{List}
use Prim.Native.Nat.{ℕ, ◌+◌, ◌≤◌}
use lib.ListN.{length, length-replicate}
use lib.Seq.{sets}
use Rattle.tallies.specs.Tally.{bound_of, largest}
use Rattle.stretches.proofs.Alone.{alone-accepted, alone-fits, alone-long, alone-is, alone-share}
use Rattle.stretches.proofs.job.lay_stretch.Goals as goal

pub slice_bounds-laid-end : goal.slice_bounds-laid-end
unfolding bound_of
slice_bounds-laid-end c = alone-fits _ _ _ _ _ (length-replicate {A = ℕ} largest 0) _ c.lay.ensures.0 c.lay.ensures.1 _ c.in-Ok.is

pub slice_bounds-store_records-end : goal.slice_bounds-store_records-end
unfolding bound_of
slice_bounds-store_records-end c = alone-long _ _ _ _ _ (length-replicate {A = ℕ} largest 0) _ c.lay.ensures.0 c.lay.ensures.1 _ c.in-Ok.is

pub store_records-requires : goal.store_records-requires
unfolding bound_of
store_records-requires c = subst (λ (w : List ℕ). c.args.at + length w ≤ length c.args.out.now) (sym (alone-is _ _ _ _ _ (length-replicate {A = ℕ} largest 0) _ c.lay.ensures.0 c.lay.ensures.1 _ c.in-Ok.is)) c.requires.1

pub returns-in-Ok : goal.returns-in-Ok
unfolding bound_of
returns-in-Ok c = let is = alone-is _ _ _ _ _ (length-replicate {A = ℕ} largest 0) _ c.lay.ensures.0 c.lay.ensures.1 _ c.in-Ok.is in (c.store_records.ensures.0 ∙ ap (λ (w : List ℕ). c.args.at + length w) is, alone-share _ _ _ _ _ (length-replicate {A = ℕ} largest 0) _ c.lay.ensures.0 c.lay.ensures.1 _ c.in-Ok.is, c.store_records.ensures.1 ∙ ap (sets c.args.out.now c.args.at) is)

pub returns-in-Err : goal.returns-in-Err
unfolding bound_of
returns-in-Err c = absurd (alone-accepted _ _ _ _ _ (length-replicate {A = ℕ} largest 0) _ c.lay.ensures.0 c.lay.ensures.1 c.requires.0 _ c.in-Err.is)
