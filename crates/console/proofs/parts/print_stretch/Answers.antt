-- `console::parts::print_stretch` meets its contract: two lists of gates, or a refusal. Assumes nothing.
use borrow.Author.Rules.{rules}
use mathlib.Core.Path.{subst, sym}
use mathlib.Core.List.{List}
use Prim.Native.Nat.{ℕ, ◌+◌, ◌≤◌}
use lib.ListN.{length, replicate, length-replicate}
use Rattle.tallies.specs.Tally.{bound_of, largest}
use Rattle.stretches.specs.Laid.{stretch_records}
use Rattle.stretches.proofs.Alone.{alone-fits, alone-long, alone-is}
use Rattle.console.proofs.Choosing.{unless-passed, prints-same}
use Rattle.console.proofs.Partly.{both-printed, both-fitted, laid-passed, passed-fitted, laid-share, refused-said, refused-fitted, refused-share}
use Rattle.console.proofs.parts.print_stretch.Goals as goal

pub slice_bounds-laid-end : goal.slice_bounds-laid-end
unfolding bound_of
slice_bounds-laid-end g c = alone-fits _ _ _ _ _ (length-replicate {A = ℕ} largest 0) _ c.lay.ensures.0 c.lay.ensures.1 _ c.in-Ok.is

pub slice_bounds-put-end-in-Ok : goal.slice_bounds-put-end-in-Ok
unfolding bound_of
slice_bounds-put-end-in-Ok g c = alone-long _ _ _ _ _ (length-replicate {A = ℕ} largest 0) _ c.lay.ensures.0 c.lay.ensures.1 _ c.in-Ok.is

pub returns-in-Ok-clause-fitted : goal.returns-in-Ok-clause-fitted
unfolding bound_of
returns-in-Ok-clause-fitted g c =
    let lent = length-replicate {A = ℕ} largest 0 in
    passed-fitted _ _ _ _ lent _ c.lay.ensures.0 _ c.lay.ensures.1 _ c.in-Ok.is
    (both-fitted (g.F.Form.line c.args.form) _ _ _ c.args.out.now _ _ _ _ (alone-is _ _ _ _ _ lent _ c.lay.ensures.0 c.lay.ensures.1 _ c.in-Ok.is)
    c.put-at.ensures.0 c.put-at.ensures.1 c.put-bytes.ensures.0 c.put-bytes.ensures.1)

pub returns-in-Ok-clause-prints : goal.returns-in-Ok-clause-prints
unfolding bound_of
returns-in-Ok-clause-prints g c f =
    let lent = length-replicate {A = ℕ} largest 0 in
    let z = laid-passed _ _ _ _ lent _ c.lay.ensures.0 _ c.lay.ensures.1 _ c.in-Ok.is in
    let h = c.requires in
    let text = g.F.Form.text c.args.form in
    prints-same (unless-passed _ _ z)
    (both-printed g.row.ROOM (g.F.Form.line c.args.form) text f.none f.more _ _ _ c.args.out.now _ _ _ _ (search rules) (alone-is _ _ _ _ _ lent _ c.lay.ensures.0 c.lay.ensures.1 _ c.in-Ok.is)
    (subst (λ (x : List ℕ). length (text (stretch_records c.args.n c.args.couplers.now c.args.stretch.now)) + length (text x) ≤ g.row.ROOM) (sym h.2) (f.part c.args.n c.args.couplers.now c.args.stretch.now h.0 h.1 z))
    c.put-at.ensures.0 c.put-at.ensures.1 c.put-bytes.ensures.0 c.put-bytes.ensures.1)

pub returns-in-Ok-clause-phase : goal.returns-in-Ok-clause-phase
unfolding bound_of
returns-in-Ok-clause-phase g c = laid-share _ _ _ _ (length-replicate {A = ℕ} largest 0) _ c.lay.ensures.0 _ c.lay.ensures.1 _ c.in-Ok.is

pub returns-in-Err-clause-fitted : goal.returns-in-Err-clause-fitted
unfolding bound_of
returns-in-Err-clause-fitted g c = refused-fitted _ _ _ (replicate largest 0) (length-replicate {A = ℕ} largest 0) _ c.lay.ensures.0 _ c.in-Err.is c.print_refusal.ensures.fitted

pub returns-in-Err-clause-prints : goal.returns-in-Err-clause-prints
unfolding bound_of
returns-in-Err-clause-prints g c f = prints-same (refused-said _ _ _ (replicate largest 0) (length-replicate {A = ℕ} largest 0) _ c.lay.ensures.0 _ c.in-Err.is _) (c.print_refusal.ensures.prints f.refused)

pub returns-in-Err-clause-phase : goal.returns-in-Err-clause-phase
unfolding bound_of
returns-in-Err-clause-phase g c = refused-share _ _ _ (replicate largest 0) (length-replicate {A = ℕ} largest 0) _ c.lay.ensures.0 _ c.in-Err.is
