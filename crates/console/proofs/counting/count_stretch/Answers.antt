-- `console::counting::count_stretch` meets its contract. Assumes nothing.
use mathlib.Core.Path.{ap, ◌∙◌}
use mathlib.Core.List.{List}
use Prim.Native.Nat.{ℕ, ◌+◌}
use lib.ListN.{length-replicate}
use native.Mathlib.Omega.{arith}
use Rattle.gates.specs.Layout.{gates_of}
use Rattle.tallies.specs.Tally.{bound_of, largest, layers_after}
use Rattle.stretches.proofs.Alone.{alone-accepted, alone-counts, alone-fits, alone-long, alone-is}
use Rattle.console.proofs.Tallying.{counts-few}
use Rattle.console.proofs.counting.count_stretch.Goals as goal

pub overflow_add-result : goal.overflow_add-result
unfolding bound_of
overflow_add-result c = let k = alone-counts _ _ _ _ _ (length-replicate {A = ℕ} largest 0) _ c.lay.ensures.0 c.lay.ensures.1 _ c.in-Ok.is in let f = counts-few _ _ _ c.requires.0 in omega (arith, k.cnots, f.0, c.requires.1)

pub overflow_add-result-in-Ok : goal.overflow_add-result-in-Ok
unfolding bound_of
overflow_add-result-in-Ok c = let k = alone-counts _ _ _ _ _ (length-replicate {A = ℕ} largest 0) _ c.lay.ensures.0 c.lay.ensures.1 _ c.in-Ok.is in let f = counts-few _ _ _ c.requires.0 in omega (arith, k.rotations, f.1, c.requires.2)

pub slice_bounds-laid-end : goal.slice_bounds-laid-end
unfolding bound_of
slice_bounds-laid-end c = alone-fits _ _ _ _ _ (length-replicate {A = ℕ} largest 0) _ c.lay.ensures.0 c.lay.ensures.1 _ c.in-Ok.is

pub slice_bounds-fed-end : goal.slice_bounds-fed-end
unfolding bound_of
slice_bounds-fed-end c = alone-long _ _ _ _ _ (length-replicate {A = ℕ} largest 0) _ c.lay.ensures.0 c.lay.ensures.1 _ c.in-Ok.is

pub returns-in-Ok : goal.returns-in-Ok
unfolding bound_of
returns-in-Ok c = let k = alone-counts _ _ _ _ _ (length-replicate {A = ℕ} largest 0) _ c.lay.ensures.0 c.lay.ensures.1 _ c.in-Ok.is in (ap (λ (m : ℕ). c.args.counts.cnots + m) k.cnots, ap (λ (m : ℕ). c.args.counts.rotations + m) k.rotations, c.fed.ensures ∙ ap (λ (w : List ℕ). layers_after (gates_of c.args.n w) c.args.counts.layers.last) (alone-is _ _ _ _ _ (length-replicate {A = ℕ} largest 0) _ c.lay.ensures.0 c.lay.ensures.1 _ c.in-Ok.is))

pub returns-in-Err : goal.returns-in-Err
unfolding bound_of
returns-in-Err c = absurd (alone-accepted _ _ _ _ _ (length-replicate {A = ℕ} largest 0) _ c.lay.ensures.0 c.lay.ensures.1 c.requires.0 _ c.in-Err.is)
