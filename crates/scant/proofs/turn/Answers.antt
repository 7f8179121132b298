-- A text is read and its lists are handed on, safely, and it ends. Assumes nothing.
use Prim.Native.Nat.{ℕ}
use lib.ListN.{length-replicate}
use Rattle.console.specs.Printed.{most_coupler_lines, most_gate_lines}
use Rattle.console.proofs.Reading.{couplers-within, couplers-long, gates-within, gates-long}
use Rattle.scant.proofs.turn.Goals as goal

pub slice_bounds-couplers-end : goal.slice_bounds-couplers-end
slice_bounds-couplers-end g c = couplers-within _ _ _ _ _ (length-replicate {A = ℕ} most_coupler_lines 0) (length-replicate {A = ℕ} most_gate_lines 0) _ _ c.read.ensures.0 c.in-Ok.is c.read.ensures.1 c.read.ensures.2

pub slice_bounds-lay_and_write-end : goal.slice_bounds-lay_and_write-end
slice_bounds-lay_and_write-end g c = couplers-long _ _ _ _ _ (length-replicate {A = ℕ} most_coupler_lines 0) (length-replicate {A = ℕ} most_gate_lines 0) _ _ c.read.ensures.0 c.in-Ok.is c.read.ensures.1 c.read.ensures.2

pub slice_bounds-gates-end : goal.slice_bounds-gates-end
slice_bounds-gates-end g c = gates-within _ _ _ _ _ (length-replicate {A = ℕ} most_coupler_lines 0) (length-replicate {A = ℕ} most_gate_lines 0) _ _ c.read.ensures.0 c.in-Ok.is c.read.ensures.1 c.read.ensures.2

pub slice_bounds-lay_and_write-end-in-Ok : goal.slice_bounds-lay_and_write-end-in-Ok
slice_bounds-lay_and_write-end-in-Ok g c = gates-long _ _ _ _ _ (length-replicate {A = ℕ} most_coupler_lines 0) (length-replicate {A = ℕ} most_gate_lines 0) _ _ c.read.ensures.0 c.in-Ok.is c.read.ensures.1 c.read.ensures.2
