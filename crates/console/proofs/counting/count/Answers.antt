-- `console::counting::count` meets its contract. Assumes nothing.
use native.Mathlib.Omega.{arith}
use Prim.Native.Nat.{ℕ}
use lib.ListN.{length-replicate}
use Rattle.tallies.specs.Tally.{bound_of}
use Rattle.console.specs.Printed.{most_coupler_lines, most_gate_lines, counted_job, counted_text}
use Rattle.console.proofs.Choosing.{prints-same}
use Rattle.console.proofs.Reading.{couplers-within, couplers-long, gates-within, gates-long, text-read, text-unread}
use Rattle.console.proofs.counting.count.Goals as goal

pub slice_bounds-couplers-end : goal.slice_bounds-couplers-end
slice_bounds-couplers-end c = couplers-within _ _ _ _ _ (length-replicate {A = ℕ} most_coupler_lines 0) (length-replicate {A = ℕ} most_gate_lines 0) _ _ c.read.ensures.0 c.in-Ok.is c.read.ensures.1 c.read.ensures.2

pub slice_bounds-count_job-end : goal.slice_bounds-count_job-end
slice_bounds-count_job-end c = couplers-long _ _ _ _ _ (length-replicate {A = ℕ} most_coupler_lines 0) (length-replicate {A = ℕ} most_gate_lines 0) _ _ c.read.ensures.0 c.in-Ok.is c.read.ensures.1 c.read.ensures.2

pub slice_bounds-gates-end : goal.slice_bounds-gates-end
slice_bounds-gates-end c = gates-within _ _ _ _ _ (length-replicate {A = ℕ} most_coupler_lines 0) (length-replicate {A = ℕ} most_gate_lines 0) _ _ c.read.ensures.0 c.in-Ok.is c.read.ensures.1 c.read.ensures.2

pub slice_bounds-count_job-end-in-Ok : goal.slice_bounds-count_job-end-in-Ok
slice_bounds-count_job-end-in-Ok c = gates-long _ _ _ _ _ (length-replicate {A = ℕ} most_coupler_lines 0) (length-replicate {A = ℕ} most_gate_lines 0) _ _ c.read.ensures.0 c.in-Ok.is c.read.ensures.1 c.read.ensures.2

pub returns-in-Ok : goal.returns-in-Ok
unfolding counted_text
returns-in-Ok c = prints-same (text-read _ _ _ _ _ (length-replicate {A = ℕ} most_coupler_lines 0) (length-replicate {A = ℕ} most_gate_lines 0) _ _ c.read.ensures.0 c.in-Ok.is c.read.ensures.1 c.read.ensures.2 counted_job) c.count_job.ensures

pub returns-in-Err : goal.returns-in-Err
unfolding bound_of counted_text
returns-in-Err c = prints-same (text-unread _ _ _ (length-replicate {A = ℕ} most_coupler_lines 0) (length-replicate {A = ℕ} most_gate_lines 0) _ _ c.read.ensures.0 c.in-Err.is _) (c.print_refusal.ensures.prints (omega arith))
