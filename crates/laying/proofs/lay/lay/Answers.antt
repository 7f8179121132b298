-- `laying::lay::lay` meets its contract: tests 1 to 8, then the circuit laid aside is copied. Assumes nothing.
use mathlib.Core.Path.{sym, ap, ◌∙◌}
use Rattle.std.proofs.Common.{rules}
use Rattle.verdicts.proofs.Judged.{went}
use Rattle.tallies.specs.Tally.{bound_of}
use Rattle.emitting.specs.Emit.{emit, emit_at}
use Rattle.judging.proofs.Judging.{verdict-found}
use Rattle.laying.proofs.Accepting.{job-layable}
use Rattle.ways.proofs.Replaying.{zeros}
use Rattle.ways.proofs.Owned.{part-fits, part-long}
use Rattle.laying.proofs.Answering.{circuit-on, refused, copied}
use Rattle.laying.proofs.lay.lay.Goals as goal

pub returns-in_err-judge_on : goal.returns-in_err-judge_on
returns-in_err-judge_on c = let a = c.args in
    let v = verdict-found a.n a.couplers.now _ a.gates.now _ _ c.near-near.ensures c.islands-islands.ensures c.judge_on.result c.judge_on.ensures in
    refused a.n a.couplers.now a.gates.now a.out.now c.from_residual.result (search rules) (sym v ∙ c.in_err-judge_on.was)

pub lay_on-outcome-requires : goal.lay_on-outcome-requires
lay_on-outcome-requires c = let a = c.args in
    let v = verdict-found a.n a.couplers.now _ a.gates.now _ _ c.near-near.ensures c.islands-islands.ensures c.judge_on.result c.judge_on.ensures in
    record {
      couplers = a.couplers.now;
      near_are = c.near-near.ensures;
      islands_are = c.islands-islands.ensures;
      layable = job-layable a.n a.couplers.now a.gates.now _ (went v c.in_ok-judge_on.was);
    }

pub slice_bounds-laid-end : goal.slice_bounds-laid-end
unfolding bound_of
slice_bounds-laid-end c = part-fits _ _ _ c.lay_on-outcome.ensures.0.0 c.lay_on-outcome.ensures.0.1

pub slice_bounds-replay-end : goal.slice_bounds-replay-end
unfolding bound_of
slice_bounds-replay-end c = part-long _ _ _ c.lay_on-outcome.ensures.0.0 c.lay_on-outcome.ensures.0.1

pub slice_bounds-laid-end-2 : goal.slice_bounds-laid-end-2
unfolding bound_of
slice_bounds-laid-end-2 c = part-fits _ _ _ c.lay_on-outcome.ensures.0.0 c.lay_on-outcome.ensures.0.1

pub slice_bounds-counted-end : goal.slice_bounds-counted-end
unfolding bound_of
slice_bounds-counted-end c = part-long _ _ _ c.lay_on-outcome.ensures.0.0 c.lay_on-outcome.ensures.0.1

pub returns : goal.returns
unfolding bound_of
returns c = let a = c.args in
    let v = verdict-found a.n a.couplers.now _ a.gates.now _ _ c.near-near.ensures c.islands-islands.ensures c.judge_on.result c.judge_on.ensures in
    let l = c.lay_on-outcome.ensures in
    let o = circuit-on a.n a.couplers.now a.gates.now a.out.now _ c.near-near.ensures in
    copied a.n a.couplers.now a.gates.now a.out.now (went v c.in_ok-judge_on.was) _ _ (l.0.0 ∙ ap (emit zeros 0) o) (l.0.1 ∙ ap (emit_at zeros 0) o) _ _ _ l.1 c.counted.ensures c.replay.ensures.0
