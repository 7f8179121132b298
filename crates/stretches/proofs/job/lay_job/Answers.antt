-- `stretches::job::lay_job` meets its contract: the tests in order, then the stretches. Assumes nothing.
use mathlib.Core.Path.{sym, ◌∙◌}
use Rattle.std.proofs.Common.{rules}
use Rattle.verdicts.proofs.Judged.{went}
use Rattle.stretches.proofs.Passing.{job-passed}
use Rattle.stretches.proofs.Answering.{refused, refused-8, fits, part-fits, part-long, counted}
use Rattle.stretches.proofs.job.lay_job.Goals as goal

pub returns-in_err-judge : goal.returns-in_err-judge
returns-in_err-judge c = refused c.args.n c.args.couplers.now c.args.gates.now c.args.out.now c.from_residual.result (search rules) (sym c.judge.ensures ∙ c.in_err-judge.was)

pub judge_room-requires : goal.judge_room-requires
judge_room-requires c = let p = job-passed _ _ _ (went c.judge.ensures c.in_ok-judge.was) in (p.few, p.counted)

pub returns-in_err-judge_room : goal.returns-in_err-judge_room
returns-in_err-judge_room c = refused-8 c.args.n c.args.couplers.now c.args.gates.now c.args.out.now c.from_residual-in_err-judge_room.result (search rules) (went c.judge.ensures c.in_ok-judge.was) (sym c.judge_room.ensures ∙ c.in_err-judge_room.was)

pub lay_stretches-part-requires : goal.lay_stretches-part-requires
lay_stretches-part-requires c = ((job-passed _ _ _ (went c.judge.ensures c.in_ok-judge.was)).accepts, fits c.args.n c.args.couplers.now c.args.gates.now c.args.out.now (went c.judge.ensures c.in_ok-judge.was) (went c.judge_room.ensures c.in_ok-judge_room.was))

pub slice_bounds-counted-end : goal.slice_bounds-counted-end
slice_bounds-counted-end c = part-fits c.args.n c.args.couplers.now c.args.gates.now c.args.out.now (went c.judge.ensures c.in_ok-judge.was) (went c.judge_room.ensures c.in_ok-judge_room.was) _ _ c.lay_stretches-part.ensures.2 c.lay_stretches-part.ensures.0

pub slice_bounds-counted-end-2 : goal.slice_bounds-counted-end-2
slice_bounds-counted-end-2 c = part-long c.args.n c.args.couplers.now c.args.gates.now c.args.out.now (went c.judge.ensures c.in_ok-judge.was) (went c.judge_room.ensures c.in_ok-judge_room.was) _ _ c.lay_stretches-part.ensures.2 c.lay_stretches-part.ensures.0

pub returns : goal.returns
returns c = counted c.args.n c.args.couplers.now c.args.gates.now c.args.out.now (went c.judge.ensures c.in_ok-judge.was) (went c.judge_room.ensures c.in_ok-judge_room.was) _ _ c.lay_stretches-part.ensures.2 c.lay_stretches-part.ensures.0 _ _ c.lay_stretches-part.ensures.1 c.counted.ensures
