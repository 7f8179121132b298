-- `steps::steps::cross` meets its contract. Assumes nothing.
use mathlib.Core.Path.{sym, subst}
use Rattle.columns.specs.Turning.{lay_cnot}
use Rattle.columns.specs.Worked.{Worked}
use Rattle.steps.proofs.Unfolding.{crossed-both, crossed-straight}
use Rattle.steps.proofs.steps.cross.Goals.{then-ones-eq0, else-ones-eq0}
use Rattle.steps.proofs.steps.cross.Goals as goal

pub returns : goal.returns
returns c =
    let w = c.args.work.now in
    elim c.if-ones-eq0.branch [
      | then-ones-eq0 b ↦ crossed-both _ _ _ b.if-ones-eq0.true (subst (λ v. Worked w v (lay_cnot c.args.m c.args.r w.cols.now)) (sym b.work-is) b.lay_cnot.ensures) c.lay_cnot-2.ensures
      | else-ones-eq0 b ↦ crossed-straight _ _ _ b.if-ones-eq0.false b.work-is c.lay_cnot-2.ensures
    ]
