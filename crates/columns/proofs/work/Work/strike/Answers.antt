-- `columns::work::Work::strike` meets its contract: what is left to strike off leads to the same memory. Assumes nothing.
use mathlib.Core.Path.{refl, sym, ap, ◌∙◌, subst}
use lib.ListN.{length}
use Rattle.columns.specs.Striking.{singles_of, strike_row, strike_off}
use Rattle.columns.specs.Worked.{Worked}
use Rattle.columns.proofs.Strikes.{from_next, from_end}
use Rattle.columns.proofs.Singles.{singles-named, none-struck, row-passed, named-still}
use Rattle.columns.proofs.Working.{same-still, same-then}
use borrow.Author.Rules.{rules}
use Rattle.columns.proofs.work.Work.strike.Goals.{then-holds, else-holds}
use Rattle.columns.proofs.work.Work.strike.Goals as goal

pub returns-then-s-eq0 : goal.returns-then-s-eq0
returns-then-s-eq0 c = record { same = same-still _; memory = none-struck _ _ _ _ _ (singles-named _ _ (c.singles-s.ensures ∙ ap singles_of c.columns.ensures)) c.if-s-eq0.true }

pub loop-q-init : goal.loop-q-init
unfolding strike_off
loop-q-init c = (same-still _, singles-named _ _ (c.singles-s.ensures ∙ ap singles_of c.columns.ensures), refl)

-- the row of q was laid by the call, or passed over
pub loop-q-preserved : goal.loop-q-preserved
loop-q-preserved c =
    let at = c.loop-q in
    let w = at.self in
    let row : Worked w c.if-holds.self (strike_row (length w.cols.now) 0 at.q w.angles.now w.cols.now) =
    elim c.if-holds.branch [
      | then-holds b ↦ subst (λ v. Worked w v (strike_row (length w.cols.now) 0 at.q w.angles.now w.cols.now)) (sym b.self-is) b.strike_row.ensures
      | else-holds b ↦ subst (λ v. Worked w v (strike_row (length w.cols.now) 0 at.q w.angles.now w.cols.now)) (sym b.self-is)
          (record { same = same-still _; memory = row-passed _ _ _ _ _ at.invariant.1 at.q (search rules) (sym c.holds.ensures ∙ b.if-holds.false) })
    ] in (
      same-then at.invariant.0 row.same,
      named-still at.q _ w.cols.now _ _ _ at.invariant.1 row.memory,
      rw row.same.angles (from_next _ 20 at.q _ _ _ _ _ _ (search rules) row.memory ∙ at.invariant.2),
    )

pub returns : goal.returns
returns c = record { same = c.loop-q.invariant.0; memory = from_end _ 20 c.loop-q.q _ _ _ (search rules) ∙ c.loop-q.invariant.2 }
