-- `ending::closing::ending` meets its contract. Assumes nothing.
use mathlib.Core.Path.{sym, ◌∙◌}
use native.Mathlib.Omega.{arith}
use Rattle.ending.proofs.Writing.{written_none, written_both}
use Rattle.ending.proofs.Choice.{cheapest-fit}
use Rattle.ending.proofs.Recursion.{without-falls, ending-done, ending-stops, ending-goes}
use Rattle.ending.proofs.closing.+ending.Goals as goal

pub returns-then-is_done : goal.returns-then-is_done
returns-then-is_done t c = written_none _ _ _ (ending-done _ _ _ _ _ c.size-is_done.ensures c.if-is_done.true)

pub taking-taking-requires : goal.taking-taking-requires
taking-taking-requires t c = (cheapest-fit _ _ _ _ _ (sym c.in-Some.is ∙ c.cheapest.ensures)).0

pub ending-requires : goal.ending-requires
ending-requires t c = let falls = without-falls _ _ (sym c.in-Some.is ∙ c.cheapest.ensures) _ _ c.without.ensures in (omega (arith, falls), tt)

pub returns-in-None : goal.returns-in-None
returns-in-None t c = written_none _ _ _ (ending-stops _ _ _ _ _ c.size-is_done.ensures c.if-is_done.false (sym c.in-None.is ∙ c.cheapest.ensures))

pub returns-in-Some : goal.returns-in-Some
returns-in-Some t c =
    written_both _ _ _ _ _ _ _ _ _
    (ending-goes _ _ (sym c.in-Some.is ∙ c.cheapest.ensures) _ _ c.without.ensures c.taking-taking.ensures _ c.size-is_done.ensures c.if-is_done.false)
    c.put_out-next.ensures.0 c.put_out-next.ensures.1 c.ending.ensures.0 c.ending.ensures.1
