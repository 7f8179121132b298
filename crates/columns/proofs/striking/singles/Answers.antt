-- `columns::striking::singles` meets its contract: what is gathered, with the columns from the index on. Assumes nothing.
use mathlib.Core.Path.{sym, ap, ◌∙◌}
use Prim.Native.Nat.{ℕ, ◌+◌}
use lib.Bits.{bit_or, or_zero_l}
use lib.ListN.{drop}
use Rattle.columns.specs.Striking.{singles_of}
use Rattle.columns.proofs.Singles.{singles-next, singles-end}
use borrow.Author.Rules.{rules}
use Rattle.columns.proofs.striking.singles.Goals as goal

pub loop-x-init : goal.loop-x-init
loop-x-init c = or_zero_l _

pub loop-x-preserved : goal.loop-x-preserved
loop-x-preserved c =
    let at = c.loop-x in
    let cols = c.args.cols.now in
    ap (λ (x : ℕ). bit_or (bit_or at.s x) (singles_of (drop (at.x-index + 1) cols))) c.alone-s.ensures ∙ singles-next cols at.x-index at.s (search rules) ∙ at.invariant

pub returns : goal.returns
returns c = sym (singles-end _ c.loop-x.x-index _ (search rules)) ∙ c.loop-x.invariant
