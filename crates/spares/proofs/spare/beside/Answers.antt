-- `spares::spare::beside` meets its contract: what is gathered, with the neighbours of the members from u on. Assumes nothing.
use mathlib.Core.Path.{sym, ap, ◌∙◌}
use Prim.Native.Nat.{ℕ, ◌+◌}
use lib.Bits.{bit_or}
use Rattle.chip.proofs.Rounds.{from_on, nbrs-with, nbrs-without, nbrs-start, nbrs-end}
use borrow.Author.Rules.{rules}
use native.Mathlib.Omega.{arith}
use Rattle.spares.proofs.spare.beside.Goals.{then-holds, else-holds}
use Rattle.spares.proofs.spare.beside.Goals as goal

pub loop-u-init : goal.loop-u-init
loop-u-init c = nbrs-start _ _

pub loop-u-preserved : goal.loop-u-preserved
loop-u-preserved c =
    let at = c.loop-u in
    let a = c.args in
    elim c.if-holds.branch [
      | then-holds w ↦ ap (λ (n : ℕ). bit_or n (from_on a.near a.set (at.u + 1))) w.all-is ∙ sym (nbrs-with a.near a.set at.u at.all (search rules) (sym c.holds.ensures ∙ w.if-holds.true)) ∙ at.invariant
      | else-holds w ↦ ap (λ (n : ℕ). bit_or n (from_on a.near a.set (at.u + 1))) w.all-is ∙ sym (nbrs-without a.near a.set at.u at.all (search rules) (sym c.holds.ensures ∙ w.if-holds.false)) ∙ at.invariant
    ]

pub returns : goal.returns
returns c =
    let at = c.loop-u in
    let a = c.args in
    sym (nbrs-end a.near a.set at.u at.all (omega (arith, c.well_formed.0))) ∙ at.invariant
