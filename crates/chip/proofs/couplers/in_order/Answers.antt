-- `chip::couplers::in_order` meets its contract: what is written, and then what the pairs that are left write. Assumes nothing.
use mathlib.Core.Path.{sym, ◌∙◌, ap₂}
use Prim.Native.Nat.{ℕ}
use mathlib.Core.List.{List}
use Rattle.chip.proofs.Order.{writing-none, writing-with, writing-without, writing-all, pairs-room, record_is, ordered}
use borrow.Author.Rules.{rules}
use native.Mathlib.Omega.{arith}
use Rattle.chip.proofs.couplers.in_order.Goals.{then-is_pair, else-is_pair}
use Rattle.chip.proofs.couplers.in_order.Goals as goal

pub loop-k-init : goal.loop-k-init
loop-k-init c = (search rules, writing-none _)

pub offset_bounds-records-len : goal.offset_bounds-records-len
offset_bounds-records-len c =
    let at = c.loop-k in
    omega (arith, at.invariant.1.long, at.invariant.1.few, pairs-room c.args.near at.k (search rules) (sym c.is_pair.ensures ∙ c.if-is_pair.true))

pub bounds-records-len : goal.bounds-records-len
bounds-records-len c =
    let at = c.loop-k in
    omega (arith, at.invariant.1.long, at.invariant.1.few, pairs-room c.args.near at.k (search rules) (sym c.is_pair.ensures ∙ c.if-is_pair.true))

pub overflow_add-len : goal.overflow_add-len
overflow_add-len c =
    let at = c.loop-k in
    omega (arith, at.invariant.1.long, at.invariant.1.few, pairs-room c.args.near at.k (search rules) (sym c.is_pair.ensures ∙ c.if-is_pair.true))

pub loop-k-preserved : goal.loop-k-preserved
loop-k-preserved c =
    let at = c.loop-k in
    let a = c.args in (
      search rules,
      elim c.if-is_pair.branch [
        | then-is_pair w ↦ rw (w.records-is, w.len-is) (writing-with a.near at.k at.records at.len (search rules) at.invariant.1 _ (record_is a.near at.k) (sym c.is_pair.ensures ∙ w.if-is_pair.true))
        | else-is_pair w ↦ rw (w.records-is, w.len-is) (writing-without a.near at.k at.records at.len (search rules) at.invariant.1 (sym c.is_pair.ensures ∙ w.if-is_pair.false))
      ],
    )

pub returns : goal.returns
returns c =
    let e = writing-all _ c.loop-k.k _ _ (search rules) c.loop-k.invariant.1 in
    ap₂ (λ (r : List ℕ) (l : ℕ). ordered r l) e.0 e.1
