-- `chip::couplers::near` meets its contract: what is added so far, and then the records that are left. Assumes nothing.
use mathlib.Core.Path.{◌≡◌, refl, sym, ap, ◌∙◌}
use mathlib.Core.List.{List}
use Prim.Native.Nat.{ℕ, ◌+◌}
use lib.ListN.{drop, get_or}
use Rattle.gates.specs.Layout.{coupler_of}
use Rattle.chip.specs.Couplers.{add_of, add_all, near_of}
use Rattle.chip.proofs.Neighbours.{all-step, all_end}
use borrow.Author.Rules.{rules}
use native.Mathlib.Omega.{arith}
use Rattle.chip.proofs.couplers.near.Goals.{in-Some, in_default}
use Rattle.chip.proofs.couplers.near.Goals as goal

pub loop-x-init : goal.loop-x-init
unfolding near_of
loop-x-init c = refl

pub loop-x-preserved : goal.loop-x-preserved
unfolding add_of
loop-x-preserved c =
    let at = c.loop-x in
    let a = c.args in
    let more = λ (all : List ℕ) (e : all ≡ add_of (coupler_of a.n (get_or a.couplers.now at.x-index 0)) at.all).
    ap (add_all a.n (drop (at.x-index + 1) a.couplers.now)) e ∙ sym (all-step a.n a.couplers.now at.all at.x-index (search rules)) ∙ at.invariant in
    elim c.match-decode.branch [
      | in-Some w ↦ more _ (w.all-is ∙ w.link.ensures ∙ ap (λ x. add_of x at.all) (sym w.in-Some.is ∙ c.decode.ensures))
      | in_default w ↦ more _ (w.all-is ∙ ap (λ x. add_of x at.all) (sym w.in_default.is ∙ c.decode.ensures))
    ]

pub returns : goal.returns
returns c =
    let at = c.loop-x in
    let a = c.args in
    sym (all_end _ _ _ at.x-index (omega arith)) ∙ at.invariant
