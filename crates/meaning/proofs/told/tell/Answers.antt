-- `meaning::told::tell` meets its contract: the gates before the loop's place are told, and none of them brings the 257th parity. Assumes nothing.
use mathlib.Core.Bool.{true, false}
use mathlib.Core.Path.{◌≡◌, refl, sym, subst, ◌∙◌}
use Rattle.std.specs.Result.{is_err}
use Rattle.gates.specs.Layout.{gates_of}
use Rattle.table.specs.Table.{added}
use Rattle.meaning.specs.declared.told.Meaning.{Meaning}
use Rattle.meaning.proofs.Feeding.{fed-wires, fed-rotation, fed-over}
use Rattle.meaning.proofs.Telling.{Telling, telling-none, none-told, tell-next, tell-full, tell-all}
use borrow.Author.Rules.{rules}
use Rattle.meaning.proofs.told.tell.Goals.{in-Rotation+else-is_err, in_default}
use Rattle.meaning.proofs.told.tell.Goals as goal

pub loop-fed-init : goal.loop-fed-init
loop-fed-init c = subst (λ (m : Meaning). Telling (gates_of c.args.n c.args.records.now) m 0) (sym (none-told _ _ c.new-wires.ensures c.none-sums.ensures)) (telling-none _)

pub returns-then-is_err : goal.returns-then-is_err
returns-then-is_err c =
    let at = c.loop-fed in
    let m : Meaning = record { wires = at.wires; sums = at.sums; phase = at.phase } in
    let full : is_err c.add-added.result ≡ true = sym c.is_err.ensures.value ∙ c.if-is_err.true in
    tell-full _ _ m at.fed at.invariant (search rules) _ c.decode-g.ensures _
    (fed-over m _ _ _ _ _ _ (added c.add-added.new.self (is_err c.add-added.result)) c.in-Rotation.is c.borne_on.ensures c.borne_on-f.ensures c.taken.ensures c.add-added.ensures full) full

pub loop-fed-preserved : goal.loop-fed-preserved
loop-fed-preserved c =
    let at = c.loop-fed in
    let m : Meaning = record { wires = at.wires; sums = at.sums; phase = at.phase } in
    let d = c.decode-g.ensures in
    elim c.match-g.branch [
      | in-Rotation+else-is_err w ↦ let fits : is_err w.add-added.result ≡ false = sym w.is_err.ensures.value ∙ w.if-is_err.false in
          rw (w.wires-is, w.sums-is, w.phase-is) (tell-next _ _ m at.fed at.invariant (search rules) _ d _
          (fed-rotation m _ _ _ _ _ _ (added w.add-added.new.self (is_err w.add-added.result)) w.in-Rotation.is w.borne_on.ensures w.borne_on-f.ensures w.taken.ensures w.add-added.ensures _ _ w.shift.ensures w.together-phase.ensures fits) fits)
      | in_default w ↦ rw (w.wires-is, w.sums-is, w.phase-is) (tell-next _ _ m at.fed at.invariant (search rules) _ d _ (fed-wires m _ w.in_default.not-Rotation _ w.feed-wires.ensures) refl)
    ]

pub returns : goal.returns
returns c = tell-all _ _ _ c.loop-fed.fed c.loop-fed.invariant (search rules)
