-- `put_number` of a page meets its contract, digit by digit. Assumes nothing.
use Rattle.std.proofs.Common.{[], ◌∷◌, ◌+◌, ◌/◌, ◌%◌, arith, sym, subst}
use Rattle.lines.specs.Lines.{digits}
use Rattle.lines.specs.Page.{HasRoom, Puts}
use Rattle.lines.proofs.Digits.{digits-big}
use Rattle.lines.proofs.Writes.{width-big}
use Rattle.lines.proofs.Pages.{room_behind, puts_then}
use Rattle.lines.proofs.page.Page.+put_number.Goals as goal

pub put_number-requires : goal.put_number-requires
put_number-requires t c = (omega arith, omega (arith, c.requires, width-big c.args.v c.if-v-lt10.false))

pub put-requires-2 : goal.put-requires-2
put-requires-2 t c =
    let a = c.args in
    let p = c.put_number in
    room_behind a.self.now (digits (a.v / 10)) ((48 + a.v % 10) ∷ []) p.new.self p.ensures (subst (HasRoom a.self.now) (digits-big a.v c.if-v-lt10.false) c.requires)

pub returns : goal.returns
returns t c =
    let a = c.args in
    let p = c.put_number in
    let q = c.put-2 in
    subst (λ ds. Puts a.self.now ds q.new.self) (sym (digits-big a.v c.if-v-lt10.false))
    (puts_then a.self.now (digits (a.v / 10)) ((48 + a.v % 10) ∷ []) p.new.self p.ensures q.new.self q.ensures)
