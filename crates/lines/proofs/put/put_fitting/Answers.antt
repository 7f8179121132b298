-- `lines::put::put_fitting` meets its contract: the letter, the fields so far, LF. Assumes nothing.
use Rattle.std.proofs.Common.{[], ◌∷◌, ◌++◌, ◌+◌, length, get_or, take, length-append, refl, sym, ap, subst, arith}
use lib.Seq.{length-sets}
use Rattle.lines.specs.Lines.{digits, fields_text, line_text}
use Rattle.lines.specs.Page.{Puts}
use Rattle.lines.proofs.Writes.{wrote_nothing, fields-next, fields-part, fields-all, line-length}
use Rattle.lines.proofs.Pages.{room_front, room_behind, puts_then}
use Rattle.lines.proofs.put.put_fitting.Goals as goal

pub put-requires : goal.put-requires
unfolding line_text
put-requires c = room_front c.args.page.now (c.args.letter ∷ []) (fields_text c.args.numbers.now ++ (10 ∷ [])) c.requires

pub loop-v-init : goal.loop-v-init
unfolding fields_text
loop-v-init c = let q = c.put.new.self in (wrote_nothing q.text.now q.at, refl)

pub put_field-requires : goal.put_field-requires
put_field-requires c =
    let l = c.loop-v in
    let a = c.args in
    let p = c.put in
    let vs = a.numbers.now in
    let i = l.v-index in
    omega (
      arith,
      l.invariant.0.0,
      ap length l.invariant.0.1,
      length-sets p.new.self.text.now p.new.self.at (fields_text (take i vs)),
      c.requires,
      p.ensures.0.0,
      ap length p.ensures.0.1,
      length-sets a.page.now.text.now a.page.now.at (a.letter ∷ []),
      line-length a.letter vs,
      fields-part vs (i + 1),
      ap length (fields-next vs i c.loop-v-test.true),
      length-append (fields_text (take i vs)) (9 ∷ digits (get_or vs i 0)),
    )

pub loop-v-preserved : goal.loop-v-preserved
loop-v-preserved c =
    let l = c.loop-v in
    let p = c.put_field in
    let q = c.put.new.self in
    let vs = c.args.numbers.now in
    subst (λ bs. Puts q bs p.new.self) (sym (fields-next vs l.v-index c.loop-v-test.true))
    (puts_then q (fields_text (take l.v-index vs)) (9 ∷ digits (get_or vs l.v-index 0)) l.page l.invariant p.new.self p.ensures)

pub put-requires-2 : goal.put-requires-2
unfolding line_text
put-requires-2 c =
    let l = c.loop-v in
    let a = c.args in
    let q = c.put.new.self in
    let vs = a.numbers.now in
    let all = subst (λ bs. Puts q bs l.page) (fields-all vs l.v-index c.loop-v-test.false) l.invariant in
    room_behind q (fields_text vs) (10 ∷ []) l.page all (room_behind a.page.now (a.letter ∷ []) (fields_text vs ++ (10 ∷ [])) q c.put.ensures c.requires)

pub returns : goal.returns
unfolding line_text
returns c =
    let l = c.loop-v in
    let a = c.args in
    let q = c.put.new.self in
    let last = c.put-2 in
    let vs = a.numbers.now in
    let all = subst (λ bs. Puts q bs l.page) (fields-all vs l.v-index c.loop-v-test.false) l.invariant in
    puts_then a.page.now (a.letter ∷ []) (fields_text vs ++ (10 ∷ [])) q c.put.ensures last.new.self (puts_then q (fields_text vs) (10 ∷ []) l.page all last.new.self last.ensures)
