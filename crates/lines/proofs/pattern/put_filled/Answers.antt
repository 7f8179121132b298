-- `lines::pattern::put_filled` meets its contract: what is left of the pattern gives, when it is stored, what the whole gives. Assumes nothing.
use Rattle.std.proofs.Common.{◌+◌, length, get_or, drop, arith, ap, ◌∙◌}
use lib.Seq.{length-sets}
use Rattle.lines.specs.Pattern.{filled_byte, filled}
use Rattle.lines.proofs.Filled.{uses-most, filled-turn, filled-past, filled-part, left-turn, left-past}
use Rattle.lines.proofs.pattern.put_filled.Goals as goal

pub put_filled_byte-requires : goal.put_filled_byte-requires
put_filled_byte-requires c =
    let l = c.loop-x in
    let a = c.args in
    omega (arith, c.requires, l.invariant.3, l.invariant.1.0, filled-part a.pattern.now a.numbers.now l.x-index l.k c.loop-x-test.true c.number_at.ensures)

pub loop-x-preserved : goal.loop-x-preserved
loop-x-preserved c =
    let l = c.loop-x in
    let a = c.args in
    let i = l.x-index in
    let s = a.pattern.now in
    let vs = a.numbers.now in
    let u = c.used_by-k in
    let n = c.number_at in
    let p = c.put_filled_byte.ensures in (
      omega (arith, l.invariant.0, u.ensures, uses-most (get_or s i 0)),
      left-turn a.page.now.text.now a.page.now.at (filled s vs) l.page.text.now l.page.at l.invariant.1 (filled_byte (get_or s i 0) n.result) (filled (drop (i + 1) s) (drop (l.k + u.result) vs)) (filled-turn s vs i l.k c.loop-x-test.true n.ensures u.ensures) p.0,
      p.1 ∙ l.invariant.2,
      ap length p.0.1 ∙ length-sets l.page.text.now l.page.at (filled_byte (get_or s i 0) n.result) ∙ l.invariant.3,
    )

pub returns : goal.returns
returns c =
    let l = c.loop-x in
    let a = c.args in
    (left-past a.page.now.text.now a.page.now.at (filled a.pattern.now a.numbers.now) l.page.text.now l.page.at l.invariant.1 (filled-past a.pattern.now a.numbers.now l.x-index l.k c.loop-x-test.false), l.invariant.2)
