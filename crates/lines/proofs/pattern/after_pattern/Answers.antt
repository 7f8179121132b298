-- `lines::pattern::after_pattern` meets its contract: what is left of the pattern leaves what the whole leaves. Assumes nothing.
use Rattle.std.proofs.Common.{◌+◌, length, get_or, drop, arith}
use Rattle.lines.specs.Pattern.{filled_byte, filled}
use Rattle.lines.proofs.Rooms.{room-turn, room-past}
use Rattle.lines.proofs.Filled.{uses-most, filled-turn, filled-past}
use Rattle.lines.proofs.pattern.after_pattern.Goals as goal

pub loop-x-preserved : goal.loop-x-preserved
loop-x-preserved c =
    let l = c.loop-x in
    let a = c.args in
    let i = l.x-index in
    let s = a.pattern.now in
    let vs = a.numbers.now in
    let u = c.used_by-k in
    let n = c.number_at in (
      omega (arith, l.invariant.0, u.ensures, uses-most (get_or s i 0)),
      room-turn a.room (length (filled s vs)) l.left l.invariant.1 (filled_byte (get_or s i 0) n.result) (filled (drop (i + 1) s) (drop (l.k + u.result) vs)) (filled-turn s vs i l.k c.loop-x-test.true n.ensures u.ensures) c.after_filled_byte-left.ensures,
    )

pub returns : goal.returns
returns c =
    let l = c.loop-x in
    let a = c.args in
    room-past a.room (length (filled a.pattern.now a.numbers.now)) l.left l.invariant.1 (filled-past a.pattern.now a.numbers.now l.x-index l.k c.loop-x-test.false)
