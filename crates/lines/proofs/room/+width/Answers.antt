-- `lines::room::width` meets its contract, digit by digit. Assumes nothing.
use mathlib.Core.Path.{ap, ◌∙◌}
use native.Mathlib.Omega.{arith}
use Rattle.lines.proofs.Writes.{width-le, width-big}
use Prim.Native.Nat.{◌+◌, ◌/◌}
use Rattle.lines.proofs.room.+width.Goals as goal

pub overflow_add-result : goal.overflow_add-result
overflow_add-result t c = omega (arith, c.width.ensures, width-le (c.args.v / 10))

pub returns : goal.returns
returns t c = ap (λ n. n + 1) c.width.ensures ∙ width-big c.args.v c.if-v-lt10.false
