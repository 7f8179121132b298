-- `angles::times` meets its contract. Assumes nothing.
use mathlib.Core.Path.{sym, ap, ◌∙◌}
use Prim.Native.Nat.{◌*◌}
use Rattle.angles.specs.Units.{signed_of}
use Rattle.angles.proofs.Signs.{product-fits, minus-fits, minus_is, plus-is}
use Rattle.angles.proofs.times.Goals as goal

pub overflow_mul-size : goal.overflow_mul-size
overflow_mul-size c = product-fits c.args.k c.args.each c.ranges.k c.requires

pub overflow_sub-result : goal.overflow_sub-result
overflow_sub-result c = let s = c in minus-fits s.args.k s.args.each s.ranges.k s.requires

pub returns-then-minus : goal.returns-then-minus
returns-then-minus c =
    let s = c in
    minus_is s.args.k s.args.each s.ranges.k s.requires ∙ ap (λ m. signed_of m (s.args.k * s.args.each)) (sym c.if-minus.true)

pub returns : goal.returns
returns c =
    let s = c in
    plus-is s.args.k s.args.each s.ranges.k s.requires ∙ ap (λ m. signed_of m (s.args.k * s.args.each)) (sym c.if-minus.false)
