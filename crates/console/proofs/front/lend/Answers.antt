-- `console::front::lend` meets its contract. Assumes nothing.
use mathlib.Core.Path.{ap, ap₂, ◌∙◌}
use mathlib.Core.List.{List, ◌++◌}
use Prim.Native.Nat.{ℕ}
use native.Mathlib.Omega.{arith}
use lib.ListN.{length, drop, length-take}
use Rattle.lines.specs.Lent.{onto}
use Rattle.console.proofs.front.lend.Goals as goal

pub slice_bounds-copy_from_slice-end : goal.slice_bounds-copy_from_slice-end
slice_bounds-copy_from_slice-end c = omega (arith, ap length c.first-own.ensures, length-take 65537 c.args.text.now)

pub returns : goal.returns
returns c =
    let own = c.first-own.ensures in
    ap₂ (λ (xs : List ℕ) (n : ℕ). xs ++ drop n c.args.input.now) (c.copy_from_slice.ensures.after ∙ own) (ap length own)
