-- `tallies::depth::Layers::highest` meets its contract. Assumes nothing.
use mathlib.Core.Path.{◌≡◌}
use Prim.Native.Nat.{max}
use native.Mathlib.Omega.{arith}
use Rattle.std.specs.List.{fold}
use Rattle.tallies.proofs.Layers.{highest-folded}
use borrow.Author.Rules.{rules}
use Rattle.tallies.proofs.depth.Layers.highest.Goals as goal

pub returns : goal.returns
returns c =
    let e : c.fold.result ≡ fold (λ a k. max k a) 0 c.args.self.last = search rules in
    omega (arith, e, highest-folded c.args.self.last 0)
