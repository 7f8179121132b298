-- `isles::islands::islands` meets its contract. Assumes nothing.
use Prim.Native.Nat.{ℕ}
use Rattle.sets.specs.Size.{only_of}
use Rattle.sets.proofs.Making.{tab-made}
use Rattle.chip.specs.Graph.{closure}
use Rattle.isles.specs.Islands.{every_qubit}
use Rattle.isles.proofs.Isles.{islands-made}
use borrow.Author.Rules.{rules}
use Rattle.isles.proofs.islands.islands.Goals as goal

pub returns : goal.returns
returns c = islands-made _ _ (tab-made _ (λ (q : ℕ). closure c.args.near every_qubit 20 (only_of q)) _ (λ k x f r. search rules) _ 20 0 c.from_fn.ensures.items)
