-- `ending::closing::length_of` meets its contract. Assumes nothing.
use Rattle.ending.proofs.Recursion.{length-told}
use borrow.Author.Rules.{rules}
use Rattle.ending.proofs.closing.length_of.Goals as goal

pub returns : goal.returns
returns c = length-told _ _ _ _ _ _ (search rules) (search rules) c.ending.ensures.1
