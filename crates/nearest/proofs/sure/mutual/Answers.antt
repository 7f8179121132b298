-- `nearest::sure::mutual` meets its contract. Assumes nothing.
use mathlib.Core.Path.{refl}
use borrow.Author.Rules.{rules}
use Rattle.std.proofs.Common.{tests}
use Rattle.std.proofs.lemmas.Bool.{MatchBool-at_true}
use Rattle.std.proofs.lemmas.Iterator.{cases_from_all, YieldsList-from_range}
use Rattle.nearest.specs.Sure.{Mutual}
use Rattle.nearest.proofs.Sureness.{symm-all}
use Rattle.nearest.proofs.sure.mutual.Goals as goal

pub returns : goal.returns
returns c =
    let cases = cases_from_all _ _ _ (Mutual c.args.near) (λ _. Unit {0}) c.all.ensures.ran (YieldsList-from_range 0 20 20 refl refl) (λ x q k. search (rules, tests)) (λ x q k. tt) in
    λ t. symm-all _ (search rules) (MatchBool-at_true _ _ t cases)
