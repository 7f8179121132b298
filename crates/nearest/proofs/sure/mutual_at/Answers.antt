-- `nearest::sure::mutual_at` meets its contract. Assumes nothing.
use mathlib.Core.Path.{refl}
use borrow.Author.Rules.{rules}
use Rattle.std.proofs.Common.{tests}
use Rattle.std.proofs.lemmas.Bool.{MatchBool-at_true}
use Rattle.std.proofs.lemmas.Iterator.{cases_from_all, YieldsList-from_range}
use Rattle.nearest.specs.Sure.{Answered}
use Rattle.nearest.proofs.Sureness.{mutual-all}
use Rattle.nearest.proofs.sure.mutual_at.Goals as goal

pub returns-then-near-u-lt-ABOVE : goal.returns-then-near-u-lt-ABOVE
returns-then-near-u-lt-ABOVE c =
    let cases = cases_from_all _ _ _ (Answered c.args.near c.args.u) (λ _. Unit {0}) c.all.ensures.ran (YieldsList-from_range 0 20 20 refl refl) (λ x q k. search (rules, tests)) (λ x q k. tt) in
    λ t. mutual-all _ _ c.if-near-u-lt-ABOVE.true (MatchBool-at_true _ _ t cases)
