-- `words::byte::line_behind` meets its contract. Assumes nothing.
use mathlib.Core.Path.{sym, ap, ◌∙◌}
use Prim.Native.Nat.{◌+◌}
use lib.Dec.{eqb}
use Rattle.std.proofs.Common.{rules}
use borrow.Author.Tests.{tests}
use Rattle.std.proofs.lemmas.Iterator.{YieldsList-from_slice}
use Rattle.std.proofs.lemmas.Iterator.Consumers.{YieldsList-from_filter, count_from_yields_List}
use Rattle.std.proofs.lemmas.List.Sums.{length-filter}
use Rattle.words.proofs.Runs.{ended-count}
use Rattle.words.proofs.byte.line_behind.Goals as goal

pub returns : goal.returns
returns c =
    let s = c.args.text.now in
    ap (λ n. 1 + n) (count_from_yields_List c.filter.result _ c.count.ensures.ran (YieldsList-from_filter _ (λ x. eqb x 10) (YieldsList-from_slice s cc) c.filter.ensures.closure (λ x b q k. search (rules, tests)))
    ∙ length-filter (λ x. eqb x 10) s ∙ sym (ended-count s))
