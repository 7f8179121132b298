-- `judging::reach::some_scattered` meets its contract. Assumes nothing.
use Rattle.std.proofs.Common.{rules, tests, ◌∙◌}
use Rattle.std.proofs.lemmas.Iterator.{YieldsList-from_slice}
use Rattle.std.proofs.lemmas.Iterator.Search.{any_from_yields_List}
use Rattle.sets.proofs.Searching.{any-some}
use Rattle.judging.specs.Tests.{scatters, scattered}
use Rattle.judging.proofs.reach.some_scattered.Goals as goal

pub returns : goal.returns
unfolding scattered
returns c =
    any_from_yields_List (scatters c.args.islands) _ _ _ c.any.ensures.ran (YieldsList-from_slice c.args.parities.now cc) (λ x b q k. search (rules, tests))
    ∙ any-some (scatters c.args.islands) c.args.parities.now 0
