-- `words::byte::all_in_name` meets its contract. Assumes nothing.
use mathlib.Core.Path.{◌∙◌}
use Rattle.std.proofs.Common.{rules}
use borrow.Author.Tests.{tests}
use Rattle.std.proofs.lemmas.Iterator.{YieldsList-from_slice}
use Rattle.std.proofs.lemmas.Iterator.Search.{all_from_yields_List}
use Rattle.words.specs.Bytes.{in_name}
use Rattle.words.proofs.Runs.{names-all}
use Rattle.words.proofs.byte.all_in_name.Goals as goal

pub returns : goal.returns
returns c = all_from_yields_List in_name _ _ _ c.all.ensures.ran (YieldsList-from_slice c.args.w.now cc) (λ x b q k. search (rules, tests)) ∙ names-all c.args.w.now
