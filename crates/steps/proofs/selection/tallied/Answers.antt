-- `steps::selection::tallied` meets its contract. Assumes nothing.
use Rattle.std.proofs.Common.{◌≡◌, refl, ℕ, ◌+◌, Bool, true, false, get_or, rules}
use Rattle.std.specs.Int.{from_bool}
use Rattle.sets.specs.Bit.{has}
use Rattle.sets.specs.Tables.{one}
use Rattle.sets.proofs.Making.{tab-made}
use Rattle.steps.specs.Selection.{tallied_of}
use Rattle.steps.proofs.selection.tallied.Goals as goal

from-one : (b : Bool) → from_bool b ≡ one b
from-one true = refl
from-one false = refl

pub returns : goal.returns
unfolding tallied_of
returns c =
    let a = c.args in
    tab-made _ (λ (q : ℕ). get_or a.z q 0 + one (has a.x q)) _ (λ q n f r. search (rules, from-one)) _ 20 0 c.from_fn.ensures.items
