-- Examples joined. Assumes nothing.
use mathlib.Core.List.{List, [], ◌∷◌, ◌++◌}
use Rattle.gates.specs.Example.{Example, AllHold}

-- two lists of examples hold together
pub true-append : (es fs : List Example) → AllHold es → AllHold fs → AllHold (es ++ fs)
unfolding AllHold
true-append [] fs a b = b
true-append (e ∷ es) fs a b = (a.0, true-append es fs a.1 b)
