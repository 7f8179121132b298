-- An island that stands: it has no terms, and each of its wires is asked for its own parity. It needs no gates, so nothing is searched for it.
use Rattle.std.specs.Prelude.{◌≡◌, Bool, true, not, List, [], ℕ, eqb, get_or}
use Rattle.sets.specs.Pick.{both}
use Rattle.sets.specs.Bit.{has}
use Rattle.sets.specs.Size.{only_of}
use Rattle.sets.specs.Search.{some_of}
use Rattle.gates.specs.Limits.{most_qubits}
use Rattle.share.specs.OwnTable.{share_in}
use Rattle.share.specs.declared.own.Own.{Own}
use Rattle.ways.specs.Memory.{island_in_memory}

-- wire i of the island Q is asked for x, which is not its own parity
unfoldable pub off_of : ℕ → ℕ → ℕ → Bool
off_of Q i x = both (has Q i) (not (eqb x (only_of i)))

-- some wire of Q is asked for a parity that is not its own; N has what each wire is asked for
unfoldable pub some_off : ℕ → List ℕ → Bool
some_off Q N = some_of (λ i. off_of Q i (get_or N i 0)) most_qubits

-- no terms, and no such wire
unfoldable pub stands_of : Own → Bool
stands_of o = both (eqb o.terms.len 0) (not (some_off o.set o.asked))

-- if the island stands, laying it in both ways comes to no gates: so it is on each island of a job that passed tests 1 to 7
abbrev pub Idles : Own → Type 0
Idles o = stands_of o ≡ true → island_in_memory (share_in o) ≡ []
