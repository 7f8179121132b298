-- All examples that are proved: those marked P of document 01, "Examples by number", and those of request E1.
use Rattle.std.specs.Prelude.{List, ◌++◌}
use Rattle.gates.specs.Example.{Example}
use Rattle.laying.specs.Examples.{proved_examples}
use Rattle.qasm_reading.specs.Examples.{qasm_examples}

abbrev pub all_examples : List Example
all_examples = proved_examples ++ qasm_examples
