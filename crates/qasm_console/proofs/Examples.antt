-- All examples hold, in one statement. Assumes nothing.
use Rattle.gates.specs.Example.{AllHold}
use Rattle.gates.proofs.Examples.{true-append}
use Rattle.laying.specs.Examples.{proved_examples}
use Rattle.laying.proofs.Examples.{examples}
use Rattle.qasm_reading.specs.Examples.{qasm_examples}
use Rattle.qasm_reading.proofs.Examples.{qasm-examples}
use Rattle.qasm_console.specs.Examples.{all_examples}

pub all-examples : AllHold all_examples
all-examples = true-append proved_examples qasm_examples examples qasm-examples
