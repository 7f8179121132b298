-- Document 01's number, place and values of what `write` answers. Assumes nothing.
use mathlib.Core.Path.{◌≡◌}
use mathlib.Core.List.{List}
use Prim.Native.Nat.{ℕ}
use lib.Dec.{eqb}
use lib.ListN.{length}
use Rattle.sets.specs.Pick.{pick}
use Rattle.verdicts.specs.Verdicts.{number_of, verdict_in}
use Rattle.verdicts.proofs.Answered.{answered-verdict, answered-or}
use Rattle.text.specs.Writings.{write_bytes}
use Rattle.versions.specs.declared.Version.{Version}
use Rattle.qasm_lines.specs.Spelling.{circuit_text}
use Rattle.qasm_text.specs.Writings.{judged_circuit, circuit_writing}

module _ (v : Version) (n : ℕ) (gates : List ℕ) (g room : ℕ) where
  pub writing-verdict : verdict_in (circuit_writing v n gates g room) ≡ judged_circuit v n gates g room
  unfolding circuit_writing
  writing-verdict = answered-verdict (judged_circuit v n gates g room) (length (circuit_text v n gates g))

  pub writing-values : write_bytes (circuit_writing v n gates g room) ≡ pick (eqb (number_of (judged_circuit v n gates g room)) 0) (length (circuit_text v n gates g)) 0
  unfolding circuit_writing
  writing-values = answered-or (judged_circuit v n gates g room) (length (circuit_text v n gates g)) 0
